use Rattle.std.proofs.Common.{None, sym, ap, ◌∙◌}
use Rattle.std.specs.FinMap as map
use Rattle.zot_digest.specs.ByteMap.{map_of}
use Rattle.zot_fakes.proofs.MapLemmas.{appended, made, not_appended}
use Rattle.zot_maps.proofs.Maps.{byte_order, found_at}
use Rattle.zot_fakes.proofs.object_map.ObjectMap.append.Goals as goal

pub returns-in-Some-clause-ok : goal.returns-in-Some-clause-ok
returns-in-Some-clause-ok c =
    appended c.self.inside.tree.entries (c.get_mut.follows.lender c.extend.new.bytes).entries c.args.self.now c.in_ok-key.key c.args.path.now c.in-Some.object.now c.args.bytes.now c.extend.new.bytes
    c.self.view_is c.in_ok-key.ensures c.in-Some.ensures.value (c.get_mut.follows.holds c.extend.new.bytes).3 c.extend.result c.extend.ensures.ok

pub returns-in-Some-clause-err : goal.returns-in-Some-clause-err
returns-in-Some-clause-err c =
    not_appended c.self.inside.tree.entries (c.get_mut.follows.lender c.extend.new.bytes).entries c.args.self.now c.in_ok-key.key c.in-Some.object.now c.extend.new.bytes
    c.self.view_is c.in-Some.ensures.value (c.get_mut.follows.holds c.extend.new.bytes).3 c.extend.result c.extend.ensures.err

pub returns-in_ok-from_slice-in-None-clause-ok : goal.returns-in_ok-from_slice-in-None-clause-ok
returns-in_ok-from_slice-in-None-clause-ok c =
    let before = ap (λ m. map_of m.entries) c.get_mut.follows.holds-at-none ∙ c.self.view_is in
    let none = ap (map.get c.args.self.now) (sym c.in_ok-key.ensures) ∙ found_at byte_order c.self.inside.tree.entries c.args.self.now c.in_ok-key.key None c.self.view_is c.in-None.ensures.value in
    made c.set.result _ c.set.new.self c.args.self.now _ c.args.path.now _ c.args.bytes.now before (c.key.view_is ∙ c.in_ok-key.ensures) (c.new.ensures ∙ c.in_ok-from_slice-in-None.ensures.items) none c.set.ensures.ok
