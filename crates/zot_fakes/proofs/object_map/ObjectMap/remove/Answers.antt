use Rattle.std.proofs.Common.{ap, sym, ◌∙◌, is_some}
use Rattle.std.specs.FinMap as map
use Rattle.zot_maps.proofs.Maps.{byte_order, entries-remove, found_at}
use Rattle.zot_outside.specs.Objects.{Objects}
use Rattle.zot_fakes.proofs.object_map.ObjectMap.remove.Goals as goal

pub returns-clause-was : goal.returns-clause-was
returns-clause-was c =
    c.is_some.ensures
    ∙ ap is_some (sym (ap (map.get c.args.self.now) (sym c.in_ok-key.ensures) ∙ found_at byte_order c.self.inside.tree.entries c.args.self.now c.in_ok-key.key c.remove.result c.self.view_is c.remove.ensures.value))

pub returns-clause-ok : goal.returns-clause-ok
returns-clause-ok c =
    entries-remove byte_order c.self.inside.tree.entries c.remove.new.self.entries c.in_ok-key.key c.remove.ensures.updates.0
    ∙ ap (λ (m : Objects). map.remove m c.in_ok-key.key) c.self.view_is ∙ ap (map.remove c.args.self.now) c.in_ok-key.ensures
