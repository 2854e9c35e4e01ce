use Rattle.std.proofs.Common.{rules, ◌≡◌, ap}
use Rattle.zot_digest.specs.ByteMap.{map_of}
use Rattle.zot_contents.proofs.KeptLemmas.{noted_new, noted_written}
use Rattle.zot_contents.proofs.digests.Digests.note.Goals as goal

pub returns-in-Some : goal.returns-in-Some
returns-in-Some c =
    noted_written c.add.result c.self.inside.tree.entries (c.get_mut.follows.lender c.add.new.links).entries c.args.self.now c.args.digest c.in-Some.links.now c.add.new.links c.args.name c.self.view_is
    c.in-Some.ensures.value (c.get_mut.follows.holds c.add.new.links).3 c.add.ensures

pub returns-in_ok-add-in-None : goal.returns-in_ok-add-in-None
returns-in_ok-add-in-None c =
    let same : c.get_mut.follows.lender-at-none.entries ≡ c.self.inside.tree.entries = search rules in
    noted_new c.set.result c.self.inside.tree.entries c.args.self.now (map_of c.get_mut.follows.lender-at-none.entries) c.set.new.self c.args.digest c.new-links.result c.add-in-None.new.links c.args.name c.self.view_is (ap map_of same) c.in-None.ensures.value c.new-links.ensures
    c.in_ok-add-in-None.ensures c.set.ensures.ok
