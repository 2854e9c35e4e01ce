use Rattle.std.proofs.Common.{ap, ◌∙◌}
use Rattle.std.specs.FinMap as map
use Rattle.zot_maps.proofs.Maps.{byte_order, entries-insert}
use Rattle.zot_contents.specs.Shards.{Kept}
use Rattle.zot_contents.proofs.digests.Digests.set.Goals as goal

pub returns-clause-ok : goal.returns-clause-ok
returns-clause-ok c =
    entries-insert byte_order c.self.inside.tree.entries c.insert.new.self.entries c.args.digest c.args.links c.in_ok-insert.ensures.updates.0
    ∙ ap (λ (m : Kept). map.insert m c.args.digest c.args.links) c.self.view_is
