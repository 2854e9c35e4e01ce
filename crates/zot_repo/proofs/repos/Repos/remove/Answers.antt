use Rattle.std.proofs.Common.{ap, ◌∙◌}
use Rattle.std.specs.FinMap as map
use Rattle.zot_maps.proofs.Maps.{byte_order, entries-remove}
use Rattle.zot_repo.specs.Rows.{Tables}
use Rattle.zot_repo.proofs.repos.Repos.remove.Goals as goal

pub returns : goal.returns
returns c =
    entries-remove byte_order c.self.inside.tree.entries c.remove.new.self.entries c.args.name.now c.remove.ensures.updates.0
    ∙ ap (λ (m : Tables). map.remove m c.args.name.now) c.self.view_is
