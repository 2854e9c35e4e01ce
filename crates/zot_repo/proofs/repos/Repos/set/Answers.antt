use Rattle.std.proofs.Common.{ap, ◌∙◌}
use Rattle.std.specs.FinMap as map
use Rattle.zot_maps.proofs.Maps.{byte_order, entries-insert}
use Rattle.zot_repo.specs.Rows.{Tables}
use Rattle.zot_repo.proofs.repos.Repos.set.Goals as goal

pub returns-clause-ok : goal.returns-clause-ok
returns-clause-ok c =
    entries-insert byte_order c.self.inside.tree.entries c.insert.new.self.entries c.args.name c.args.repository c.in_ok-insert.ensures.updates.0
    ∙ ap (λ (m : Tables). map.insert m c.args.name c.args.repository) c.self.view_is
