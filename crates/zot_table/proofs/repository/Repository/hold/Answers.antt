use Rattle.std.proofs.Common.{ap, ◌∙◌}
use Rattle.zot_table.proofs.ChangeLemmas.{held_is}
use Rattle.zot_table.specs.Changes.{with_entry}
use Rattle.zot_table.specs.Tables.{RepoTable}
use Rattle.zot_table.proofs.repository.Repository.hold.Goals as goal

pub returns-clause-ok : goal.returns-clause-ok
returns-clause-ok c =
    c.fill.ensures ∙ ap (λ (r : RepoTable). with_entry c.args.moment r c.args.digest.now c.args.size) c.in_ok-reserve.ensures.ok
    ∙ held_is c.args.moment c.args.self.now c.args.digest.now c.args.size
