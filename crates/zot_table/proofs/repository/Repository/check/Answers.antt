use Rattle.std.proofs.Common.{subst}
use Rattle.zot_manifests.specs.Check.{Answers, check_of}
use Rattle.zot_table.specs.Tables.{RepoTable, size_at}
use Rattle.zot_table.proofs.repository.Repository.check.Goals as goal

pub returns : goal.returns
returns c = subst (λ (r : RepoTable). Answers c.check.result (check_of (size_at r.slots) c.args.reference.now c.args.media c.args.body.now)) c.self.view_is c.check.ensures
