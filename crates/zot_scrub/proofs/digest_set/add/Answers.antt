use Rattle.std.proofs.Common.{◌∙◌}
use Rattle.std.specs.BTreeSet.{contains}
use Rattle.zot_digest.specs.ByteMap.{byte_cmp}
use Rattle.zot_scrub.proofs.SetLemmas.{added}
use Rattle.zot_scrub.proofs.digest_set.add.Goals as goal

pub returns-in-Ok : goal.returns-in-Ok
returns-in-Ok c = λ other. c.in-Ok.ensures.updates.0 other ∙ added c.args.digest other (contains byte_cmp c.args.set.now other)
