use Rattle.std.proofs.Common.{refl}
use Rattle.zot_head.specs.Limits.{trailer_limit}
use Rattle.zot_head.proofs.ProgressLemmas.{from_size-zero}
use Rattle.zot_head.proofs.after.after_size.Goals as goal

pub returns-in-Some-eq0-clause-same : goal.returns-in-Some-eq0-clause-same
unfolding trailer_limit
returns-in-Some-eq0-clause-same c = λ more. from_size-zero c.args.room c.args.size 16384 more (cc) refl
