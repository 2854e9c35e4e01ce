use Rattle.zot_head.specs.Progress.{trailer_end}
use Rattle.zot_head.proofs.ProgressLemmas.{trailer-next}
use Rattle.zot_head.proofs.after.after_trailer_byte.Goals as goal

pub returns-in-Some-2-clause-same : goal.returns-in-Some-2-clause-same
returns-in-Some-2-clause-same c = λ room line more.
    trailer-next (trailer_end c.args.so_far) (trailer_end c.in-Some.field-0) c.args.left c.args.byte more c.requires c.in-Some.ensures
