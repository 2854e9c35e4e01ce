use Rattle.zot_route.proofs.LineLemmas.{none_named}
use Rattle.zot_route.proofs.lines.media_named.Goals as goal

pub returns-in-Err : goal.returns-in-Err
returns-in-Err c = none_named c.args.bytes.now c.in-Err.ensures.cases.0
