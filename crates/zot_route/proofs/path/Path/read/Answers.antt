use Rattle.zot_route.proofs.EndingLemmas.{path_read}
use Rattle.zot_route.proofs.path.Path.read.Goals as goal

pub returns : goal.returns
returns c = path_read c.args.segments.now c.in-Some.after.now c.read_after_version.result c.in-Some.ensures c.read_after_version.ensures
