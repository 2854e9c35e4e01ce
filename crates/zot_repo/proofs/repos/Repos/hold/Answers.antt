use Rattle.zot_repo.proofs.OpenLemmas.{hold_is}
use Rattle.zot_repo.proofs.repos.Repos.hold.Goals as goal

pub returns : goal.returns
returns c = hold_is c.hold_kept.result c.args.self.now c.keep.new.self c.hold_kept.new.self c.args.moment c.args.holding.now c.in_ok-keep.ensures.same c.hold_kept.ensures.found c.hold_kept.ensures.sets c.hold_kept.ensures.kept
