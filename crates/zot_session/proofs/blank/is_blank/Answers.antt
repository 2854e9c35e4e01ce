use Rattle.zot_session.proofs.BlankLemmas.{blank_is}
use Rattle.zot_session.proofs.blank.is_blank.Goals as goal

pub loop-b-init : goal.loop-b-init
loop-b-init c = blank_is c.args.bytes.now
