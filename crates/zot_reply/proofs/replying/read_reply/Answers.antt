use Rattle.zot_model.specs.declared.reply.Reply.{Reply}
use Rattle.zot_spell.proofs.CutLemmas.{if_some}
use Rattle.zot_reply.specs.Reading.{Spells}
use Rattle.zot_reply.proofs.ReplyLemmas.{found_alike}
use Rattle.zot_reply.proofs.replying.read_reply.Goals as goal

pub returns-in-Some-clause-alike : goal.returns-in-Some-clause-alike
returns-in-Some-clause-alike c = λ reply real s.
    let t = if_some (λ (r : Reply). Spells c.args.request.now r c.args.bytes.now) c.in_ok-reply.field-0 c.in-Some.reply c.in_ok-reply.ensures.sound c.in-Some.is in
    found_alike c.args.request.now c.args.bytes.now reply c.in-Some.reply real c.real_values.ensures s t
