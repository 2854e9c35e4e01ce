use Rattle.zot_reply.specs.Reading.{seen_of}
use Rattle.zot_reply.proofs.ReplyLemmas.{if_ok, refusal_found, some_none, success_found}
use Rattle.zot_reply.proofs.replying.find_split.Goals as goal

pub returns-in-None-clause-whole : goal.returns-in-None-clause-whole
returns-in-None-clause-whole c =
    let request = c.args.request.now in
    let seen = seen_of c.args.split.now in
    if_ok c.read_refusals.result c.read_refusals.ensures.whole (λ found. refusal_found request c.args.bytes.now seen c.as_slice.result.now found c.as_slice.ensures
    (λ reply success w. some_none _ (c.in_ok-reply.ensures.whole (success_found request c.args.bytes.now seen c.in_ok-success.success reply c.in_ok-success.ensures success w)) c.in-None.is))
