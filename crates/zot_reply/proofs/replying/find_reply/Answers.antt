use Rattle.zot_spell.proofs.CutLemmas.{matched, unmatched}
use Rattle.zot_reply.specs.Reading.{IsWanted, seen_of}
use Rattle.zot_reply.proofs.ReplyLemmas.{if_ok, wanted}
use Rattle.zot_reply.proofs.replying.find_reply.Goals as goal

pub returns-in-Some-clause-whole : goal.returns-in-Some-clause-whole
returns-in-Some-clause-whole c = if_ok c.find_split.result c.find_split.ensures.whole (λ found whole. λ reply real s.
    let w = wanted c.args.request.now c.args.bytes.now c.in_ok-split.field-0 c.has_values.ensures c.in_ok-split.ensures.apart reply real s in
    whole reply (matched (λ split. IsWanted c.args.request.now reply c.args.bytes.now (seen_of split)) c.in_ok-split.field-0 c.in-Some.split w c.in-Some.is))

pub returns-in-None-clause-whole : goal.returns-in-None-clause-whole
returns-in-None-clause-whole c = λ reply real s.
    let w = wanted c.args.request.now c.args.bytes.now c.in_ok-split.field-0 c.has_values.ensures c.in_ok-split.ensures.apart reply real s in
    absurd (unmatched (λ split. IsWanted c.args.request.now reply c.args.bytes.now (seen_of split)) c.in_ok-split.field-0 w c.in-None.is)
