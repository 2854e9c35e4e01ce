use Rattle.std.proofs.Common.{sym, ap, ◌∙◌}
use Rattle.zot_spell.specs.Spelling.{parts_of}
use Rattle.zot_reply.specs.Reading.{Seen, seen_of}
use Rattle.zot_reply.proofs.ReplyLemmas.{if_ok, refusal_spells}
use Rattle.zot_reply.proofs.refusals.read_refusal.Goals as goal

pub returns-then-status-split-clause-whole : goal.returns-then-status-split-clause-whole
unfolding parts_of
returns-then-status-split-clause-whole c = λ detail has w. absurd (c.if-status-split.true (c.status-status.ensures ∙ sym (ap (λ (s : Seen). s.status) w.is_seen.1)))

pub returns-clause-whole : goal.returns-clause-whole
returns-clause-whole c = if_ok c.confirm.result c.confirm.ensures.whole (λ found whole. λ detail has w.
    whole (refusal_spells c.args.request.now c.args.code c.args.bytes.now (seen_of c.args.split.now) detail c.detail_of-detail.result c.status-status.result
    c.status-status.ensures c.real_values.ensures c.detail_of-detail.ensures.kind c.detail_of-detail.ensures.read has w))
