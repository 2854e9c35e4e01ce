use Rattle.std.proofs.Common.{List, ℕ, sym, subst}
use Rattle.zot_spell.proofs.CutLemmas.{matched, unmatched}
use Rattle.zot_reply.proofs.PageLemmas.{AreLeft, IsFirst, left_more, left_none}
use Rattle.zot_reply.proofs.pages.tags_in.Goals as goal

pub loop-tags-preserved : goal.loop-tags-preserved
loop-tags-preserved c = λ tags all e.
    subst (λ (x : List (List ℕ)). AreLeft tags x c.in-Some.rest.now) (sym c.in_ok-push.ensures.items)
    (left_more c.loop-tags.tags.items tags c.loop-tags.left.now c.in-Some.rest.now c.in-Some.tag (c.loop-tags.invariant tags all e)
    (λ last. cc (c.in_ok-tag.ensures.last last, c.in-Some.is))
    (λ later t ts is first. matched (IsFirst t ts) c.in_ok-tag.field-0 (c.in-Some.tag, c.in-Some.rest) (c.in_ok-tag.ensures.first later t ts is first) c.in-Some.is))

pub returns : goal.returns
returns c = λ tags all e.
    left_none c.loop-tags.tags.items tags c.loop-tags.left.now (c.loop-tags.invariant tags all e)
    (λ later t ts is first. unmatched (IsFirst t ts) c.in_ok-tag.field-0 (c.in_ok-tag.ensures.first later t ts is first) c.in_default.is)
