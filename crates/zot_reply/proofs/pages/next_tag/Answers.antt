use Rattle.std.proofs.Common.{◌++◌, ◌∷◌, refl}
use Rattle.serde_json.specs.Written.{comma_if}
use Rattle.zot_reply.specs.Pages.{tags_text}
use Rattle.std.proofs.Common.{true}
use Rattle.zot_reply.proofs.PageLemmas.{comma_free}
use Rattle.zot_reply.proofs.TextLemmas.{tag_free}
use Rattle.zot_reply.proofs.pages.next_tag.Goals as goal

pub returns-in-Some-2-clause-first : goal.returns-in-Some-2-clause-first
returns-in-Some-2-clause-first c = λ later tag tags is e.
    let b = c.in-Some.ensures.found (comma_if later) (tag ++ (34 ∷ tags_text true tags)) (comma_free later) e in
    let t = c.in-Some-cut.ensures.found tag (tags_text true tags) (tag_free 34 tag refl is) b.1 in
    (cc (c.in_ok-tag.ensures tag is t.0, c.in-Some-2.is), t.1)

pub returns-in-None-clause-first : goal.returns-in-None-clause-first
returns-in-None-clause-first c = λ later tag tags is e.
    let b = c.in-Some.ensures.found (comma_if later) (tag ++ (34 ∷ tags_text true tags)) (comma_free later) e in
    let t = c.in-Some-cut.ensures.found tag (tags_text true tags) (tag_free 34 tag refl is) b.1 in
    cc (c.in_ok-tag.ensures tag is t.0, c.in-None.is)
