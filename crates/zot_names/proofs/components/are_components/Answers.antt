use Rattle.std.proofs.Common.{◌≡◌, ℕ, ◌+◌, ◌<◌, ◌==◌, ◌&&◌, Bool, true, false, List, drop, length, get_or, sym, ◌∙◌, ap, arith, rules, tests}
use Rattle.std.proofs.lemmas.Iterator.Consumers.{YieldsList-turn, YieldsList-end}
use Rattle.std.proofs.lemmas.Iterator.Splits.{YieldsList-from_slice_split}
use Rattle.std.proofs.lemmas.List.{at_drop_more, at_drop_all, length_push}
use Rattle.zot_names.specs.Name.{components_of, slash}
use Rattle.zot_names.specs.Reading.{may_all_follow, may_follow}
use Rattle.zot_names.proofs.components.are_components.Goals as goal

-- what is left to look at, where its first part is this one
from_part : (previous part : List ℕ) (parts : List (List ℕ)) (i : ℕ) → (i < length parts) × (part ≡ get_or parts i part)
    → may_all_follow previous (drop i parts) ≡ (may_follow previous part && may_all_follow part (drop (i + 1) parts))
from_part previous part parts i h =
    at_drop_more (may_all_follow previous) parts i part h.0
    ∙ ap (λ p. may_follow previous p && may_all_follow p (drop (i + 1) parts)) (sym h.1)

refused : (all this rest b : Bool) → all ≡ (this && rest) → b ≡ this → b ≡ false → false ≡ all
refused all this rest b e f h = sym (e ∙ ap (λ t. t && rest) (sym f ∙ h))

passed : (all this rest b : Bool) → all ≡ (this && rest) → b ≡ this → b ≡ true → all ≡ rest
passed all this rest b e f h = e ∙ ap (λ t. t && rest) (sym f ∙ h)

pub returns-then-not-may_follow : goal.returns-then-not-may_follow
returns-then-not-may_follow c =
    let t = YieldsList-turn (YieldsList-from_slice_split _ (λ b. b == slash) c.args.bytes.now (cc) (cc) (cc) (λ x r q k. search (rules, tests))) c.loop-part.yielded _ c.loop-part.yielded_by _ _ c.in-Some.part c.in-Some.is c.next.ensures.steps in
    let e = from_part c.loop-part.previous.now c.in-Some.part.now (components_of c.args.bytes.now) (length c.loop-part.yielded) t in
    refused _ _ _ _ (c.loop-part.invariant ∙ e) c.may_follow.ensures c.if-not-may_follow.true

pub loop-part-preserved : goal.loop-part-preserved
loop-part-preserved c =
    let t = YieldsList-turn (YieldsList-from_slice_split _ (λ b. b == slash) c.args.bytes.now (cc) (cc) (cc) (λ x r q k. search (rules, tests))) c.loop-part.yielded _ c.loop-part.yielded_by _ _ c.in-Some.part c.in-Some.is c.next.ensures.steps in
    let e = from_part c.loop-part.previous.now c.in-Some.part.now (components_of c.args.bytes.now) (length c.loop-part.yielded) t in
    let all = passed _ _ _ _ (c.loop-part.invariant ∙ e) c.may_follow.ensures c.if-not-may_follow.false in
    rw (length_push c.loop-part.yielded c.in-Some.part) all

pub returns : goal.returns
returns c =
    let t = YieldsList-end (YieldsList-from_slice_split _ (λ b. b == slash) c.args.bytes.now (cc) (cc) (cc) (λ x r q k. search (rules, tests))) c.loop-part.yielded _ c.loop-part.yielded_by _ _ c.in-None.is c.next.ensures.steps in
    sym (c.loop-part.invariant ∙ at_drop_all (may_all_follow c.loop-part.previous.now) (components_of c.args.bytes.now) (length c.loop-part.yielded) (omega (arith, t.1)))
