use Rattle.std.proofs.Common.{◌≡◌, ◌∙◌, ◌∷◌, ◌==◌, List, ℕ, length, length-append, take, drop, ap, ap₂, arith}
use Rattle.std.specs.List.{before_first, position_or_len}
use Rattle.std.proofs.lemmas.List.{length-take}
use Rattle.std.proofs.Math.Seq.{take-append_seam}
use Rattle.zot_spell.proofs.CutLemmas.{before_end, after_end, drop_seam, free_all, joined_at}
use Rattle.zot_spell.proofs.cutting.cut.Goals as goal

pub returns-then-place-bytes-clause-found : goal.returns-then-place-bytes-clause-found
returns-then-place-bytes-clause-found c = λ text rest free e.
    let t : c.before-place.result.now ≡ text = c.before-place.ensures ∙ ap (λ (bytes : List ℕ). before_first (λ (b : ℕ). b == c.args.end) bytes) e ∙ before_end c.args.end text rest free in
    let n = ap length t in
    absurd (omega (arith, n, simp length-append at (ap length e), c.if-place-bytes.true))

pub returns-clause-found : goal.returns-clause-found
returns-clause-found c = λ text rest free e.
    let t : c.before-place.result.now ≡ text = c.before-place.ensures ∙ ap (λ (bytes : List ℕ). before_first (λ (b : ℕ). b == c.args.end) bytes) e ∙ before_end c.args.end text rest free in
    let n = ap length t in (
      c.split_at.ensures.front ∙ ap₂ (λ (n : ℕ) (bytes : List ℕ). take n bytes) n e ∙ take-append_seam text (c.args.end ∷ rest),
      after_end c.split_at.result.1.now c.args.end rest (c.split_at.ensures.back ∙ ap₂ (λ (n : ℕ) (bytes : List ℕ). drop n bytes) n e ∙ drop_seam text (c.args.end ∷ rest)),
    )

pub returns-clause-none : goal.returns-clause-none
returns-clause-none c = λ free.
    let n = ap length (c.before-place.ensures ∙ free_all c.args.end c.args.bytes.now free) in
    absurd (omega (arith, n, c.if-place-bytes.false))

pub returns-clause-joined : goal.returns-clause-joined
returns-clause-joined c =
    let p = ap length c.before-place.ensures in
    joined_at c.args.bytes.now c.split_at.result.0.now c.split_at.result.1.now c.args.end (length c.before-place.result.now) p c.split_at.ensures.front c.split_at.ensures.back
    (omega (arith, p, length-take (position_or_len (λ (b : ℕ). b == c.args.end) c.args.bytes.now) c.args.bytes.now, c.if-place-bytes.false))
