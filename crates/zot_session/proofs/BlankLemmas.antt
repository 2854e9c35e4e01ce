-- Empty lines alone are as long as the empty lines in front.
use Rattle.std.proofs.Common.{◌≡◌, ℕ, suc, eqb, ◌==◌, ◌&&◌, not, if◌then◌else◌, Bool, true, false, List, [], ◌∷◌, length, refl, sym, ◌∙◌, ◌⊎◌, inl, inr, arith}
use Rattle.std.proofs.lemmas.Bool.Decides.{nat_tests}
use Rattle.zot_head.specs.Lines.{blank_len}

-- nothing but empty lines, where `cr` says that a CR stands before the bytes
abbrev pub blank_after : Bool → List ℕ → Bool
blank_after cr [] = not cr
blank_after cr (b ∷ bytes) = if b == 10 then blank_after false bytes else (if b == 13 && not cr then blank_after true bytes else false)

cases : (t : Bool) → (t ≡ true) ⊎ (t ≡ false)
cases true = inl refl
cases false = inr refl

suc_eq : (m n : ℕ) → eqb (suc m) (suc n) ≡ eqb m n
suc_eq m n = go (eqb m n) refl
  where
    go : (t : Bool) → eqb m n ≡ t → eqb (suc m) (suc n) ≡ t
    go true e = grind (arith, nat_tests, e)
    go false e = grind (arith, nat_tests, e)

zero_suc : (n : ℕ) → false ≡ eqb 0 (suc n)
zero_suc n = go (eqb 0 (suc n)) refl
  where
    go : (t : Bool) → eqb 0 (suc n) ≡ t → false ≡ t
    go true e = absurd (grind (arith, nat_tests, e))
    go false e = refl

pub blank_is : (bytes : List ℕ) → blank_after false bytes ≡ eqb (blank_len bytes) (length bytes)
blank_is [] = refl
blank_is (a ∷ []) =
    elim (cases (eqb a 10)) [
      | inl p ↦ rw p refl
      | inr p ↦ elim (cases (eqb a 13)) [ inl q ↦ rw (p, q) refl | inr q ↦ rw (p, q) refl ]
    ]
blank_is (a ∷ b ∷ bytes) =
    elim (cases (eqb a 10)) [
      | inl p ↦ rw p (blank_is (b ∷ bytes) ∙ sym (suc_eq (blank_len (b ∷ bytes)) (length (b ∷ bytes))))
      | inr p ↦ elim (cases (eqb a 13)) [
        | inl q ↦ elim (cases (eqb b 10)) [
          | inl r ↦ rw (p, q, r) (blank_is bytes ∙ sym (suc_eq (blank_len bytes) (length bytes)) ∙ sym (suc_eq (suc (blank_len bytes)) (suc (length bytes))))
          | inr r ↦ elim (cases (eqb b 13)) [ inl s ↦ rw (p, q, r, s) (zero_suc (suc (length bytes))) | inr s ↦ rw (p, q, r, s) (zero_suc (suc (length bytes))) ]
        ]
        | inr q ↦ rw (p, q) (zero_suc (suc (length bytes)))
      ]
    ]
