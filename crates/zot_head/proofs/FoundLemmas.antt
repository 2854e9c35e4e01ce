-- A part of a message, looked for in the first bytes alone.
use Rattle.std.proofs.Common.{◌≡◌, ℕ, ◌<◌, ◌≤◌, true, false, List, length, take, min, refl, arith, leb, Option, Some, None}
use Rattle.std.proofs.lemmas.List.{take_min}
use Rattle.std.proofs.lemmas.Bool.Decides.{nat_tests}
use Rattle.zot_head.specs.Lines.{Ends, Passes, Goes, extent}

module _ (part_end : List ℕ → Option ℕ) (limit k : ℕ) (bytes : List ℕ) (least : k ≡ min (length bytes) limit) where
  window : take k bytes ≡ take limit bytes
  window = let swapped : k ≡ min limit (length bytes) = grind arith in rw swapped (take_min limit bytes)

  pub extent_ends : (n : ℕ) → Some n ≡ part_end (take k bytes) → extent part_end limit bytes ≡ Ends n
  extent_ends n e = rw (← window, ← e) refl

  pub extent_goes : None ≡ part_end (take k bytes) → length bytes < limit → extent part_end limit bytes ≡ Goes
  extent_goes e lt = let short : leb limit (length bytes) ≡ false = grind (arith, nat_tests) in rw (← window, ← e, short) refl

  pub extent_passes : None ≡ part_end (take k bytes) → limit ≤ length bytes → extent part_end limit bytes ≡ Passes
  extent_passes e le = let long : leb limit (length bytes) ≡ true = grind (arith, nat_tests) in rw (← window, ← e, long) refl
