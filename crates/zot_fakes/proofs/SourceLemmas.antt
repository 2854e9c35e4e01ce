-- What a read of a source in memory does.
use Rattle.std.proofs.Common.{◌≡◌, ℕ, ◌+◌, ◌-◌, ◌≤◌, List, ◌++◌, length, take, drop, min, Some, refl, sym, ap, ◌∙◌, arith, slice_range}
use Rattle.std.proofs.lemmas.List.{drop_all, drop-drop, length-drop, length-take, take-append-drop}
use Rattle.std.proofs.Math.Seq.{take-append_seam}
use Rattle.zot_outside.specs.Streams.{Reads}

-- a read of a piece that is the first part of what is left
pub read_piece : (bytes : List ℕ) (start n room : ℕ) (rest piece : List ℕ) → start ≤ length bytes → n ≡ min room (length bytes - start)
    → piece ≡ slice_range bytes start (start + n) → Reads (Some (drop start bytes)) room (piece ++ rest) n (Some (drop (start + n) bytes))
read_piece bytes start n room rest piece within fits is =
    let width : start + n - start ≡ n = omega arith in
    let cut : piece ≡ take n (drop start bytes) = is ∙ ap (λ k. take k (drop start bytes)) width in
    let left = length-drop start bytes in
    let long : length piece ≡ n = ap length cut ∙ (length-take n (drop start bytes) ∙ omega arith) in
    let front : take n (piece ++ rest) ≡ piece = ap (λ k. take k (piece ++ rest)) (sym long) ∙ take-append_seam piece rest in
    let parts : drop start bytes ≡ piece ++ drop (start + n) bytes =
    sym (take-append-drop n (drop start bytes)) ∙ ap (λ p. p ++ drop n (drop start bytes)) (sym cut) ∙ ap (λ d. piece ++ d) (drop-drop n start bytes) in
    record {
      within = omega arith;
      taken = (drop (start + n) bytes, parts ∙ ap (λ p. p ++ drop (start + n) bytes) (sym front), refl);
      over = λ none room_left. drop_all (start + n) bytes (omega arith);
    }
