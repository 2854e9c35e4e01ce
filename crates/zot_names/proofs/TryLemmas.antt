-- What each step of a glob's match keeps.
use Rattle.std.proofs.Common.{◌≡◌, ℕ, Bool, true, false, inl, inr, List, [], ◌∷◌, ◌++◌, refl, sym, ap, subst, ◌∙◌, append_assoc}
use Rattle.std.specs.Prelude.{◌↔◌}
use Rattle.zot_names.proofs.GlobLemmas.{across_across, across_bytes, across_end, across_less, across_more, across_none, across_within, after_bytes, bytes_of, stand_bytes, within_bytes, within_end, within_less, within_more, within_none, within_slash}
use Rattle.zot_names.specs.declared.piece.Piece.{Piece}
use Rattle.zot_names.specs.declared.piece.Piece.TheVariants.{Byte, Within, Across}
use Rattle.zot_names.specs.Glob.{Matches, StandFor, pieces_of}
use Rattle.zot_names.specs.Tries.{BeginsWithNone, BeginsWithOther, IsAfterBytes, IsAfterStar, IsLeft, after_star}

stand_at : (pieces other : List Piece) (text rest : List ℕ) → pieces ≡ other → text ≡ rest → StandFor pieces text → StandFor other rest
stand_at pieces other text rest e f h = subst (λ t. StandFor other t) f (subst (λ (p : List Piece). StandFor p text) e h)

-- ---- bytes

bytes-push : (bytes : List ℕ) (c : ℕ) (pieces : List Piece) → bytes_of bytes ++ (Byte c ∷ pieces) ≡ bytes_of (bytes ++ c ∷ []) ++ pieces
bytes-push [] c pieces = refl
bytes-push (b ∷ bytes) c pieces = ap (λ p. Byte b ∷ p) (bytes-push bytes c pieces)

pub bytes_more : (glob text pieces rest after left : List ℕ) (c : ℕ) → IsAfterBytes glob text pieces rest
    → pieces_of pieces ≡ Byte c ∷ pieces_of after → rest ≡ c ∷ left → IsAfterBytes glob text after left
bytes_more glob text pieces rest after left c h e f = record {
  bytes = h.bytes ++ c ∷ [];
  glob_is = h.glob_is ∙ ap (λ p. bytes_of h.bytes ++ p) e ∙ bytes-push h.bytes c (pieces_of after);
  text_is = h.text_is ∙ ap (λ t. h.bytes ++ t) f ∙ sym (append_assoc h.bytes (c ∷ []) left);
}

pub bytes_whole : (glob text pieces rest : List ℕ) → IsAfterBytes glob text pieces rest → StandFor (pieces_of pieces) rest → StandFor (pieces_of glob) text
bytes_whole glob text pieces rest h k = stand_at _ _ _ _ (sym h.glob_is) (sym h.text_is) (stand_bytes h.bytes rest (pieces_of pieces) k)

pub bytes_fail : (glob text pieces rest : List ℕ) → IsAfterBytes glob text pieces rest → ¬ StandFor (pieces_of pieces) rest → ¬ StandFor (pieces_of glob) text
bytes_fail glob text pieces rest h none k = none (after_bytes h.bytes rest (pieces_of pieces) (stand_at _ _ _ _ h.glob_is h.text_is k))

-- ---- a star after bytes

module _ (star : Piece) (glob text after rest : List ℕ) (h : IsAfterStar star glob text after rest) where
  to_star : StandFor (pieces_of glob) text → StandFor (star ∷ pieces_of after) rest
  to_star k = after_bytes h.bytes rest (star ∷ pieces_of after) (stand_at _ _ _ _ h.glob_is h.text_is k)

  from_star : StandFor (star ∷ pieces_of after) rest → StandFor (pieces_of glob) text
  from_star k = stand_at _ _ _ _ (sym h.glob_is) (sym h.text_is) (stand_bytes h.bytes rest (star ∷ pieces_of after) k)

  later_star : StandFor (Across ∷ pieces_of glob) text → StandFor (Across ∷ star ∷ pieces_of after) rest
  later_star k = across_bytes h.bytes rest (star ∷ pieces_of after) (stand_at _ _ _ _ (ap (λ p. Across ∷ p) h.glob_is) h.text_is k)

after_run : (pieces : List Piece) (starred : Bool) (text : List ℕ) → StandFor pieces text → StandFor (after_star starred Within pieces) text
after_run pieces true text h = within_none pieces text h
after_run pieces false text h = h

through_star : (starred : Bool) (glob text after rest : List ℕ) → IsAfterStar Within glob text after rest
    → StandFor (after_star starred Within (pieces_of glob)) text → StandFor (Within ∷ pieces_of after) rest
through_star true glob text after rest h k =
    within_bytes h.bytes rest (pieces_of after) (stand_at _ _ _ _ (ap (λ p. Within ∷ p) h.glob_is) h.text_is k)
through_star false glob text after rest h k = to_star Within glob text after rest h k

-- ---- one star

pub left_within : (starred : Bool) (glob text pieces rest after left : List ℕ) → IsLeft Within starred glob text pieces rest
    → IsAfterStar Within pieces rest after left → IsLeft Within true glob text after left
left_within starred glob text pieces rest after left h k = record {
  same = (
    λ stands. through_star starred pieces rest after left k (h.same.0 stands),
    λ stands. h.same.1 (after_run (pieces_of pieces) starred rest (from_star Within pieces rest after left k stands)),
  );
  later = λ stands. across_within (pieces_of after) left (later_star Within pieces rest after left k (h.later stands));
}

pub left_across : (starred : Bool) (glob text pieces rest after left : List ℕ) → IsLeft Within starred glob text pieces rest
    → IsAfterStar Across pieces rest after left → IsLeft Across true glob text after left
left_across starred glob text pieces rest after left h k = record { same = (λ stands. later (across_none (pieces_of glob) text stands), back); later = later }
  where
    later : StandFor (Across ∷ pieces_of glob) text → StandFor (Across ∷ pieces_of after) left
    later stands = across_across (pieces_of after) left (later_star Across pieces rest after left k (h.later stands))

    back : StandFor (Across ∷ pieces_of after) left → StandFor (pieces_of glob) text
    back stands = h.same.1 (after_run (pieces_of pieces) starred rest (from_star Across pieces rest after left k stands))

pub left_more : (glob text pieces rest left : List ℕ) → IsLeft Within true glob text pieces rest → ¬ StandFor (pieces_of pieces) rest
    → BeginsWithOther rest left → IsLeft Within true glob text pieces left
left_more glob text pieces rest left h none (c, other, e) = record {
  same = (
    λ stands. within_less (pieces_of pieces) c left (λ k. none (back k)) (subst (StandFor (Within ∷ pieces_of pieces)) e (h.same.0 stands)),
    λ stands. h.same.1 (subst (StandFor (Within ∷ pieces_of pieces)) (sym e) (within_more (pieces_of pieces) c left other stands)),
  );
  later = λ stands. across_less (pieces_of pieces) c left (λ k. none (back k)) (subst (StandFor (Across ∷ pieces_of pieces)) e (h.later stands));
}
  where
    back : StandFor (pieces_of pieces) (c ∷ left) → StandFor (pieces_of pieces) rest
    back k = subst (StandFor (pieces_of pieces)) (sym e) k

pub left_fail : (glob text pieces rest : List ℕ) → IsLeft Within true glob text pieces rest → ¬ StandFor (pieces_of pieces) rest
    → BeginsWithNone rest → ¬ StandFor (pieces_of glob) text
left_fail glob text pieces rest h none (inl e) stands =
    none (subst (StandFor (pieces_of pieces)) (sym e) (within_end (pieces_of pieces) (subst (StandFor (Within ∷ pieces_of pieces)) e (h.same.0 stands))))
left_fail glob text pieces rest h none (inr (left, e)) stands =
    none (subst (StandFor (pieces_of pieces)) (sym e) (within_slash (pieces_of pieces) left (subst (StandFor (Within ∷ pieces_of pieces)) e (h.same.0 stands))))

-- ---- two stars

pub match_across : (starred : Bool) (glob name pieces rest after left : List ℕ) → (Matches glob name ↔ StandFor (after_star starred Across (pieces_of pieces)) rest)
    → IsLeft Across true pieces rest after left → Matches glob name ↔ StandFor (Across ∷ pieces_of after) left
match_across true glob name pieces rest after left h k =
    (λ stands. k.later (h.0 stands), λ stands. h.1 (across_none (pieces_of pieces) rest (k.same.1 stands)))
match_across false glob name pieces rest after left h k = (λ stands. k.same.0 (h.0 stands), λ stands. h.1 (k.same.1 stands))

pub match_more : (glob name pieces rest left : List ℕ) (c : ℕ) → (Matches glob name ↔ StandFor (Across ∷ pieces_of pieces) rest) → ¬ StandFor (pieces_of pieces) rest
    → rest ≡ c ∷ left → Matches glob name ↔ StandFor (Across ∷ pieces_of pieces) left
match_more glob name pieces rest left c h none e = (
  λ stands. across_less (pieces_of pieces) c left (λ k. none (subst (StandFor (pieces_of pieces)) (sym e) k)) (subst (StandFor (Across ∷ pieces_of pieces)) e (h.0 stands)),
  λ stands. h.1 (subst (StandFor (Across ∷ pieces_of pieces)) (sym e) (across_more (pieces_of pieces) c left stands)),
)

pub match_fail : (glob name pieces rest : List ℕ) → (Matches glob name ↔ StandFor (Across ∷ pieces_of pieces) rest) → ¬ StandFor (pieces_of pieces) rest
    → rest ≡ [] → ¬ Matches glob name
match_fail glob name pieces rest h none e stands =
    none (subst (StandFor (pieces_of pieces)) (sym e) (across_end (pieces_of pieces) (subst (StandFor (Across ∷ pieces_of pieces)) e (h.0 stands))))
