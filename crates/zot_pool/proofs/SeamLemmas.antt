-- What is seen of a list of parts one of which stopped an opening: of those before it, of itself, also as it is given back, and of the rest.
use Rattle.std.proofs.Common.{◌≡◌, ℕ, zero, suc, ◌<◌, arith, List, [], ◌∷◌, ◌++◌, map, length, Option, Some, refl, sym, ap, subst, ◌∙◌}
use Rattle.std.specs.Prelude.{slice_index}
use Rattle.std.specs.List.{slice_get}
use Rattle.std.specs.Option.{option_flatten}
use Rattle.std.proofs.Math.Seq.{get_or-append_seam}
use Rattle.std.proofs.lemmas.List.{length-append, length-map, map-append}
use Rattle.std.proofs.lemmas.Simd.{map-map}
use Rattle.zot_outside.specs.Faults.{Rose}
use Rattle.zot_outside.specs.Objects.{Objects}
use Rattle.zot_pool.specs.Pools.{ChangesOnly, part_at}

-- ---- a place of a list

other_at : {X : Type 0} (front : List X) (x y : X) (back : List X) → ChangesOnly (length front) (front ++ (x ∷ back)) (front ++ (y ∷ back))
other_at [] x y back zero apart = absurd (apart refl)
other_at [] x y back (suc other) apart = refl
other_at (z ∷ front) x y back zero apart = refl
other_at (z ∷ front) x y back (suc other) apart = other_at front x y back other (λ e. apart (ap suc e))

in_front : {X : Type 0} (front back : List X) (k : ℕ) → k < length front → slice_get (front ++ back) k ≡ slice_get front k
in_front [] back k within = absurd (omega arith)
in_front (x ∷ front) back zero within = refl
in_front (x ∷ front) back (suc k) within = in_front front back k (omega arith)

at_seam : {X : Type 0} (front : List X) (x : X) (back : List X) → slice_get (front ++ (x ∷ back)) (length front) ≡ Some x
at_seam [] x back = refl
at_seam (y ∷ front) x back = at_seam front x back

-- ---- the parts, before and after

module _ {S X : Type 0} (f : S → X) where
  pub seen_before : (parts done rest : List S) (part : S) → parts ≡ done ++ (part ∷ rest) → map f parts ≡ map f done ++ (f part ∷ map f rest)
  seen_before parts done rest part split = ap (map f) split ∙ map-append f done (part ∷ rest)

  pub seen_after : {T : Type 0} (part_of : T → S) (opened : List T) (done rest left : List S) (back : S) → left ≡ back ∷ rest → map (λ t. f (part_of t)) opened ≡ map f done
      → map f (map part_of opened ++ left) ≡ map f done ++ (f back ∷ map f rest)
  seen_after part_of opened done rest left back is same =
      ap (λ l. map f (map part_of opened ++ l)) is ∙ map-append f (map part_of opened) (back ∷ rest)
      ∙ ap (λ l. l ++ (f back ∷ map f rest)) (map-map f part_of opened ∙ same)

pub stops_within : {S : Type 0} (parts done rest : List S) (part : S) → parts ≡ done ++ (part ∷ rest) → length done < length parts
stops_within parts done rest part split = omega (arith, ap length split, length-append done (part ∷ rest))

-- ---- their counts

module _ {S : Type 0} (f : S → ℕ) (done rest : List S) where
  abbrev counts : ℕ → List ℕ
  counts n = map f done ++ (n ∷ map f rest)

  count_at : (n : ℕ) → slice_index (counts n) (length done) ≡ n
  count_at n = ap (slice_index (counts n)) (sym (length-map done f)) ∙ get_or-append_seam (map f done) n (map f rest) 0

  -- that of the part rises with its own, and the others stay
  pub risen_here : (n m : ℕ) → Rose n m → Rose (slice_index (counts n) (length done)) (slice_index (counts m) (length done))
  risen_here n m rose = subst (λ k. Rose k (slice_index (counts m) (length done))) (sym (count_at n)) (subst (Rose n) (sym (count_at m)) rose)

  pub others_stay : (n m : ℕ) → ChangesOnly (length done) (counts n) (counts m)
  others_stay n m = subst (λ k. ChangesOnly k (counts n) (counts m)) (length-map done f) (other_at (map f done) n m (map f rest))

-- ---- their objects

module _ {S : Type 0} (objects : S → Option Objects) (parts done rest : List S) (part : S) (split : parts ≡ done ++ (part ∷ rest)) where
  pub part_here : part_at (map objects parts) (length done) ≡ objects part
  part_here =
      ap (λ l. part_at l (length done)) (seen_before objects parts done rest part split)
      ∙ ap (part_at (map objects done ++ (objects part ∷ map objects rest))) (sym (length-map done objects))
      ∙ ap option_flatten (at_seam (map objects done) (objects part) (map objects rest))

  pub part_before : (other : ℕ) → other < length done → part_at (map objects parts) other ≡ part_at (map objects done) other
  part_before other less =
      ap (λ l. part_at l other) (seen_before objects parts done rest part split)
      ∙ ap option_flatten (in_front (map objects done) (objects part ∷ map objects rest) other (subst (λ n. other < n) (sym (length-map done objects)) less))
