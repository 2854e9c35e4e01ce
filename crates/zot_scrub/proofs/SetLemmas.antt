-- Sets of digests as tests, and their digests in order.
use Rattle.std.proofs.Common.{◌≡◌, ◌<◌, ◌+◌, ℕ, Bool, true, false, cond, ◌||◌, List, [], ◌∷◌, ◌++◌, map, take, length, get_or, Some, None, refl, sym, ap, ◌∙◌, append-nil}
use Rattle.std.specs.BTreeMap.{is_at}
use Rattle.std.specs.Cmp.Lexicographic.{nat_list_cmp_total}
use Rattle.std.specs.FinMap as finite
use Rattle.std.specs.FinMap.{get-from_entries}
use Rattle.std.specs.FinMap.Entries.{find}
use Rattle.std.specs.List.{filter, list_any}
use Rattle.std.specs.List.Sorted.{IsStrictlySortedBy}
use Rattle.std.specs.Map.{keys_of}
use Rattle.std.specs.Str.{bytes_eq}
use Rattle.std.proofs.lemmas.List.Elements.{filter_more}
use Rattle.std.proofs.lemmas.List.Folds.{list_any_more}
use Rattle.std.proofs.lemmas.Map.Text.{is_eq-slice_cmp}
use Rattle.std.proofs.lemmas.Slice.Eq.{bytes_eq-Decides}
use Rattle.zot_digest.specs.ByteMap.{byte_cmp, map_of}
use Rattle.zot_maps.proofs.Entries.{entries_of_map}
use Rattle.zot_maps.proofs.Maps.{byte_order, same_map}
use Rattle.zot_model.specs.Findings.{in_order}

-- ---- a digest that is added

either : (b old : Bool) → cond b true old ≡ (old || b)
either true true = refl
either true false = refl
either false true = refl
either false false = refl

-- what a set has after a digest was added
pub added : (digest other : List ℕ) (old : Bool) → cond (is_at (byte_cmp digest) other) true old ≡ (old || bytes_eq digest other)
added digest other old = either (is_at (byte_cmp digest) other) old ∙ ap (λ b. old || b) (is_eq-slice_cmp digest other)

or_assoc : (a b c : Bool) → ((a || b) || c) ≡ (a || (b || c))
or_assoc true b c = refl
or_assoc false b c = refl

module _ {X : Type 0} (p : X → Bool) (xs : List X) (i : ℕ) (x : X) (within : i < length xs) (is : x ≡ get_or xs i x) where
  -- some of the first elements passes, one of them more
  pub any_further : (now next : Bool) → now ≡ list_any p (take i xs) → next ≡ (now || p x) → next ≡ list_any p (take (i + 1) xs)
  any_further now next so_far step =
      step ∙ ap (λ b. b || p x) so_far ∙ ap (λ y. list_any p (take i xs) || p y) is ∙ sym (list_any_more p xs i x within)

  -- an element that passes is one more of those that do, and one that fails isn't
  pub one_passes : p x ≡ true → filter p (take (i + 1) xs) ≡ filter p (take i xs) ++ (x ∷ [])
  one_passes passes =
      filter_more p xs i x within
      ∙ ap (λ y. filter p (take i xs) ++ cond (p y) (y ∷ []) []) (sym is)
      ∙ ap (λ (b : Bool). filter p (take i xs) ++ cond b (x ∷ []) []) passes

  pub one_fails : p x ≡ false → filter p (take (i + 1) xs) ≡ filter p (take i xs)
  one_fails fails =
      filter_more p xs i x within
      ∙ ap (λ y. filter p (take i xs) ++ cond (p y) (y ∷ []) []) (sym is)
      ∙ ap (λ (b : Bool). filter p (take i xs) ++ cond b (x ∷ []) []) fails
      ∙ append-nil (filter p (take i xs))

any_append : {X : Type 0} (p : X → Bool) (xs : List X) (x : X) → list_any p (xs ++ (x ∷ [])) ≡ (list_any p xs || p x)
any_append p [] x = either_false (p x) where
  either_false : (b : Bool) → (b || false) ≡ (false || b)
  either_false true = refl
  either_false false = refl
any_append p (y ∷ xs) x = ap (λ b. p y || b) (any_append p xs x) ∙ sym (or_assoc (p y) (list_any p xs) (p x))

-- a set has the first elements that pass a test, one of them more
module _ (test : List ℕ → Bool) (xs : List (List ℕ)) (i : ℕ) (x : List ℕ) (within : i < length xs) (is : x ≡ get_or xs i x) (digest : List ℕ) (now : Bool) where
  pub passing_further : (next : Bool) → test x ≡ true → now ≡ list_any (λ other. bytes_eq other digest) (filter test (take i xs)) → next ≡ (now || bytes_eq x digest) →
      next ≡ list_any (λ other. bytes_eq other digest) (filter test (take (i + 1) xs))
  passing_further next passes so_far step =
      step ∙ ap (λ b. b || bytes_eq x digest) so_far
      ∙ sym (any_append (λ other. bytes_eq other digest) (filter test (take i xs)) x)
      ∙ ap (list_any (λ other. bytes_eq other digest)) (sym (one_passes test xs i x within is passes))

  pub failing_further : test x ≡ false → now ≡ list_any (λ other. bytes_eq other digest) (filter test (take i xs)) →
      now ≡ list_any (λ other. bytes_eq other digest) (filter test (take (i + 1) xs))
  failing_further fails so_far = so_far ∙ ap (list_any (λ other. bytes_eq other digest)) (sym (one_fails test xs i x within is fails))

-- ---- the digests in order

abbrev marked : List (List ℕ) → List (List ℕ × Bool)
marked digests = map (λ digest. (digest, true)) digests

same_tests : (p q : Bool) → (p ≡ true → q ≡ true) → (q ≡ true → p ≡ true) → p ≡ q
same_tests true true f g = refl
same_tests true false f g = sym (f refl)
same_tests false true f g = g refl
same_tests false false f g = refl

turned : (a b : List ℕ) → bytes_eq a b ≡ true → bytes_eq b a ≡ true
turned a b h = (bytes_eq-Decides b a).1 (sym ((bytes_eq-Decides a b).0 h))

-- the query is equal to a key, whichever stands first
tied : (digest other : List ℕ) → is_at (byte_cmp digest) other ≡ bytes_eq other digest
tied digest other = is_eq-slice_cmp digest other ∙ same_tests _ _ (turned digest other) (turned other digest)

found_marked : (digest : List ℕ) (digests : List (List ℕ)) → find byte_cmp digest (marked digests) ≡ cond (list_any (is_at (byte_cmp digest)) digests) (Some true) None
found_marked digest [] = refl
found_marked digest (other ∷ digests) =
    ap (cond (is_at (byte_cmp digest) other) (Some true)) (found_marked digest digests)
    ∙ nested (is_at (byte_cmp digest) other) (list_any (is_at (byte_cmp digest)) digests) where
      nested : (a b : Bool) → cond a (Some true) (cond b (Some true) None) ≡ cond (a || b) (Some true) None
      nested true b = refl
      nested false b = refl

unmarked : (digests : List (List ℕ)) → map (λ (e : List ℕ × Bool). e.0) (marked digests) ≡ digests
unmarked [] = refl
unmarked (digest ∷ digests) = ap (λ others. digest ∷ others) (unmarked digests)

marked_keys : (digests : List (List ℕ)) → keys_of (marked digests) ≡ digests
marked_keys [] = refl
marked_keys (digest ∷ digests) = ap (λ others. digest ∷ others) (marked_keys digests)

-- digests in byte order are themselves in order
stays_in_order : (digests : List (List ℕ)) → IsStrictlySortedBy byte_cmp digests → in_order digests ≡ digests
stays_in_order digests up =
    ap (map (λ e. e.0)) (entries_of_map byte_order (marked digests) (rw (marked_keys digests) up)) ∙ unmarked digests

-- the digests of a set, which are in byte order, are those that it has
pub set_in_order : (keys digests : List (List ℕ)) → IsStrictlySortedBy byte_cmp keys →
    ((digest : List ℕ) → list_any (is_at (byte_cmp digest)) keys ≡ list_any (λ other. bytes_eq other digest) digests) → keys ≡ in_order digests
set_in_order keys digests up same =
    sym (stays_in_order keys up)
    ∙ ap finite.keys (same_map byte_order (map_of (marked keys)) (map_of (marked digests)) (λ digest.
    get-from_entries nat_list_cmp_total (marked keys) digest ∙ found_marked digest keys
    ∙ ap (λ b. cond b (Some true) None) (same digest ∙ sym (λ i. list_any (λ other. tied digest other i) digests))
    ∙ sym (found_marked digest digests) ∙ sym (get-from_entries nat_list_cmp_total (marked digests) digest)))
