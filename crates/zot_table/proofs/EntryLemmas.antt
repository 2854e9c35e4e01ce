-- What is found among the entries of a map, where some have no counterpart.
use Rattle.std.proofs.Common.{◌≡◌, ◌≢◌, ℕ, Bool, true, false, cond, List, [], ◌∷◌, Option, Some, None, refl, sym, ap, subst, ◌∙◌}
use Rattle.std.specs.Prelude.{T, option_and_then, option_map}
use Rattle.std.specs.Cmp.Lexicographic.{nat_list_cmp_total}
use Rattle.std.specs.FinMap as finite
use Rattle.std.specs.FinMap.{entries_sorted, get-entries, get-from_entries}
use Rattle.std.specs.FinMap.Entries.{below_all, find, is_sorted}
use Rattle.std.specs.List.{cons_option, filter_map}
use Rattle.std.specs.Ordering.{eq_by_cmp, is_eq, is_lt}
use Rattle.std.proofs.lemmas.Bool.{true≢false}
use Rattle.zot_digest.specs.ByteMap.{ByteMap, byte_cmp, map_of}
use Rattle.zot_maps.proofs.Entries.{first, is_less, second}
use Rattle.zot_maps.proofs.Maps.{byte_order, same_key, tied_keys}

-- what holds at one key, and at every other, holds at each
pub at_each : (P : List ℕ → Type 0) (key : List ℕ) → P key → ((q : List ℕ) → q ≢ key → P q) → (q : List ℕ) → P q
at_each P key here others q = split (eq_by_cmp byte_cmp q key) refl where
  split : (b : Bool) → eq_by_cmp byte_cmp q key ≡ b → P q
  split true tied = subst P (sym (tied_keys byte_order q key tied)) here
  split false free = others q (λ same. true≢false (sym (same_key byte_order key) ∙ ap (λ k. eq_by_cmp byte_cmp k key) (sym same) ∙ free))

module _ {X Y : Type 0} (counterpart : List ℕ → X → Option Y) where
  abbrev pub pair_of : List ℕ × X → Option (List ℕ × Y)
  pair_of e = option_map (λ y. (e.0, y)) (counterpart e.0 e.1)

  -- a key below all of them isn't there
  none_below : (q : List ℕ) (es : List (List ℕ × X)) → T (below_all byte_cmp q es) → find byte_cmp q (filter_map pair_of es) ≡ None
  none_below q [] h = refl
  none_below q (e ∷ es) h =
      let later = none_below q es (second (is_lt (byte_cmp q e.0)) (below_all byte_cmp q es) h) in
      elim (counterpart e.0 e.1) as (λ o. find byte_cmp q (cons_option (option_map (λ y. (e.0, y)) o) (filter_map pair_of es)) ≡ None) [
        | None ↦ later
        | Some y ↦ ap (λ o. cond (is_eq o) (Some y) (find byte_cmp q (filter_map pair_of es))) (is_less (byte_cmp q e.0) (first (is_lt (byte_cmp q e.0)) (below_all byte_cmp q es) h)) ∙ later
      ]

  -- where the first entry has the key, its counterpart is found
  found_first : (q : List ℕ) (e : List ℕ × X) (es : List (List ℕ × X)) → T (below_all byte_cmp e.0 es) → eq_by_cmp byte_cmp q e.0 ≡ true → find byte_cmp q (filter_map pair_of (e ∷ es)) ≡ counterpart q e.1
  found_first q e es below tied =
      let same = tied_keys byte_order q e.0 tied in
      elim (counterpart e.0 e.1) as (λ o. counterpart q e.1 ≡ o → find byte_cmp q (cons_option (option_map (λ y. (e.0, y)) o) (filter_map pair_of es)) ≡ counterpart q e.1) [
        | None ↦ λ is. none_below q es (subst (λ k. T (below_all byte_cmp k es)) (sym same) below) ∙ sym is
        | Some y ↦ λ is. ap (λ b. cond b (Some y) (find byte_cmp q (filter_map pair_of es))) tied ∙ sym is
      ] (ap (λ k. counterpart k e.1) same)

  found_in : (q : List ℕ) (es : List (List ℕ × X)) → T (is_sorted byte_cmp es) → find byte_cmp q (filter_map pair_of es) ≡ option_and_then (counterpart q) (find byte_cmp q es)
  found_in q [] h = refl
  found_in q (e ∷ es) h =
      let later = found_in q es (second (below_all byte_cmp e.0 es) (is_sorted byte_cmp es) h) in
      elim (eq_by_cmp byte_cmp q e.0) as (λ b. eq_by_cmp byte_cmp q e.0 ≡ b → find byte_cmp q (filter_map pair_of (e ∷ es)) ≡ option_and_then (counterpart q) (cond b (Some e.1) (find byte_cmp q es))) [
        | true ↦ λ tied. found_first q e es (first (below_all byte_cmp e.0 es) (is_sorted byte_cmp es) h) tied
        | false ↦ λ free. elim (counterpart e.0 e.1) as (λ o. find byte_cmp q (cons_option (option_map (λ y. (e.0, y)) o) (filter_map pair_of es)) ≡ option_and_then (counterpart q) (find byte_cmp q es)) [
          | None ↦ later
          | Some y ↦ ap (λ b. cond b (Some y) (find byte_cmp q (filter_map pair_of es))) free ∙ later
        ]
      ] refl

  -- the map of the counterparts has under a key that of what the map has there
  pub get_counterpart : (m : ByteMap X) (q : List ℕ) → finite.get (map_of (filter_map pair_of (finite.entries m))) q ≡ option_and_then (counterpart q) (finite.get m q)
  get_counterpart m q =
      get-from_entries nat_list_cmp_total (filter_map pair_of (finite.entries m)) q
      ∙ found_in q (finite.entries m) (entries_sorted m)
      ∙ ap (option_and_then (counterpart q)) (sym (get-entries m q))
