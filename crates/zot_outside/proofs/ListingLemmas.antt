-- The paths of objects, one after another in their order.
use Rattle.std.proofs.Common.{◌≡◌, ◌≢◌, ℕ, ◌≤◌, Bool, true, false, ◌||◌, ◌&&◌, ◌⊎◌, inl, inr, not, cond, List, [], ◌∷◌, length, Option, Some, None, refl, sym, ap, ◌∙◌, arith, IsSome, is_some, MatchOption, filter, map as each, Contains, T}
use Rattle.std.proofs.lemmas.Bool.{and_parts, false_from_ne_true, cond-true, cond-false, or_cases, true≢false}
use Rattle.std.proofs.lemmas.Cmp.{tied_itself}
use Rattle.std.proofs.lemmas.List.{length-map}
use Rattle.std.proofs.lemmas.List.Filters.{length-filter_both}
use Rattle.std.proofs.lemmas.Map.Views.{Contains-from_any, list_any-from_Contains}
use Rattle.std.specs.Cmp.{eq_by_cmp_equiv}
use Rattle.std.specs.declared.cmp.Ordering.{Ordering}
use Rattle.std.specs.declared.cmp.Ordering.TheVariants.{Less, Equal, Greater}
use Rattle.std.specs.FinMap as map
use Rattle.std.specs.FinMap.{contains_key-keys, entries_sorted, find, get-entries, is_sorted, len-entries}
use Rattle.std.specs.FinMap.Entries.{below_all}
use Rattle.std.specs.List.{list_any}
use Rattle.std.specs.Ordering.{eq_by_cmp, is_lt, ordering_reverse}
use Rattle.zot_maps.proofs.Maps.{byte_order, same_key, tied_keys}
use Rattle.zot_outside.specs.Objects.{Follows, IsLast, IsNext, Objects, path_cmp, paths_after}

abbrev Entries : Type 0
Entries = List (List ℕ × List ℕ)

-- whether a path is less than another
abbrev is_below : List ℕ → List ℕ → Bool
is_below path other = is_lt (path_cmp path other)

-- the paths among entries that are greater than a path
abbrev greater_than : List ℕ → Entries → List (List ℕ)
greater_than after es = filter (is_below after) (each (λ e. e.0) es)

holds : (b : Bool) → T b → b ≡ true
holds true h = refl
holds false h = absurd h

less : (r : Ordering) → is_lt r ≡ true → r ≡ Less
less Less h = refl
less Equal h = cc h
less Greater h = cc h

-- no path is below itself
irreflexive : (path : List ℕ) → is_below path path ≡ false
irreflexive path = ap is_lt (tied_itself byte_order.total path)

-- of two paths only one is below the other
asymmetric : (path other : List ℕ) → is_below path other ≡ true → is_below other path ≡ false
asymmetric path other h = ap is_lt (byte_order.total.antisymm other path ∙ ap ordering_reverse (less _ h))

below_trans : (path other third : List ℕ) → is_below path other ≡ true → is_below other third ≡ true → is_below path third ≡ true
below_trans path other third h k = ap is_lt (byte_order.total.trans path other third (less _ h) (less _ k))

below_all_trans : (path other : List ℕ) (es : Entries) → is_below path other ≡ true → below_all path_cmp other es ≡ true → below_all path_cmp path es ≡ true
below_all_trans path other [] h k = refl
below_all_trans path other (e ∷ es) h k =
    let parts = and_parts (is_below other e.0) (below_all path_cmp other es) k in
    ap (λ b. b && below_all path_cmp path es) (below_trans path other e.0 h parts.0) ∙ below_all_trans path other es h parts.1

-- a path that is found among entries of which another is below all
found_above : (path q : List ℕ) (es : Entries) → below_all path_cmp path es ≡ true → IsSome (find path_cmp q es) → is_below path q ≡ true
found_above path q [] h held = cc held
found_above path q (e ∷ es) h held =
    let parts = and_parts (is_below path e.0) (below_all path_cmp path es) h in
    elim (eq_by_cmp path_cmp q e.0) as (λ b. eq_by_cmp path_cmp q e.0 ≡ b → is_some (cond b (Some e.1) (find path_cmp q es)) ≡ true → is_below path q ≡ true) [
      | true ↦ λ tied k. ap (is_below path) (tied_keys byte_order q e.0 tied) ∙ parts.0
      | false ↦ λ free k. found_above path q es parts.1 k
    ] refl held

-- all the paths are greater
all_greater : (after : List ℕ) (es : Entries) → below_all path_cmp after es ≡ true → greater_than after es ≡ each (λ e. e.0) es
all_greater after [] h = refl
all_greater after (e ∷ es) h =
    let parts = and_parts (is_below after e.0) (below_all path_cmp after es) h in
    cond-true (is_below after e.0) (e.0 ∷ greater_than after es) (greater_than after es) parts.0 ∙ ap (λ ks. e.0 ∷ ks) (all_greater after es parts.1)

-- an entry is found by its path
found_first : (e : List ℕ × List ℕ) (es : Entries) → IsSome (find path_cmp e.0 (e ∷ es))
found_first e es = ap (λ b. is_some (cond b (Some e.1) (find path_cmp e.0 es))) (same_key byte_order e.0)

-- what is found in the rest is found
found_later : (q : List ℕ) (e : List ℕ × List ℕ) (es : Entries) → IsSome (find path_cmp q es) → IsSome (find path_cmp q (e ∷ es))
found_later q e es h = elim (eq_by_cmp path_cmp q e.0) as (λ b. is_some (cond b (Some e.1) (find path_cmp q es)) ≡ true) [ true ↦ refl | false ↦ h ]

-- what is found is the first or in the rest
found_cases : (q : List ℕ) (e : List ℕ × List ℕ) (es : Entries) → IsSome (find path_cmp q (e ∷ es)) → (q ≡ e.0) ⊎ IsSome (find path_cmp q es)
found_cases q e es h =
    elim (eq_by_cmp path_cmp q e.0) as (λ b. eq_by_cmp path_cmp q e.0 ≡ b → is_some (cond b (Some e.1) (find path_cmp q es)) ≡ true → (q ≡ e.0) ⊎ IsSome (find path_cmp q es)) [
      | true ↦ λ tied k. inl (tied_keys byte_order q e.0 tied)
      | false ↦ λ free k. inr k
    ] refl h

-- the least path that is greater comes first of those that are greater, and then come those that are greater than it
next_greater : (after path : List ℕ) (es : Entries) → is_sorted path_cmp es ≡ true → IsSome (find path_cmp path es) → is_below after path ≡ true
    → ((other : List ℕ) → IsSome (find path_cmp other es) → is_below after other ≡ true → is_below other path ≡ false) → greater_than after es ≡ path ∷ greater_than path es
next_greater after path [] sorted held above least = cc held
next_greater after path (e ∷ es) sorted held above least =
    let parts = and_parts (below_all path_cmp e.0 es) (is_sorted path_cmp es) sorted in
    elim (is_below after e.0) as (λ b. is_below after e.0 ≡ b → greater_than after (e ∷ es) ≡ path ∷ greater_than path (e ∷ es)) [
      | true ↦ λ first.
          let same : path ≡ e.0 = elim (found_cases path e es held) [ inl is ↦ is | inr later ↦ cc (sym (found_above e.0 path es parts.0 later) ∙ least e.0 (found_first e es) first) ] in
          cond-true (is_below after e.0) (e.0 ∷ greater_than after es) (greater_than after es) first
          ∙ ap (λ ks. e.0 ∷ ks) (all_greater after es (below_all_trans after e.0 es first parts.0) ∙ sym (all_greater e.0 es parts.0)
          ∙ sym (cond-false (is_below e.0 e.0) (e.0 ∷ greater_than e.0 es) (greater_than e.0 es) (irreflexive e.0)))
          ∙ ap (λ p. p ∷ greater_than p (e ∷ es)) (sym same)
      | false ↦ λ skipped.
          let later : IsSome (find path_cmp path es) = elim (found_cases path e es held) [ inl is ↦ cc (sym (ap (is_below after) is ∙ skipped) ∙ above) | inr k ↦ k ] in
          cond-false (is_below after e.0) (e.0 ∷ greater_than after es) (greater_than after es) skipped
          ∙ next_greater after path es parts.1 later above (λ other k. least other (found_later other e es k))
          ∙ ap (λ ks. path ∷ ks) (sym (cond-false (is_below path e.0) (e.0 ∷ greater_than path es) (greater_than path es) (asymmetric e.0 path (found_above e.0 path es parts.0 later))))
    ] refl

-- nothing is greater
none_greater : (after : List ℕ) (es : Entries) → ((other : List ℕ) → IsSome (find path_cmp other es) → is_below after other ≡ false) → greater_than after es ≡ []
none_greater after [] last = refl
none_greater after (e ∷ es) last =
    cond-false (is_below after e.0) (e.0 ∷ greater_than after es) (greater_than after es) (last e.0 (found_first e es)) ∙ none_greater after es (λ other k. last other (found_later other e es k))

-- a path that is greater and one that isn't are two
apart_from : (after q k : List ℕ) → is_below after q ≡ true → is_below after k ≡ false → eq_by_cmp path_cmp q k ≡ false
apart_from after q k h left = false_from_ne_true _ (λ tied. true≢false (sym h ∙ ap (is_below after) (tied_keys byte_order q k tied) ∙ left))

-- a path that stands among those that are greater is greater
is_greater : (after q : List ℕ) (ks : List (List ℕ)) → list_any (eq_by_cmp path_cmp q) (filter (is_below after) ks) ≡ true → is_below after q ≡ true
is_greater after q [] h = cc h
is_greater after q (k ∷ ks) h =
    elim (is_below after k) as (λ b. is_below after k ≡ b → list_any (eq_by_cmp path_cmp q) (cond b (k ∷ filter (is_below after) ks) (filter (is_below after) ks)) ≡ true → is_below after q ≡ true) [
      | true ↦ λ kept any. elim (or_cases (eq_by_cmp path_cmp q k) (list_any (eq_by_cmp path_cmp q) (filter (is_below after) ks)) any) [ inl tied ↦ ap (is_below after) (tied_keys byte_order q k tied) ∙ kept | inr later ↦ is_greater after q ks later ]
      | false ↦ λ left any. is_greater after q ks any
    ] refl h

-- whether a path stands among those that are greater
stays_listed : (after q : List ℕ) (ks : List (List ℕ)) → is_below after q ≡ true → list_any (eq_by_cmp path_cmp q) (filter (is_below after) ks) ≡ list_any (eq_by_cmp path_cmp q) ks
stays_listed after q [] h = refl
stays_listed after q (k ∷ ks) h =
    let rest = stays_listed after q ks h in
    elim (is_below after k) as (λ b. is_below after k ≡ b → list_any (eq_by_cmp path_cmp q) (cond b (k ∷ filter (is_below after) ks) (filter (is_below after) ks)) ≡ (eq_by_cmp path_cmp q k || list_any (eq_by_cmp path_cmp q) ks)) [
      | true ↦ λ kept. ap (λ b. eq_by_cmp path_cmp q k || b) rest
      | false ↦ λ left. rest ∙ sym (ap (λ b. b || list_any (eq_by_cmp path_cmp q) ks) (apart_from after q k h left))
    ] refl

-- an object is there where its path is found among the entries
held_found : (objects : Objects) (path : List ℕ) → is_some (map.get objects path) ≡ is_some (find path_cmp path (map.entries objects))
held_found objects path = ap is_some (get-entries objects path)

not_less : (r : Ordering) → r ≢ Less → is_lt r ≡ false
not_less Less h = absurd (h refl)
not_less Equal h = refl
not_less Greater h = refl

-- the next path comes first of those that are greater, and then come those that are greater than it
pub paths_after-next : (objects : Objects) (after path : List ℕ) → IsNext objects after path → paths_after objects after ≡ path ∷ paths_after objects path
paths_after-next objects after path h =
    next_greater after path (map.entries objects) (holds _ (entries_sorted objects)) (sym (held_found objects path) ∙ h.held) (ap is_lt h.above)
    (λ other held above. not_less _ (h.least other (held_found objects other ∙ held) (less _ above)))

-- where no path is greater, there are none
pub paths_after-last : (objects : Objects) (after : List ℕ) → IsLast objects after → paths_after objects after ≡ []
paths_after-last objects after h = none_greater after (map.entries objects) (λ other held. not_less _ (h other (held_found objects other ∙ held)))

-- there are at most as many as there are objects
pub length-paths_after : (objects : Objects) (after : List ℕ) → length (paths_after objects after) ≤ map.len objects
length-paths_after objects after =
    let all = length-filter_both (is_below after) (λ k. not (is_below after k)) (λ _. refl) (map.keys objects) in
    let few = length-map (map.entries objects) (λ e. e.0) in
    let many = len-entries objects in omega arith

-- the greater ones are those that have an object and are greater
pub held_after : (objects : Objects) (after path : List ℕ) → IsSome (map.get objects path) → path_cmp after path ≡ Less → Contains (paths_after objects after) path
held_after objects after path held above =
    Contains-from_any (tied_keys byte_order) path (paths_after objects after)
    (stays_listed after path (map.keys objects) (ap is_lt above) ∙ sym (contains_key-keys objects path) ∙ held)

pub after_held : (objects : Objects) (after path : List ℕ) → Contains (paths_after objects after) path → IsSome (map.get objects path) × (path_cmp after path ≡ Less)
after_held objects after path listed =
    let any = list_any-from_Contains (eq_by_cmp_equiv byte_order.total) path (paths_after objects after) listed in
    let above = is_greater after path (map.keys objects) any in
    (contains_key-keys objects path ∙ sym (stays_listed after path (map.keys objects) above) ∙ any, less _ above)

-- a test that passes fewer
filter_fewer : {X : Type 0} (p q : X → Bool) (xs : List X) → ((x : X) → p x ≡ true → q x ≡ true) → length (filter p xs) ≤ length (filter q xs)
filter_fewer p q [] h = omega arith
filter_fewer p q (x ∷ xs) h =
    let rest = filter_fewer p q xs h in
    elim (p x) as (λ b. p x ≡ b → length (cond b (x ∷ filter p xs) (filter p xs)) ≤ length (cond (q x) (x ∷ filter q xs) (filter q xs))) [
      | true ↦ λ passes. let both = cond-true (q x) (x ∷ filter q xs) (filter q xs) (h x passes) in omega (arith, rest, ap length both)
      | false ↦ λ _.
          elim (q x) as (λ b. length (filter p xs) ≤ length (cond b (x ∷ filter q xs) (filter q xs))) [ true ↦ omega (arith, rest) | false ↦ rest ]
    ] refl

-- fewer paths follow a greater one
pub fewer_after : (objects : Objects) (after later : List ℕ) → path_cmp after later ≡ Less → length (paths_after objects later) ≤ length (paths_after objects after)
fewer_after objects after later h =
    filter_fewer (is_below later) (is_below after) (map.keys objects) (λ path above. ap is_lt (byte_order.total.trans after later path h (less _ above)))

-- which path is next is determined
pub one_next : (objects : Objects) (after one other : List ℕ) → IsNext objects after one → IsNext objects after other → one ≡ other
one_next objects after one other h k =
    let same : one ∷ paths_after objects one ≡ other ∷ paths_after objects other = sym (paths_after-next objects after one h) ∙ paths_after-next objects after other k in
    cc same

-- what a listing finds, by the paths that are greater
pub paths_after-follows : (objects : Objects) (after : List ℕ) (found : Option (List ℕ)) → Follows (Some objects) after found
    → MatchOption found (paths_after objects after ≡ []) (λ path. paths_after objects after ≡ path ∷ paths_after objects path)
paths_after-follows objects after None h = paths_after-last objects after h
paths_after-follows objects after (Some path) h = paths_after-next objects after path h
