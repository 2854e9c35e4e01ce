-- Objects in a tree, seen as the finite map of its entries.
use Rattle.std.proofs.Common.{◌≡◌, ℕ, false, cond, List, [], ◌∷◌, ◌++◌, Some, None, IsSome, is_some, unwrap_or, refl, sym, ap, ◌∙◌, subst}
use Rattle.std.specs.Prelude.{Result, Ok, Err, OnOk, OnErr}
use Rattle.std.specs.Ordering.{eq_by_cmp, is_gt, ordering_reverse}
use Rattle.std.proofs.lemmas.Bool.{true≢false}
use Rattle.std.specs.BTreeMap.{BTreeMap, is_at}
use Rattle.std.specs.BTreeMap.Range.{IsRangeOf}
use Rattle.std.specs.declared.cmp.Ordering.TheVariants.{Less}
use Rattle.std.specs.declared.ops.Bound.TheVariants.{Excluded, Unbounded}
use Rattle.std.specs.Map.{KeepsOthers, lookup}
use Rattle.zot_maps.proofs.Maps.{byte_order, entries-insert, found_at, get-entries, insert-same}
use Rattle.zot_outside.specs.Objects.{IsLast, IsNext, Objects, bytes_at, with_object}
use Rattle.std.specs.FinMap as map
use Rattle.zot_digest.specs.ByteMap.{byte_cmp, map_of}

-- a tree was written through at a key where it has something
abbrev pub Written : List (List ℕ × List ℕ) → List ℕ → List ℕ → List (List ℕ × List ℕ) → Type 0
Written es key bytes fs = (q : List ℕ) → lookup (is_at (byte_cmp q)) fs ≡ cond (is_at (byte_cmp key) q) (Some bytes) (lookup (is_at (byte_cmp q)) es)

-- bytes written at a key
pub map_of-written : (es fs : List (List ℕ × List ℕ)) (objects : Objects) (key bytes : List ℕ) → map_of es ≡ objects → Written es key bytes fs → map_of fs ≡ with_object objects key bytes
map_of-written es fs objects key bytes is writes = entries-insert byte_order es fs key bytes writes ∙ ap (λ (m : Objects). with_object m key bytes) is

-- a tree was written through at a key, if it has something there
abbrev pub Through : List (List ℕ × List ℕ) → List ℕ → List ℕ → List (List ℕ × List ℕ) → Type 0
Through es key bytes fs = IsSome (lookup (is_at (byte_cmp key)) es)
    → Written es key bytes fs
    × (lookup (is_at (byte_cmp key)) fs ≡ Some bytes)
    × ((q : List ℕ) → is_at (byte_cmp key) q ≡ false → lookup (is_at (byte_cmp q)) fs ≡ lookup (is_at (byte_cmp q)) es)
    × KeepsOthers (eq_by_cmp byte_cmp) (is_at (byte_cmp key)) es fs

-- bytes were added to an object that is there
pub appended : {E : Type 0} (es fs : List (List ℕ × List ℕ)) (objects : Objects) (key path bytes more written : List ℕ) → map_of es ≡ objects → key ≡ path
    → Some bytes ≡ lookup (is_at (byte_cmp key)) es → Through es key written fs → (result : Result (Unit {0}) E) → OnOk result (written ≡ bytes ++ more)
    → OnOk result (map_of fs ≡ with_object objects path (bytes_at objects path ++ more))
appended es fs objects key path bytes more written is same has through (Ok x) ok =
    let there = subst (λ o. IsSome o) has refl in
    let at = found_at byte_order es objects key (Some bytes) is has in
    map_of-written es fs objects key written is (through there).0
    ∙ ap (with_object objects key) (ok ∙ ap (λ o. unwrap_or o [] ++ more) (sym at))
    ∙ ap (λ p. with_object objects p (bytes_at objects p ++ more)) same
appended es fs objects key path bytes more written is same has through (Err e) ok = tt

-- no bytes were added
pub not_appended : {E : Type 0} (es fs : List (List ℕ × List ℕ)) (objects : Objects) (key bytes written : List ℕ) → map_of es ≡ objects
    → Some bytes ≡ lookup (is_at (byte_cmp key)) es → Through es key written fs → (result : Result (Unit {0}) E) → OnErr result (written ≡ bytes) → OnErr result (map_of fs ≡ objects)
not_appended es fs objects key bytes written is has through (Ok x) err = tt
not_appended es fs objects key bytes written is has through (Err e) err =
    let there = subst (λ o. IsSome o) has refl in
    map_of-written es fs objects key written is (through there).0 ∙ ap (with_object objects key) err
    ∙ insert-same byte_order objects key bytes (found_at byte_order es objects key (Some bytes) is has)

-- an object was made of bytes
pub made : {E : Type 0} (result : Result (Unit {0}) E) (before after objects : Objects) (key path piece more : List ℕ) → before ≡ objects → key ≡ path → piece ≡ more
    → map.get objects path ≡ None → OnOk result (after ≡ with_object before key piece) → OnOk result (after ≡ with_object objects path (bytes_at objects path ++ more))
made (Ok x) before after objects key path piece more same named is none ok =
    ok ∙ ap (λ m. with_object m key piece) same ∙ ap (λ p. with_object objects p piece) named
    ∙ ap (with_object objects path) (is ∙ ap (λ o. unwrap_or o [] ++ more) (sym none))
made (Err e) before after objects key path piece more same named is none ok = tt

-- a path below another isn't above it
not_greater : (first other : List ℕ) → byte_cmp other first ≡ Less → is_gt (byte_cmp first other) ≡ false → ⊥
not_greater first other below up = true≢false (ap is_gt (sym (byte_order.total.antisymm first other ∙ ap ordering_reverse below)) ∙ up)

-- of the entries after a path, the first has the next path
pub first_after : (tree : BTreeMap (List ℕ) (List ℕ)) (objects : Objects) (bound after : List ℕ) (e : List ℕ × List ℕ) (found rest : List (List ℕ × List ℕ)) → map_of tree.entries ≡ objects → bound ≡ after
    → found ≡ e ∷ rest → IsRangeOf byte_cmp (Excluded bound) Unbounded tree found → IsNext objects after e.0
first_after tree objects bound after e found rest is same begins range =
    let at = subst (λ r. IsRangeOf byte_cmp (Excluded bound) Unbounded tree r) begins range in
    let held = found_at byte_order tree.entries objects e.0 (Some e.1) is (sym at.1.1) in
    record {
      held = ap is_some held;
      above = ap (λ b. byte_cmp b e.0) (sym same) ∙ at.1.0.0;
      least = λ other there above below. not_greater e.0 other below (at.2 other (ap (λ b. byte_cmp b other) same ∙ above, tt) (ap is_some (sym (get-entries byte_order tree.entries other) ∙ ap (λ m. map.get m other) is) ∙ there));
    }

-- where there is no entry after a path, no path is greater
pub none_after : (tree : BTreeMap (List ℕ) (List ℕ)) (objects : Objects) (bound after : List ℕ) (found : List (List ℕ × List ℕ)) → map_of tree.entries ≡ objects → bound ≡ after
    → found ≡ [] → IsRangeOf byte_cmp (Excluded bound) Unbounded tree found → IsLast objects after
none_after tree objects bound after found is same none range =
    λ other there above.
    let gone = found_at byte_order tree.entries objects other None is (sym (range.5 none other (ap (λ b. byte_cmp b other) same ∙ above, tt))) in
    cc (sym there ∙ ap is_some gone)
