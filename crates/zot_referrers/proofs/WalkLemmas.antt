-- What is found on a walk over digests in order: it doesn't matter which digests without anything the walk passes.
use Rattle.std.proofs.Common.{◌≡◌, ◌≢◌, ℕ, zero, suc, ◌+◌, ◌≤◌, Bool, true, false, List, [], ◌∷◌, ◌++◌, map, length, arith, refl, sym, ap, subst, ◌∙◌}
use Rattle.std.specs.Prelude.{◌||◌, ◌&&◌}
use Rattle.std.specs.BTreeMap.{is_at}
use Rattle.std.specs.Cmp.Lexicographic.{nat_list_cmp_total}
use Rattle.std.specs.List.{AllByRecursion, flat_map, list_any}
use Rattle.std.specs.List.Sorted.{IsStrictlySortedBy}
use Rattle.std.specs.Ordering.{eq_by_cmp, is_eq, ordering_reverse}
use Rattle.std.specs.declared.cmp.Ordering.{Ordering}
use Rattle.std.specs.declared.cmp.Ordering.TheVariants.{Less, Equal, Greater}
use Rattle.std.proofs.lemmas.Bool.{true≢false}
use Rattle.std.proofs.lemmas.List.{append-nil, append_assoc, map-append}
use Rattle.zot_digest.specs.ByteMap.{byte_cmp}
use Rattle.zot_maps.proofs.Maps.{byte_order, same_key, tied_keys}

-- whether the digest is among these
abbrev pub has : List (List ℕ) → List ℕ → Bool
has digests digest = list_any (is_at (byte_cmp digest)) digests

-- ---- digests in order

above_none : (low : List ℕ) (digests : List (List ℕ)) → AllByRecursion (λ y. byte_cmp low y ≡ Less) digests → has digests low ≡ false
above_none low [] h = refl
above_none low (y ∷ digests) h = rw h.0 (above_none low digests h.1)

above_all : (low mid : List ℕ) (digests : List (List ℕ)) → byte_cmp low mid ≡ Less → AllByRecursion (λ y. byte_cmp mid y ≡ Less) digests → AllByRecursion (λ y. byte_cmp low y ≡ Less) digests
above_all low mid [] below h = tt
above_all low mid (y ∷ digests) below h = (nat_list_cmp_total.trans low mid y below h.0, above_all low mid digests below h.1)

is_head : (digest : List ℕ) (digests : List (List ℕ)) → has (digest ∷ digests) digest ≡ true
is_head digest digests = ap (λ b. b || has digests digest) (same_key byte_order digest)

without_head : (digest other : List ℕ) (digests : List (List ℕ)) → eq_by_cmp byte_cmp other digest ≡ false → has (digest ∷ digests) other ≡ has digests other
without_head digest other digests apart = ap (λ b. b || has digests other) apart

-- ---- a walk

module _ {R : Type 0} (found : List ℕ → List R) where
  -- two lists of digests have the same of those under which something is found
  abbrev pub SameFound : List (List ℕ) → List (List ℕ) → Type 0
  SameFound one other = (digest : List ℕ) → found digest ≢ [] → has one digest ≡ has other digest

  unless : (xs : List R) → ¬ (xs ≢ []) → xs ≡ []
  unless [] h = refl
  unless (x ∷ xs) h = absurd (h (λ e. cc e))

  -- a digest that one list has and the other hasn't has nothing
  nothing_at : (one other : List (List ℕ)) (digest : List ℕ) → SameFound one other → has one digest ≡ true → has other digest ≡ false → found digest ≡ []
  nothing_at one other digest same is isnt = unless (found digest) (λ some. true≢false (sym is ∙ same digest some ∙ isnt))

  passed : (digest : List ℕ) (digests : List (List ℕ)) → found digest ≡ [] → flat_map found (digest ∷ digests) ≡ flat_map found digests
  passed digest digests none = ap (λ xs. xs ++ flat_map found digests) none

  -- the first of one list has nothing, so the others have the same
  same_after : (digest : List ℕ) (one other : List (List ℕ)) → found digest ≡ [] → SameFound (digest ∷ one) other → SameFound one other
  same_after digest one other none same q some = split (eq_by_cmp byte_cmp q digest) refl where
    split : (b : Bool) → eq_by_cmp byte_cmp q digest ≡ b → has one q ≡ has other q
    split true tied = absurd (some (ap found (tied_keys byte_order q digest tied) ∙ none))
    split false apart = sym (without_head digest q one apart) ∙ same q some

  turned : (one other : List (List ℕ)) → SameFound one other → SameFound other one
  turned one other same q some = sym (same q some)

  -- both begin with the same digest
  same_tails : (digest : List ℕ) (one other : List (List ℕ)) → AllByRecursion (λ y. byte_cmp digest y ≡ Less) one → AllByRecursion (λ y. byte_cmp digest y ≡ Less) other
      → SameFound (digest ∷ one) (digest ∷ other) → SameFound one other
  same_tails digest one other above above' same q some = split (eq_by_cmp byte_cmp q digest) refl where
    split : (b : Bool) → eq_by_cmp byte_cmp q digest ≡ b → has one q ≡ has other q
    split true tied =
        let is = tied_keys byte_order q digest tied in
        ap (has one) is ∙ above_none digest one above ∙ sym (above_none digest other above') ∙ ap (has other) (sym is)
    split false apart = sym (without_head digest q one apart) ∙ same q some ∙ without_head digest q other apart

  same_walk : (n : ℕ) (one other : List (List ℕ)) → length one + length other ≤ n → IsStrictlySortedBy byte_cmp one → IsStrictlySortedBy byte_cmp other → SameFound one other
      → flat_map found one ≡ flat_map found other
  unfolding IsStrictlySortedBy
  same_walk n [] [] most sorted sorted' same = refl
  same_walk zero (x ∷ one) other most sorted sorted' same = absurd (omega (arith, most))
  same_walk zero [] (y ∷ other) most sorted sorted' same = absurd (omega (arith, most))
  same_walk (suc n) (x ∷ one) [] most sorted sorted' same =
      let none = nothing_at (x ∷ one) [] x same (is_head x one) refl in
      passed x one none ∙ same_walk n one [] (omega (arith, most)) sorted.1 sorted' (same_after x one [] none same)
  same_walk (suc n) [] (y ∷ other) most sorted sorted' same =
      let back = turned [] (y ∷ other) same in
      let none = nothing_at (y ∷ other) [] y back (is_head y other) refl in
      same_walk n [] other (omega (arith, most)) sorted sorted'.1 (turned other [] (same_after y other [] none back)) ∙ sym (passed y other none)
  same_walk (suc n) (x ∷ one) (y ∷ other) most sorted sorted' same =
      elim (byte_cmp x y) as (λ o. byte_cmp x y ≡ o → flat_map found (x ∷ one) ≡ flat_map found (y ∷ other)) [
        | Less ↦ λ below.
            let absent : has (y ∷ other) x ≡ false = above_none x (y ∷ other) (below, above_all x y other below sorted'.0) in
            let none = nothing_at (x ∷ one) (y ∷ other) x same (is_head x one) absent in
            passed x one none ∙ same_walk n one (y ∷ other) (omega (arith, most)) sorted.1 sorted' (same_after x one (y ∷ other) none same)
        | Equal ↦ λ tied.
            let is = tied_keys byte_order x y (ap is_eq tied) in
            let here = subst (λ z. SameFound (x ∷ one) (z ∷ other)) (sym is) same in
            let above = subst (λ z. AllByRecursion (λ w. byte_cmp z w ≡ Less) other) (sym is) sorted'.0 in
            ap (λ z. found z ++ flat_map found one) is ∙ ap (λ xs. found y ++ xs) (same_walk n one other (omega (arith, most)) sorted.1 sorted'.1 (same_tails x one other sorted.0 above here))
        | Greater ↦ λ below.
            let less : byte_cmp y x ≡ Less = nat_list_cmp_total.antisymm y x ∙ ap ordering_reverse below in
            let absent : has (x ∷ one) y ≡ false = above_none y (x ∷ one) (less, above_all y x one less sorted.0) in
            let back = turned (x ∷ one) (y ∷ other) same in
            let none = nothing_at (y ∷ other) (x ∷ one) y back (is_head y other) absent in
            same_walk n (x ∷ one) other (omega (arith, most)) sorted sorted'.1 (turned other (x ∷ one) (same_after y other (x ∷ one) none back)) ∙ sym (passed y other none)
      ] refl

  -- walks over two lists find the same
  pub walks_alike : (one other : List (List ℕ)) → IsStrictlySortedBy byte_cmp one → IsStrictlySortedBy byte_cmp other → SameFound one other → flat_map found one ≡ flat_map found other
  walks_alike one other = same_walk (length one + length other) one other (omega arith)

-- one digest more
pub walk_more : {R : Type 0} (found : List ℕ → List R) (digests : List (List ℕ)) (digest : List ℕ) → flat_map found (digests ++ digest ∷ []) ≡ flat_map found digests ++ found digest
walk_more found [] digest = append-nil (found digest)
walk_more found (first ∷ digests) digest = ap (λ xs. found first ++ xs) (walk_more found digests digest) ∙ sym (append_assoc (found first) (flat_map found digests) (found digest))

-- what was made of a walk so far, and of one digest more
pub made_more : {R D : Type 0} (makes : R → D) (found : List ℕ → List R) (digests : List (List ℕ)) (digest : List ℕ) (so_far next : List D) → so_far ≡ map makes (flat_map found digests)
    → next ≡ so_far ++ map makes (found digest) → next ≡ map makes (flat_map found (digests ++ digest ∷ []))
made_more makes found digests digest so_far next is more =
    more ∙ ap (λ xs. xs ++ map makes (found digest)) is ∙ sym (map-append makes (flat_map found digests) (found digest)) ∙ ap (map makes) (sym (walk_more found digests digest))

-- what was made of a walk so far, with what is left, is all: also after one more
pub made_next : {K R D : Type 0} (makes : R → D) (found : K → List R) (first : K) (rest : List K) (whole so_far next : List D) → whole ≡ so_far ++ map makes (flat_map found (first ∷ rest))
    → next ≡ so_far ++ map makes (found first) → whole ≡ next ++ map makes (flat_map found rest)
made_next makes found first rest whole so_far next all more =
    all ∙ ap (λ xs. so_far ++ xs) (map-append makes (found first) (flat_map found rest)) ∙ sym (append_assoc so_far (map makes (found first)) (map makes (flat_map found rest)))
    ∙ ap (λ xs. xs ++ map makes (flat_map found rest)) (sym more)

pub made_all : {K R D : Type 0} (makes : R → D) (found : K → List R) (whole so_far : List D) → whole ≡ so_far ++ map makes (flat_map found []) → whole ≡ so_far
made_all makes found whole so_far all = all ∙ append-nil so_far
