-- Entries that are put into a map one after another: where they agree with a sorted list and have all its keys, they give that list.
use Rattle.std.proofs.Common.{◌≡◌, ℕ, Bool, true, false, cond, List, [], ◌∷◌, Option, Some, None, refl, sym, ap, subst, ◌∙◌}
use Rattle.std.specs.Prelude.{◌||◌, T}
use Rattle.std.specs.BTreeMap.{insert_entry}
use Rattle.std.specs.FinMap.Entries.{by_order, find, find-put, is_sorted, is_sorted-put, put, same_entries}
use Rattle.std.specs.List.{list_any}
use Rattle.std.specs.Ordering.{eq_by_cmp, match_ordering}
use Rattle.std.specs.declared.cmp.Ordering.{Ordering}
use Rattle.std.specs.declared.cmp.Ordering.TheVariants.{Less, Equal, Greater}
use Rattle.std.proofs.lemmas.Bool.{true≢false}
use Rattle.zot_digest.specs.ByteMap.{byte_cmp}
use Rattle.zot_maps.proofs.Entries.{AllFound}
use Rattle.zot_maps.proofs.Maps.{byte_order, tied_keys}

either_false : (a b : Bool) → (a || b) ≡ false → (a ≡ false) × (b ≡ false)
either_false true b h = absurd (true≢false h)
either_false false b h = (refl, h)

module _ {X : Type 0} where
  -- ---- entries put in one after another

  abbrev pub inserted : List (List ℕ × X) → List (List ℕ × X) → List (List ℕ × X)
  inserted es [] = es
  inserted es (x ∷ xs) = inserted (insert_entry byte_cmp es x.0 x.1) xs

  pub same_put : (es : List (List ℕ × X)) (k : List ℕ) (v : X) → insert_entry byte_cmp es k v ≡ put byte_cmp k v es
  same_put [] k v = refl
  same_put (e ∷ es) k v = by (same_put es k v) (byte_cmp k e.0) where
    by : insert_entry byte_cmp es k v ≡ put byte_cmp k v es → (o : Ordering) → match_ordering o ((k, v) ∷ e ∷ es) ((e.0, v) ∷ es) (e ∷ insert_entry byte_cmp es k v) ≡ by_order o ((k, v) ∷ e ∷ es) ((e.0, v) ∷ es) (e ∷ put byte_cmp k v es)
    by same Less = refl
    by same Equal = refl
    by same Greater = ap (λ rest. e ∷ rest) same

  find_inserted : (q k : List ℕ) (v : X) (es : List (List ℕ × X)) → find byte_cmp q (insert_entry byte_cmp es k v) ≡ cond (eq_by_cmp byte_cmp q k) (Some v) (find byte_cmp q es)
  find_inserted q k v es = ap (find byte_cmp q) (same_put es k v) ∙ find-put byte_cmp byte_order.total q k v es

  -- whether an entry has the key
  abbrev pub has_key : List ℕ → List (List ℕ × X) → Bool
  has_key q es = list_any (λ e. eq_by_cmp byte_cmp q e.0) es

  not_put : (q : List ℕ) (es xs : List (List ℕ × X)) → has_key q xs ≡ false → find byte_cmp q (inserted es xs) ≡ find byte_cmp q es
  not_put q es [] h = refl
  not_put q es (x ∷ xs) h =
      let parts = either_false (eq_by_cmp byte_cmp q x.0) (has_key q xs) h in
      not_put q (insert_entry byte_cmp es x.0 x.1) xs parts.1 ∙ find_inserted q x.0 x.1 es ∙ ap (λ b. cond b (Some x.1) (find byte_cmp q es)) parts.0

  put_in : (q : List ℕ) (es xs target : List (List ℕ × X)) → AllFound byte_order target xs → has_key q xs ≡ true → find byte_cmp q (inserted es xs) ≡ find byte_cmp q target
  put_in q es [] target h has = absurd (true≢false (sym has))
  put_in q es (x ∷ xs) target h has = split (has_key q xs) refl (put_in q (insert_entry byte_cmp es x.0 x.1) xs target h.1) where
    here : (b : Bool) → eq_by_cmp byte_cmp q x.0 ≡ b → has_key q xs ≡ false → (b || has_key q xs) ≡ true → find byte_cmp q (inserted es (x ∷ xs)) ≡ find byte_cmp q target
    here true tied none is =
        not_put q (insert_entry byte_cmp es x.0 x.1) xs none ∙ find_inserted q x.0 x.1 es ∙ ap (λ b. cond b (Some x.1) (find byte_cmp q es)) tied
        ∙ sym h.0 ∙ ap (λ k. find byte_cmp k target) (sym (tied_keys byte_order q x.0 tied))
    here false tied none is = absurd (true≢false (sym is ∙ none))

    split : (b : Bool) → has_key q xs ≡ b → (has_key q xs ≡ true → find byte_cmp q (inserted es (x ∷ xs)) ≡ find byte_cmp q target) → find byte_cmp q (inserted es (x ∷ xs)) ≡ find byte_cmp q target
    split true later more = more later
    split false none more = here (eq_by_cmp byte_cmp q x.0) refl none has

  sorted_inserted : (es xs : List (List ℕ × X)) → T (is_sorted byte_cmp es) → T (is_sorted byte_cmp (inserted es xs))
  sorted_inserted es [] h = h
  sorted_inserted es (x ∷ xs) h =
      sorted_inserted (insert_entry byte_cmp es x.0 x.1) xs (subst (λ fs. T (is_sorted byte_cmp fs)) (sym (same_put es x.0 x.1)) (is_sorted-put byte_cmp byte_order.total x.0 x.1 es h))

  none_there : (found : Option X) → (((v : X) → found ≡ Some v → ⊥)) → found ≡ None
  none_there None h = refl
  none_there (Some v) h = absurd (h v refl)

  -- entries that agree with a sorted list and have all its keys give that list
  pub inserted_all : (xs target : List (List ℕ × X)) → T (is_sorted byte_cmp target) → AllFound byte_order target xs → ((q : List ℕ) (v : X) → find byte_cmp q target ≡ Some v → has_key q xs ≡ true) → inserted [] xs ≡ target
  inserted_all xs target sorted agree has =
      same_entries byte_cmp byte_order.total byte_order.antisymmetric (inserted [] xs) target (sorted_inserted [] xs tt) sorted (λ q. split q (has_key q xs) refl) where
        split : (q : List ℕ) (b : Bool) → has_key q xs ≡ b → find byte_cmp q (inserted [] xs) ≡ find byte_cmp q target
        split q true is = put_in q [] xs target agree is
        split q false none = not_put q [] xs none ∙ sym (none_there (find byte_cmp q target) (λ v there. true≢false (sym (has q v there) ∙ none)))
