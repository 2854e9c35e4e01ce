-- Finite maps under ordered keys, and a tree's entries seen as such a map.
use Rattle.std.proofs.Common.{◌≡◌, ◌≢◌, ℕ, suc, ◌+◌, ◌≤◌, Bool, true, false, cond, List, [], ◌∷◌, length, Option, Some, None, is_some, refl, sym, ap, ◌∙◌, arith}
use Rattle.std.specs.BTreeMap.{is_at}
use Rattle.std.specs.Cmp.{Equal-is, eq_by_cmp_equiv, nat_cmp_total}
use Rattle.std.specs.Cmp.Lexicographic.{nat_list_cmp_total, slice_cmp}
use Rattle.std.specs.FinMap as map
use Rattle.std.specs.FinMap.{find, get-from_entries, get-insert, get-remove, len-empty, len-insert, nat_cmp-IsAntisymmetric, slice_cmp-IsAntisymmetric}
use Rattle.std.specs.List.Sorted.{IsStrictlySortedBy}
use Rattle.std.specs.List.{IsDistinct, filter}
use Rattle.std.specs.Map.{keys_of, lookup}
use Rattle.std.specs.Ordering.{eq_by_cmp, nat_cmp}
use Rattle.std.specs.declared.cmp.Ordering.{Ordering}
use Rattle.std.proofs.lemmas.Bool.{false_from_ne_true, true≢false}
use Rattle.std.proofs.lemmas.Map.{lookup-none}
use Rattle.std.proofs.lemmas.Map.Entries.{lookup-filter-values, none_past_head, option_filter}
use Rattle.std.proofs.lemmas.Map.Keys.{IsDistinct-from_sorted, IsDistinct-tail}
use Rattle.zot_maps.specs.Order.{IsKeyOrder}

-- numbers, in their order
pub number_order : IsKeyOrder nat_cmp
number_order = record { total = nat_cmp_total; antisymmetric = nat_cmp-IsAntisymmetric }

-- lists of bytes, byte by byte
pub byte_order : IsKeyOrder (slice_cmp nat_cmp)
byte_order = record { total = nat_list_cmp_total; antisymmetric = slice_cmp-IsAntisymmetric nat_cmp-IsAntisymmetric }

module _ {K : Type 0} {cmp : K → K → Ordering} (order : IsKeyOrder cmp) where
  pub tied_keys : (q k : K) → eq_by_cmp cmp q k ≡ true → q ≡ k
  tied_keys q k h = order.antisymmetric q k ((Equal-is (cmp q k)).0 h)

  pub same_key : (k : K) → eq_by_cmp cmp k k ≡ true
  same_key k = (eq_by_cmp_equiv order.total).refl k

  pub other_key : (q k : K) → q ≢ k → eq_by_cmp cmp q k ≡ false
  other_key q k apart = false_from_ne_true _ (λ h. apart (tied_keys q k h))

at_most_one : (b : Bool) (n m : ℕ) → n ≤ m → cond b n (n + 1) ≤ suc m
at_most_one true n m h = omega arith
at_most_one false n m h = omega arith

one_more : {X : Type 0} (found : Option X) (n : ℕ) → found ≡ None → cond (is_some found) n (n + 1) ≡ n + 1
one_more None n h = refl
one_more (Some x) n h = cc h

module _ {K X : Type 0} {cmp : K → K → Ordering} (order : IsKeyOrder cmp) where
  -- two maps with the same value at each key are one
  pub same_map : (m n : map.FinMap cmp X) → ((q : K) → map.get m q ≡ map.get n q) → m ≡ n
  same_map m n h = map.same_map order.total order.antisymmetric m n h

  pub get_here : (m : map.FinMap cmp X) (k : K) (x : X) → map.get (map.insert m k x) k ≡ Some x
  get_here m k x = get-insert order.total m k x k ∙ ap (λ b. cond b (Some x) (map.get m k)) (same_key order k)

  pub get_elsewhere : (m : map.FinMap cmp X) (k : K) (x : X) (q : K) → q ≢ k → map.get (map.insert m k x) q ≡ map.get m q
  get_elsewhere m k x q apart = get-insert order.total m k x q ∙ ap (λ b. cond b (Some x) (map.get m q)) (other_key order q k apart)

  pub removed_here : (m : map.FinMap cmp X) (k : K) → map.get (map.remove m k) k ≡ None
  removed_here m k = get-remove order.total m k k ∙ ap (λ b. cond b None (map.get m k)) (same_key order k)

  pub removed_elsewhere : (m : map.FinMap cmp X) (k q : K) → q ≢ k → map.get (map.remove m k) q ≡ map.get m q
  removed_elsewhere m k q apart = get-remove order.total m k q ∙ ap (λ b. cond b None (map.get m q)) (other_key order q k apart)

  -- two maps that have the same at one key and at every other are one
  pub same_by_key : (m n : map.FinMap cmp X) (k : K) → map.get m k ≡ map.get n k → ((q : K) → q ≢ k → map.get m q ≡ map.get n q) → m ≡ n
  same_by_key m n k here others = same_map m n (λ q.
      elim (eq_by_cmp cmp q k) as (λ b. eq_by_cmp cmp q k ≡ b → map.get m q ≡ map.get n q) [
        | true ↦ λ tied. let is = tied_keys order q k tied in ap (map.get m) is ∙ here ∙ sym (ap (map.get n) is)
        | false ↦ λ free. others q (λ is. true≢false (sym (same_key order k) ∙ ap (λ p. eq_by_cmp cmp p k) (sym is) ∙ free))
      ] refl)

  -- a value that is there already
  pub insert-same : (m : map.FinMap cmp X) (k : K) (x : X) → map.get m k ≡ Some x → map.insert m k x ≡ m
  insert-same m k x has = same_by_key (map.insert m k x) m k (get_here m k x ∙ sym has) (λ q apart. get_elsewhere m k x q apart)

  find-lookup : (es : List (K × X)) (q : K) → find cmp q es ≡ lookup (is_at (cmp q)) es
  find-lookup [] q = refl
  find-lookup (e ∷ es) q = ap (cond (is_at (cmp q) e.0) (Some e.1)) (find-lookup es q)

  -- the map of a tree's entries has at a key what the tree has there
  pub get-entries : (es : List (K × X)) (q : K) → map.get (map.from_entries {R = cmp} es) q ≡ lookup (is_at (cmp q)) es
  get-entries es q = get-from_entries order.total es q ∙ find-lookup es q

  -- the same of a map that these entries make
  pub found_at : (es : List (K × X)) (m : map.FinMap cmp X) (k : K) (found : Option X) → map.from_entries es ≡ m → found ≡ lookup (is_at (cmp k)) es → map.get m k ≡ found
  found_at es m k found is has = ap (λ n. map.get n k) (sym is) ∙ get-entries es k ∙ sym has

  -- the map after a tree has taken a value at a key
  pub entries-insert : (es fs : List (K × X)) (k : K) (x : X) → ((q : K) → lookup (is_at (cmp q)) fs ≡ cond (is_at (cmp k) q) (Some x) (lookup (is_at (cmp q)) es))
      → map.from_entries {R = cmp} fs ≡ map.insert (map.from_entries es) k x
  entries-insert es fs k x h = same_map _ _ (λ q.
      get-entries fs q ∙ h q ∙ ap (λ b. cond b (Some x) (lookup (is_at (cmp q)) es)) ((eq_by_cmp_equiv order.total).symm k q)
      ∙ sym (get-insert order.total (map.from_entries es) k x q ∙ ap (cond (is_at (cmp q) k) (Some x)) (get-entries es q)))

  -- the map after a tree has let a key go
  pub entries-remove : (es fs : List (K × X)) (k : K) → ((q : K) → lookup (is_at (cmp q)) fs ≡ cond (is_at (cmp k) q) None (lookup (is_at (cmp q)) es))
      → map.from_entries {R = cmp} fs ≡ map.remove (map.from_entries es) k
  entries-remove es fs k h = same_map _ _ (λ q.
      get-entries fs q ∙ h q ∙ ap (λ b. cond b None (lookup (is_at (cmp q)) es)) ((eq_by_cmp_equiv order.total).symm k q)
      ∙ sym (get-remove order.total (map.from_entries es) k q ∙ ap (cond (is_at (cmp q) k) None) (get-entries es q)))

  -- the map has at most as many keys as there are entries
  pub few_entries : (es : List (K × X)) → map.len (map.from_entries {R = cmp} es) ≤ length es
  few_entries [] = omega (arith, len-empty cmp X)
  few_entries (e ∷ es) =
      let least = at_most_one (map.contains_key (map.from_entries {R = cmp} es) e.0) (map.len (map.from_entries {R = cmp} es)) (length es) (few_entries es) in
      omega (arith, len-insert order.total (map.from_entries {R = cmp} es) e.0 e.1, least)

  len-distinct : (es : List (K × X)) → IsDistinct (eq_by_cmp cmp) (keys_of es) → map.len (map.from_entries {R = cmp} es) ≡ length es
  len-distinct [] d = len-empty cmp X
  len-distinct (e ∷ es) d =
      let none = get-entries es e.0 ∙ lookup-none (is_at (cmp e.0)) es (none_past_head (eq_by_cmp_equiv order.total) e.0 e es d (same_key order e.0)) in
      let more = len-insert order.total (map.from_entries es) e.0 e.1 ∙ one_more (map.get (map.from_entries es) e.0) (map.len (map.from_entries {R = cmp} es)) none in
      let tail = len-distinct es (IsDistinct-tail (eq_by_cmp cmp) e.0 (keys_of es) d) in
      omega (arith, more, tail)

  -- the map of entries in order has as many keys as there are entries
  pub len-sorted : (es : List (K × X)) → IsStrictlySortedBy cmp (keys_of es) → map.len (map.from_entries {R = cmp} es) ≡ length es
  len-sorted es h = len-distinct es (IsDistinct-from_sorted cmp (keys_of es) h)

  -- the entries whose values pass a test
  pub get-filtered : (test : X → Bool) (es fs : List (K × X)) (k : K) → IsStrictlySortedBy cmp (keys_of es) → fs ≡ filter (λ e. test e.1) es
      → map.get (map.from_entries {R = cmp} fs) k ≡ option_filter test (map.get (map.from_entries {R = cmp} es) k)
  get-filtered test es fs k h is =
      ap (λ l. map.get (map.from_entries {R = cmp} l) k) is ∙ get-entries (filter (λ e. test e.1) es) k
      ∙ lookup-filter-values (eq_by_cmp_equiv order.total) test k es (IsDistinct-from_sorted cmp (keys_of es) h)
      ∙ ap (option_filter test) (sym (get-entries es k))
