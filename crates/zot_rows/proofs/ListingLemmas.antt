-- Holdings listed row by row.
use Rattle.std.proofs.Common.{◌≡◌, ◌≢◌, ℕ, zero, suc, ◌+◌, ◌/◌, ◌%◌, ◌<◌, ◌≤◌, ◌==◌, arith, lit<, ⊎_elim, Bool, true, cond, List, [], ◌∷◌, ◌++◌, append-nil, map, length, get_or, set, Option, Some, None, IfSome, option_map, refl, sym, ap, subst, ◌∙◌}
use Rattle.std.specs.Global.{Vec}
use Rattle.std.specs.Prelude.{slice_index}
use Rattle.std.specs.List.{All, AllByRecursion, AllPairs, Contains, filter, range_with_len, slice_get}
use Rattle.std.specs.List.Sorted.{IsStrictlySortedBy}
use Rattle.std.specs.declared.cmp.Ordering.TheVariants.{Less}
use Rattle.std.proofs.Math.Nat.{mod-lt}
use Rattle.std.proofs.lemmas.Bool.{cases_lt, cond_both, eq-eqb, eqb-true, ne_eqb, true≢false}
use Rattle.std.proofs.lemmas.List.{append_assoc, get_or-map, length-map, length-set, map-append, map-set}
use Rattle.std.proofs.lemmas.List.Elements.{All-append, All-contains_itself, All-filter, All-from_recursion, All-head, All-push, All-tail, Contains-append_left, Contains-append_right, filter-append, filter_passes}
use Rattle.std.proofs.lemmas.List.FromFn.{get_or-map-range_with_len, length-map-range_with_len, map-range_with_len_more}
use Rattle.std.proofs.lemmas.List.Kept.{AllPairs-cons, AllPairs-filter}
use Rattle.std.proofs.lemmas.Option.{get_or_from_slice_get, slice_get-map, slice_get_within}
use Rattle.zot_contents.specs.Holdings.{AreAllHeld, key_of}
use Rattle.zot_contents.specs.Listing.{place_of}
use Rattle.zot_contents.specs.Pool.{Holders}
use Rattle.zot_contents.specs.Shards.{IsOfShard, shard_of, shards}
use Rattle.zot_contents.specs.declared.holding.Holding.{Holding}
use Rattle.zot_contents.specs.declared.shard.DigestShard.{DigestShard}
use Rattle.zot_digest.specs.ByteMap.{byte_cmp}
use Rattle.zot_layout.specs.Rows.{IsOfRow}
use Rattle.zot_maps.proofs.Entries.{apart}
use Rattle.zot_maps.proofs.Maps.{byte_order, same_key}
use Rattle.zot_names.specs.Name.{IsName}
use Rattle.zot_outside.specs.declared.stores.store.Store.{Ghosts}
use Rattle.zot_pool.specs.Opening.{RosePart}
use Rattle.zot_pool.specs.Pools.{ChangesOnly, HasReadCause, faults_of}
use Rattle.zot_pool.specs.declared.pool_error.PoolError.{PoolError}
use Rattle.zot_pool.specs.declared.pool_error.PoolError.TheVariants as pools
use Rattle.zot_siphash.specs.Owners as owners
use Rattle.zot_siphash.specs.SipHash.{siphash}
use Rattle.zot_repo.specs.Opening.{AreAllOf, AreOwn, IsHeldBy}
use Rattle.zot_rows.specs.Listing.{AreApart, AreHeldBelow, AreListed, ArePut, AreRead, EachApart, EachHeld, EachOwn, HasListCause, IsBelow, by_row, list_error, lists_of, of_row, row_at, rows_of}

-- ---- one item of a range

module _ {X : Type 0} (f g : ℕ → X) (row : ℕ) (others : (k : ℕ) → k ≢ row → f k ≡ g k) where
  same_range : (a n : ℕ) → row < a → map f (range_with_len a n) ≡ map g (range_with_len a n)
  same_range a zero above = refl
  same_range a (suc n) above = λ i. others a (λ (same : a ≡ row). absurd (omega (arith, same, above))) i ∷ same_range (a + 1) n (omega arith) i

  set_range : (a n i : ℕ) → a + i ≡ row → i < n → set (map f (range_with_len a n)) i (g row) ≡ map g (range_with_len a n)
  set_range a zero i at within = absurd (omega arith)
  set_range a (suc n) zero at within = let here : row ≡ a = omega (arith, at) in λ i. g (here i) ∷ same_range (a + 1) n (omega (arith, at)) i
  set_range a (suc n) (suc k) at within =
      λ i. others a (λ (same : a ≡ row). absurd (omega (arith, same, at))) i ∷ set_range (a + 1) n k (omega (arith, at)) (omega arith) i

-- ---- one holding more

module _ (key : List ℕ) (members : ℕ) where
  one_own : (row : ℕ) (h : Holding) (before : List Holding) → row_at key members h.name ≡ row → of_row key members row before ++ (h ∷ []) ≡ of_row key members row (before ++ (h ∷ []))
  one_own row h before is =
      ap (λ l. of_row key members row before ++ l) (ap (λ b. cond b (h ∷ []) []) (sym (eq-eqb (row_at key members h.name) row is)))
      ∙ sym (filter-append (λ (h : Holding). row_at key members h.name == row) before (h ∷ []))

  one_other : (row : ℕ) (h : Holding) (before : List Holding) → row_at key members h.name ≡ row → (k : ℕ) → k ≢ row → of_row key members k before ≡ of_row key members k (before ++ (h ∷ []))
  one_other row h before is k apart =
      sym (filter-append (λ (h : Holding). row_at key members h.name == k) before (h ∷ [])
      ∙ ap (λ b. of_row key members k before ++ cond b (h ∷ []) []) (ne_eqb (row_at key members h.name) k (λ same. apart (sym same ∙ is)))
      ∙ append-nil (of_row key members k before))

  by_row_more : (row : ℕ) (h : Holding) (before : List Holding) → row_at key members h.name ≡ row → row < rows_of members
      → set (by_row key members before) row (of_row key members row (before ++ (h ∷ []))) ≡ by_row key members (before ++ (h ∷ []))
  by_row_more row h before is within =
      set_range (λ k. of_row key members k before) (λ k. of_row key members k (before ++ (h ∷ []))) row (one_other row h before is) 0 (rows_of members) row (omega arith) within

  pub put_more : (xs : List (Vec Holding)) (row : ℕ) (x y : Vec Holding) (h : Holding) (before : List Holding) → row_at key members h.name ≡ row → row < rows_of members → x ≡ get_or xs row x
      → y.items ≡ x.items ++ (h ∷ []) → lists_of xs ≡ by_row key members before → lists_of (set xs row y) ≡ by_row key members (before ++ (h ∷ []))
  put_more xs row x y h before is within at more lists =
      let long : length xs ≡ rows_of members = sym (length-map xs (λ (v : Vec Holding). v.items)) ∙ ap length lists ∙ length-map-range_with_len (λ r. of_row key members r before) 0 (rows_of members) in
      let here : x.items ≡ of_row key members row before =
      ap (λ (v : Vec Holding). v.items) at ∙ sym (get_or-map (λ (v : Vec Holding). v.items) xs row x [] (subst (λ n. row < n) (sym long) within)) ∙ ap (λ l. get_or l row []) lists
      ∙ get_or-map-range_with_len (λ r. of_row key members r before) 0 (rows_of members) row row [] within (omega arith)
      in
      map-set (λ (v : Vec Holding). v.items) xs row y ∙ ap (λ l. set l row y.items) lists
      ∙ ap (λ l. set (by_row key members before) row l) (more ∙ ap (λ l. l ++ (h ∷ [])) here ∙ one_own row h before is)
      ∙ by_row_more row h before is within

  -- the row of a hash is one of the rows
  pub row_within : (hash : ℕ) → 1 ≤ members → owners.row hash members < rows_of members
  row_within hash some =
      let owner : hash % members < members = mod-lt hash {m = members} some in
      let eighth : hash / members % 8 < 8 = mod-lt (hash / members) {m = 8} (lit< tt) in
      omega (arith, owner, eighth)

  pub none_put : (xs : List (Vec Holding)) (holdings left : List Holding) → length xs ≡ rows_of members → left ≡ holdings → ArePut key members xs xs holdings left
  none_put xs holdings left many is = record {
    many = many;
    taken = [];
    named = λ k d within. absurd (omega (arith, within));
    split = is;
    put = λ before lists. lists ∙ ap (by_row key members) (sym (append-nil before));
  }

  pub one_put : (start xs : List (Vec Holding)) (row : ℕ) (x y : Vec Holding) (h : Holding) (holdings left rest : List Holding) → ArePut key members start xs holdings left → left ≡ h ∷ rest → IsName h.name
      → row ≡ row_at key members h.name → 1 ≤ members → x ≡ get_or xs row x → y.items ≡ x.items ++ (h ∷ []) → ArePut key members start (set xs row y) holdings rest
  one_put start xs row x y h holdings left rest were split named is some at more = record {
    many = length-set xs row y ∙ were.many;
    taken = were.taken ++ (h ∷ []);
    named = All-push (λ h. IsName h.name) were.taken h were.named named;
    split = append_assoc were.taken (h ∷ []) rest ∙ ap (λ l. were.taken ++ l) (sym split) ∙ were.split;
    put = λ before lists.
        put_more xs row x y h (before ++ were.taken) (sym is) (subst (λ r. r < rows_of members) (sym is) (row_within (siphash key h.name) some)) at more (were.put before lists)
        ∙ ap (by_row key members) (append_assoc before were.taken (h ∷ []));
  }

  pub all_put : (start xs : List (Vec Holding)) (holdings left : List Holding) → ArePut key members start xs holdings left → left ≡ []
      → All (λ h. IsName h.name) holdings × ((before : List Holding) → lists_of start ≡ by_row key members before → lists_of xs ≡ by_row key members (before ++ holdings))
  all_put start xs holdings left were none =
      let all : were.taken ≡ holdings = sym (append-nil were.taken) ∙ ap (λ l. were.taken ++ l) (sym none) ∙ were.split in (
        subst (All (λ (h : Holding). IsName h.name)) all were.named,
        λ before lists. were.put before lists ∙ ap (λ l. by_row key members (before ++ l)) all,
      )

  -- a list more, without a holding
  pub none_more : (xs : List (Vec Holding)) (y : Vec Holding) (n : ℕ) → y.items ≡ [] → lists_of xs ≡ map (λ row. of_row key members row []) (range_with_len 0 n)
      → lists_of (xs ++ (y ∷ [])) ≡ map (λ row. of_row key members row []) (range_with_len 0 (n + 1))
  none_more xs y n none lists =
      map-append (λ (v : Vec Holding). v.items) xs (y ∷ []) ∙ ap (λ l. l ++ (y.items ∷ [])) lists ∙ ap (λ (l : List Holding). map (λ row. of_row key members row []) (range_with_len 0 n) ++ (l ∷ [])) none
      ∙ sym (map-range_with_len_more (λ row. of_row key members row []) 0 n n (omega arith))

-- ---- the holdings of a shard more

module _ {X : Type 0} where
  pairs_append : (R : X → X → Type 0) (xs ys : List X) → AllPairs R xs → AllPairs R ys → All (λ x. All (R x) ys) xs → AllPairs R (xs ++ ys)
  pairs_append R [] ys first then across = then
  pairs_append R (x ∷ xs) ys first then across =
      let later : All (R x) xs = λ k d within. first zero (suc k) d (omega arith) (omega (arith, within)) in
      AllPairs-cons R x (xs ++ ys) (All-append (R x) xs ys later (All-head (λ z. All (R z) ys) x xs across))
      (pairs_append R xs ys (λ i j d below within. first (suc i) (suc j) d (omega (arith, below)) (omega (arith, within))) then (All-tail (λ z. All (R z) ys) x xs across))

  kept_at : (p : X → Bool) (xs : List X) (y : X) → p y ≡ true → (k : ℕ) → k < length xs → get_or xs k y ≡ y → Contains (filter p xs) y
  kept_at p [] y passes k within is = absurd (omega (arith, within))
  kept_at p (x ∷ xs) y passes zero within is =
      subst (λ b. Contains (cond b (x ∷ filter p xs) (filter p xs)) y) (sym (ap p is ∙ passes)) (0, omega arith, is)
  kept_at p (x ∷ xs) y passes (suc k) within is =
      let rest = kept_at p xs y passes k (omega (arith, within)) is in
      cond_both (p x) (x ∷ filter p xs) (filter p xs) (λ l. Contains l y) (λ _. Contains-append_right (x ∷ []) (filter p xs) y rest) (λ _. rest)

-- no key is below itself
apart_keys : (h other : Holding) → byte_cmp (key_of h) (key_of other) ≡ Less → place_of h ≢ place_of other
apart_keys h other below same =
    let tied : key_of h ≡ key_of other = ap (λ (p : List ℕ × List ℕ). p.0 ++ p.1) same in
    let itself : byte_cmp (key_of h) (key_of h) ≡ Less = subst (λ k. byte_cmp (key_of h) k ≡ Less) (sym tied) below in
    absurd (true≢false (sym (same_key byte_order (key_of h)) ∙ apart byte_order (key_of h) (key_of h) itself))

ordered_apart : (holdings : List Holding) → IsStrictlySortedBy byte_cmp (map key_of holdings) → AreApart holdings
unfolding IsStrictlySortedBy
ordered_apart [] ordered = λ i j d below within. absurd (omega (arith, within))
ordered_apart (h ∷ holdings) ordered =
    AllPairs-cons (λ h other. place_of h ≢ place_of other) h holdings (All-from_recursion (λ other. place_of h ≢ place_of other) holdings (each holdings ordered.0)) (ordered_apart holdings ordered.1)
  where
    each : (others : List Holding) → AllByRecursion (λ key. byte_cmp (key_of h) key ≡ Less) (map key_of others) → AllByRecursion (λ other. place_of h ≢ place_of other) others
    each [] above = tt
    each (other ∷ others) above = (apart_keys h other above.0, each others above.1)

module _ (number : ℕ) (before holdings : List Holding) where
  abbrev AreOfShard : Type 0
  AreOfShard = All (λ (h : Holding). IsOfShard number h.digest) holdings

  below_more : All (IsBelow number) before → All (λ h. IsName h.name) holdings → AreOfShard → All (IsBelow (number + 1)) (before ++ holdings)
  below_more below named own =
      All-append (IsBelow (number + 1)) before holdings
      (λ k d within. let h = below k d within in record { named = h.named; digest_is = h.digest_is; below = omega (arith, h.below) })
      (λ k d within. let o = own k d within in record { named = named k d within; digest_is = o.0; below = omega (arith, o.1) })

  apart_more : All (IsBelow number) before → AreApart before → AreOfShard → AreApart holdings → AreApart (before ++ holdings)
  apart_more below first own then =
      pairs_append (λ h other. place_of h ≢ place_of other) before holdings first then
      (λ k d within j e inside same. let digests = ap (λ (p : List ℕ × List ℕ). shard_of p.0) same in absurd (omega (arith, (below k d within).below, (own j e inside).1, digests)))

  held_more : (held : Holders) → AreHeldBelow number held before → AreAllHeld number held holdings → AreHeldBelow (number + 1) held (before ++ holdings)
  held_more held first then = record {
    listed = All-append (IsHeldBy held) before holdings first.listed
        (λ k d within. let h = then.listed (get_or holdings k d) (All-contains_itself holdings k d within) in record { bytes = h.bytes; holds = h.holds; size = h.size });
    all = λ digest name is below named some. ⊎_elim
        (λ low. let found = first.all digest name is low named some in
        record { holding = found.holding; has = Contains-append_left before holdings found.holding found.has; digest_is = found.digest_is; name_is = found.name_is })
        (λ here. let found = then.all digest name (is, omega (arith, below, here)) named some in
        record { holding = found.0; has = Contains-append_right before holdings found.0 found.1; digest_is = found.2; name_is = found.3 })
        (cases_lt (shard_of digest) number);
  }

  pub read_more : (told : Option Holders) → AreRead number told before → All (λ h. IsName h.name) holdings → AreOfShard → IsStrictlySortedBy byte_cmp (map key_of holdings)
      → IfSome told (λ held. AreAllHeld number held holdings) → AreRead (number + 1) told (before ++ holdings)
  read_more told read named own ordered held = record {
    below = below_more read.below named own;
    apart = apart_more read.below read.apart own (ordered_apart holdings ordered);
    held = both told read.held held;
  } where
    both : (told : Option Holders) → IfSome told (λ held. AreHeldBelow number held before) → IfSome told (λ held. AreAllHeld number held holdings) → IfSome told (λ held. AreHeldBelow (number + 1) held (before ++ holdings))
    both None first then = tt
    both (Some held) first then = held_more held first then

pub none_read : (told : Option Holders) → AreRead 0 told []
none_read told = record { below = λ k d within. absurd (omega (arith, within)); apart = λ i j d below within. absurd (omega (arith, within)); held = none told } where
  none : (told : Option Holders) → IfSome told (λ held. AreHeldBelow 0 held [])
  none None = tt
  none (Some held) = record { listed = λ k d within. absurd (omega (arith, within)); all = λ digest name is below named some. absurd (omega (arith, below)) }

-- ---- each row's list

module _ (key : List ℕ) (members : ℕ) (told : Option Holders) (lists : List (List Holding)) (listed : AreListed key members shards told lists) where
  abbrev all : List Holding
  all = listed.holdings

  is_row : (row : ℕ) (holdings : List Holding) → slice_get lists row ≡ Some holdings → of_row key members row all ≡ holdings
  is_row row holdings is =
      let within : row < rows_of members =
      subst (λ n. row < n) (ap length listed.lists_are ∙ length-map-range_with_len (λ r. of_row key members r all) 0 (rows_of members)) (slice_get_within lists row holdings is)
      in
      sym (get_or-map-range_with_len (λ r. of_row key members r all) 0 (rows_of members) row row [] within (omega arith))
      ∙ sym (ap (λ l. get_or l row []) listed.lists_are) ∙ get_or_from_slice_get lists row holdings [] is

  passes : (row : ℕ) (h : Holding) → IsOfRow key members row h.name → (row_at key members h.name == row) ≡ true
  passes row h own = eq-eqb (row_at key members h.name) row own.placed

  pub each_own : EachOwn key members lists
  each_own row holdings is =
      subst (AreOwn (IsOfRow key members row)) (is_row row holdings is)
      (λ k d within.
      let h = All-filter (λ h. row_at key members h.name == row) (IsBelow shards) all listed.read.below k d within in
      let here = filter_passes (λ h. row_at key members h.name == row) all k d within in
      (record { named = h.named; placed = eqb-true (row_at key members (get_or (of_row key members row all) k d).name) row here }, h.digest_is))

  pub each_apart : EachApart lists
  each_apart row holdings is = subst AreApart (is_row row holdings is) (AllPairs-filter (λ h other. place_of h ≢ place_of other) (λ h. row_at key members h.name == row) all listed.read.apart)

  row_held : (held : Holders) (row : ℕ) → AreHeldBelow shards held all → AreAllOf (IsOfRow key members row) held (of_row key members row all)
  row_held held row is = record {
    listed = All-filter (λ h. row_at key members h.name == row) (IsHeldBy held) all is.listed;
    all = λ digest name digest_is own some.
        let found = is.all digest name digest_is (mod-lt (slice_index digest 0) {m = shards} (lit< tt)) own.named some in
        record {
          holding = found.holding;
          has = kept_at (λ h. row_at key members h.name == row) all found.holding (passes row found.holding (subst (IsOfRow key members row) (sym found.name_is) own)) found.has.0 found.has.1 found.has.2;
          digest_is = found.digest_is;
          name_is = found.name_is;
        };
  }

  pub each_held : IfSome told (λ held. EachHeld key members held lists)
  each_held = by told listed.read.held where
    by : (t : Option Holders) → IfSome t (λ held. AreHeldBelow shards held all) → IfSome t (λ held. EachHeld key members held lists)
    by None h = tt
    by (Some held) h = λ row holdings is. subst (AreAllOf (IsOfRow key members row) held) (is_row row holdings is) (row_held held row h)

-- as many lists as rows
pub listed_long : (key : List ℕ) (members number : ℕ) (told : Option Holders) (xs : List (Vec Holding)) → AreListed key members number told (lists_of xs) → length xs ≡ rows_of members
listed_long key members number told xs listed =
    sym (length-map xs (λ (v : Vec Holding). v.items)) ∙ ap length listed.lists_are ∙ length-map-range_with_len (λ r. of_row key members r listed.holdings) 0 (rows_of members)

-- one shard more
pub listed_more : (key : List ℕ) (members number : ℕ) (told : Option Holders) (old new : List (List Holding)) (holdings : List Holding) → AreListed key members number told old → All (λ h. IsName h.name) holdings
    → All (λ (h : Holding). IsOfShard number h.digest) holdings → IsStrictlySortedBy byte_cmp (map key_of holdings) → IfSome told (λ held. AreAllHeld number held holdings)
    → ((before : List Holding) → old ≡ by_row key members before → new ≡ by_row key members (before ++ holdings)) → AreListed key members (number + 1) told new
listed_more key members number told old new holdings listed named own ordered held put = record {
  holdings = listed.holdings ++ holdings;
  read = read_more number listed.holdings holdings told listed.read named own ordered held;
  lists_are = put listed.holdings listed.lists_are;
}

-- ---- why nothing is listed

pub list_cause : {S : Type 0} {G : Ghosts S} (xs ys : List (DigestShard S G)) (start : List ℕ) (number : ℕ) (error : PoolError) → number < shards → HasReadCause number (faults_of xs) (faults_of ys) (Some error)
    → ChangesOnly number xs ys → faults_of xs ≡ start → HasListCause start (faults_of ys) (list_error number error)
list_cause {S} {G} xs ys start number pools.Failed within cause beside same =
    subst (λ l. RosePart l (faults_of ys) number) same (record {
      within = within;
      here = cause.cause.failed.here;
      others = λ other apart. slice_get-map (λ (s : DigestShard S G). G.faults s.part) ys other ∙ ap (option_map (λ (s : DigestShard S G). G.faults s.part)) (beside other apart)
          ∙ sym (slice_get-map (λ (s : DigestShard S G). G.faults s.part) xs other);
    })
list_cause {S} {G} xs ys start number pools.NoMemory within cause beside same = cause.kept ∙ same
