-- Rows that are opened part by part.
use Rattle.std.proofs.Common.{◌≡◌, ℕ, zero, suc, ◌+◌, ◌<◌, arith, List, [], ◌∷◌, ◌++◌, map, length, get_or, Option, Some, None, IfSome, Ok, Err, option_map, refl, sym, ap, subst, ◌∙◌}
use Rattle.std.specs.Global.{Vec}
use Rattle.std.specs.List.{All, AllByRecursion, slice_get}
use Rattle.std.proofs.lemmas.List.{get_or-map, length-append}
use Rattle.std.proofs.lemmas.List.Elements.{All-from_recursion}
use Rattle.std.proofs.lemmas.Option.{slice_get-get_or, slice_get-map}
use Rattle.std.proofs.lemmas.Simd.{map-map}
use Rattle.zot_contents.specs.Pool.{Holders}
use Rattle.zot_contents.specs.declared.holding.Holding.{Holding}
use Rattle.zot_contents.specs.declared.shard.DigestShard.{DigestShard}
use Rattle.zot_layout.specs.Causes.{HasLayoutCause}
use Rattle.zot_layout.specs.Rows.{OpensRow}
use Rattle.zot_layout.specs.declared.layout_error.LayoutError.{LayoutError}
use Rattle.zot_layout.specs.declared.layout_error.LayoutError.TheVariants as layouts
use Rattle.zot_outside.specs.Objects.{Objects}
use Rattle.zot_outside.specs.declared.stores.store.Store.{Ghosts}
use Rattle.zot_pool.proofs.SeamLemmas.{others_stay, part_before, part_here, risen_here, seen_after, seen_before, stops_within}
use Rattle.zot_pool.specs.Pools.{part_at}
use Rattle.zot_repo.specs.Opening.{AreAllOf, AreOpened, AreOwn, IsOpenedRow}
use Rattle.zot_repo.specs.RowGoing.{IsOwn}
use Rattle.zot_repo.specs.Rows.{AgreesRow, Tables, state_of}
use Rattle.zot_repo.specs.declared.row_config.RowConfig.{RowConfig}
use Rattle.zot_repo.specs.declared.shard.RepoShard.{RepoShard}
use Rattle.zot_rows.specs.Agreed.{AreAgreed, AreRows, IsRow}
use Rattle.zot_rows.specs.Listing.{EachHeld, EachOwn, lists_of, rows_of}
use Rattle.zot_rows.specs.Opening.{AllAreWhole, AreOpenedOver, AreOpenedRows, AreWhole, HasRowsCause, IsFirstBadRow, IsOpenedOver, OnBadRow, StopsAtRow, row_error}
use Rattle.zot_rows.specs.Rows.{faults_of_row, states_beside}
use Rattle.zot_rows.specs.declared.rows_open_error.RowsOpenError.{RowsOpenError}

-- ---- the list of one row

list_at : (xs : List (Vec Holding)) (k : ℕ) (x : Vec Holding) → k < length xs → x ≡ get_or xs k x → slice_get (lists_of xs) k ≡ Some x.items
list_at xs k x within is =
    slice_get-map (λ (v : Vec Holding). v.items) xs k ∙ ap (option_map (λ (v : Vec Holding). v.items)) (slice_get-get_or xs k x within ∙ ap Some (sym is))

-- a list's holdings are the row's own
pub list_own : (config : RowConfig) (xs : List (Vec Holding)) (k : ℕ) (x : Vec Holding) → k < length xs → x ≡ get_or xs k x → EachOwn config.key config.members (lists_of xs) → AreOwn (IsOwn config k) x.items
list_own config xs k x within is own = own k x.items (list_at xs k x within is)

pub list_is : (xs : List (Vec Holding)) (k : ℕ) (x : Vec Holding) → k < length xs → x ≡ get_or xs k x → get_or (lists_of xs) k [] ≡ x.items
list_is xs k x within is = get_or-map (λ (v : Vec Holding). v.items) xs k x [] within ∙ ap (λ (v : Vec Holding). v.items) (sym is)

-- each row's list is all that is held for it
all_listed : (config : RowConfig) (lists : List (List Holding)) (held : Holders) → length lists ≡ rows_of config.members → EachHeld config.key config.members held lists
    → (m : ℕ) → m < rows_of config.members → AreAllOf (IsOwn config m) held (get_or lists m [])
all_listed config lists held many each m within = each m (get_or lists m []) (slice_get-get_or lists m [] (subst (λ n. m < n) (sym many) within))

-- where a row's tables are opened, the objects of its part have a meaning
pub opened_whole : (objects : Option Objects) (Own : List ℕ → Type 0) (moment : ℕ) (holdings : List Holding) (tables : Tables) → AreOpened objects Own moment holdings tables → IfSome objects (λ told. AreWhole told moment Own)
opened_whole objects Own moment holdings tables made = by objects made.opens where
  by : (o : Option Objects) → IfSome o (λ told. OpensRow told Own moment (Ok made.opened)) → IfSome o (λ told. AreWhole told moment Own)
  by None opens = tt
  by (Some told) opens = record { opened = made.opened; opens = opens }

-- ---- one row more

module _ {S : Type 0} {G : Ghosts S} (config : RowConfig) (moment : ℕ) (lists : List (List Holding)) where
  abbrev Over : ℕ → List S → List (RepoShard S G) → Type 0
  Over = AreOpenedOver config moment lists

  pub rows_long : (n : ℕ) (parts : List S) (rows : List (RepoShard S G)) → Over n parts rows → length rows ≡ length parts
  rows_long n [] [] h = refl
  rows_long n [] (r ∷ rows) h = absurd h
  rows_long n (p ∷ parts) [] h = absurd h
  rows_long n (p ∷ parts) (r ∷ rows) h = ap suc (rows_long (n + 1) parts rows h.1)

  pub rows_more : (n : ℕ) (parts : List S) (rows : List (RepoShard S G)) (part : S) (row : RepoShard S G) → Over n parts rows → IsOpenedOver config moment lists (n + length parts) part row
      → Over n (parts ++ (part ∷ [])) (rows ++ (row ∷ []))
  rows_more n [] [] part row h is = (subst (λ k. IsOpenedOver config moment lists k part row) (omega arith) is, tt)
  rows_more n [] (r ∷ rows) part row h is = absurd h
  rows_more n (p ∷ parts) [] part row h is = absurd h
  rows_more n (p ∷ parts) (r ∷ rows) part row h is = (h.0, rows_more (n + 1) parts rows part row h.1 (subst (λ k. IsOpenedOver config moment lists k part row) (omega arith) is))

  -- ---- what the rows are, all together

  pub rows_objects : (n : ℕ) (parts : List S) (rows : List (RepoShard S G)) → Over n parts rows → map (λ r. G.objects r.core.part) rows ≡ map G.objects parts
  rows_objects n [] [] h = refl
  rows_objects n [] (r ∷ rows) h = absurd h
  rows_objects n (p ∷ parts) [] h = absurd h
  rows_objects n (p ∷ parts) (r ∷ rows) h = λ i. h.0.objects i ∷ rows_objects (n + 1) parts rows h.1 i

  pub rows_faults : (n : ℕ) (parts : List S) (rows : List (RepoShard S G)) → Over n parts rows → map (λ r. G.faults r.core.part) rows ≡ map G.faults parts
  rows_faults n [] [] h = refl
  rows_faults n [] (r ∷ rows) h = absurd h
  rows_faults n (p ∷ parts) [] h = absurd h
  rows_faults n (p ∷ parts) (r ∷ rows) h = λ i. h.0.faults i ∷ rows_faults (n + 1) parts rows h.1 i

  pub rows_failed : (n : ℕ) (parts : List S) (rows : List (RepoShard S G)) → Over n parts rows → All (λ count. count ≡ 0) (map (λ r. r.failed) rows)
  rows_failed n parts rows h = All-from_recursion (λ count. count ≡ 0) (map (λ r. r.failed) rows) (each n parts rows h) where
    each : (n : ℕ) (parts : List S) (rows : List (RepoShard S G)) → Over n parts rows → AllByRecursion (λ count. count ≡ 0) (map (λ r. r.failed) rows)
    each n [] [] h = tt
    each n [] (r ∷ rows) h = absurd h
    each n (p ∷ parts) [] h = absurd h
    each n (p ∷ parts) (r ∷ rows) h = (h.0.failed, each (n + 1) parts rows h.1)

  pub rows_opened : (n : ℕ) (parts : List S) (rows : List (RepoShard S G)) → Over n parts rows → All (λ one. one ≡ moment) (map (λ r. r.core.opened) rows)
  rows_opened n parts rows h = All-from_recursion (λ one. one ≡ moment) (map (λ r. r.core.opened) rows) (each n parts rows h) where
    each : (n : ℕ) (parts : List S) (rows : List (RepoShard S G)) → Over n parts rows → AllByRecursion (λ one. one ≡ moment) (map (λ r. r.core.opened) rows)
    each n [] [] h = tt
    each n [] (r ∷ rows) h = absurd h
    each n (p ∷ parts) [] h = absurd h
    each n (p ∷ parts) (r ∷ rows) h = (h.0.opened, each (n + 1) parts rows h.1)

  row_at_place : (n : ℕ) (parts : List S) (rows : List (RepoShard S G)) → Over n parts rows → (k : ℕ) → IfSome (slice_get rows k) (IsRow config (n + k))
  row_at_place n [] [] h k = tt
  row_at_place n [] (r ∷ rows) h k = absurd h
  row_at_place n (p ∷ parts) [] h k = absurd h
  row_at_place n (p ∷ parts) (r ∷ rows) h zero = subst (λ m. IsRow config m r) (omega arith) h.0.is
  row_at_place n (p ∷ parts) (r ∷ rows) h (suc k) = subst (λ m. IfSome (slice_get rows k) (IsRow config m)) (omega arith) (row_at_place (n + 1) parts rows h.1 k)

  pub rows_numbered : (parts : List S) (rows : List (RepoShard S G)) → length parts ≡ rows_of config.members → Over 0 parts rows → AreRows config rows
  rows_numbered parts rows many h = record {
    many = rows_long 0 parts rows h ∙ many;
    each = λ number. subst (λ m. IfSome (slice_get rows number) (IsRow config m)) (omega arith) (row_at_place 0 parts rows h number);
  }

  -- what each part holds
  parts_whole : (n : ℕ) (parts : List S) (rows : List (RepoShard S G)) → Over n parts rows → (k : ℕ) → IfSome (part_at (map G.objects parts) k) (λ told. AreWhole told moment (IsOwn config (n + k)))
  parts_whole n [] [] h k = tt
  parts_whole n [] (r ∷ rows) h k = absurd h
  parts_whole n (p ∷ parts) [] h k = absurd h
  parts_whole n (p ∷ parts) (r ∷ rows) h zero = subst (λ m. IfSome (G.objects p) (λ told. AreWhole told moment (IsOwn config m))) (omega arith) h.0.whole
  parts_whole n (p ∷ parts) (r ∷ rows) h (suc k) =
      subst (λ m. IfSome (part_at (map G.objects parts) k) (λ told. AreWhole told moment (IsOwn config m))) (omega arith) (parts_whole (n + 1) parts rows h.1 k)

  pub rows_whole : (parts : List S) (rows : List (RepoShard S G)) → Over 0 parts rows → AllAreWhole config moment (map G.objects parts)
  rows_whole parts rows h = λ number _. subst (λ m. IfSome (part_at (map G.objects parts) number) (λ told. AreWhole told moment (IsOwn config m))) (omega arith) (parts_whole 0 parts rows h number)

  -- what is held fits the rows
  module _ (held : Holders) (top : ℕ) (are : (m : ℕ) → m < top → AreAllOf (IsOwn config m) held (get_or lists m [])) where
    agree_at : (n : ℕ) (parts : List S) (rows : List (RepoShard S G)) → n + length parts ≡ top → Over n parts rows → (k : ℕ) → IfSome (slice_get rows k) (λ row. AgreesRow (IsOwn config (n + k)) row.core.repos held)
    agree_at n [] [] long h k = tt
    agree_at n [] (r ∷ rows) long h k = absurd h
    agree_at n (p ∷ parts) [] long h k = absurd h
    agree_at n (p ∷ parts) (r ∷ rows) long h zero =
        subst (λ m. AgreesRow (IsOwn config m) r.core.repos held) (omega arith) (h.0.agrees held (are n (omega (arith, long))))
    agree_at n (p ∷ parts) (r ∷ rows) long h (suc k) =
        subst (λ m. IfSome (slice_get rows k) (λ row. AgreesRow (IsOwn config m) row.core.repos held)) (omega arith) (agree_at (n + 1) parts rows (omega (arith, long)) h.1 k)

    here_state : (n : ℕ) (p : S) (r : RepoShard S G) → n < top → IsOpenedOver config moment lists n p r
        → IfSome (G.objects p) (λ told. IsOpenedRow told moment (IsOwn config n) held (state_of r.core.repos held (faults_of_row r)))
    here_state n p r within is = by (G.objects p) is.state where
      by : (o : Option Objects) → IfSome o (λ told. (held : Holders) → AreAllOf (IsOwn config n) held (get_or lists n []) → IsOpenedRow told moment (IsOwn config n) held (state_of r.core.repos held 0))
          → IfSome o (λ told. IsOpenedRow told moment (IsOwn config n) held (state_of r.core.repos held (faults_of_row r)))
      by None h = tt
      by (Some told) h = h held (are n within)

    state_at : (n : ℕ) (parts : List S) (rows : List (RepoShard S G)) → n + length parts ≡ top → Over n parts rows → (k : ℕ)
        → IfSome (part_at (map G.objects parts) k) (λ told. IsOpenedRow told moment (IsOwn config (n + k)) held (states_beside held rows k))
    state_at n [] [] long h k = tt
    state_at n [] (r ∷ rows) long h k = absurd h
    state_at n (p ∷ parts) [] long h k = absurd h
    state_at n (p ∷ parts) (r ∷ rows) long h zero =
        subst (λ m. IfSome (G.objects p) (λ told. IsOpenedRow told moment (IsOwn config m) held (state_of r.core.repos held (faults_of_row r)))) (omega arith) (here_state n p r (omega (arith, long)) h.0)
    state_at n (p ∷ parts) (r ∷ rows) long h (suc k) =
        subst (λ m. IfSome (part_at (map G.objects parts) k) (λ told. IsOpenedRow told moment (IsOwn config m) held (states_beside held rows k))) (omega arith) (state_at (n + 1) parts rows (omega (arith, long)) h.1 k)

  pub rows_agreed : (told : Option Holders) (parts : List S) (rows : List (RepoShard S G)) → length parts ≡ rows_of config.members → length lists ≡ rows_of config.members
      → IfSome told (λ held. EachHeld config.key config.members held lists) → Over 0 parts rows → IfSome told (AreAgreed config rows)
  rows_agreed None parts rows many listed each h = tt
  rows_agreed (Some held) parts rows many listed each h = λ number.
      subst (λ m. IfSome (slice_get rows number) (λ row. AgreesRow (IsOwn config m) row.core.repos held)) (omega arith)
      (agree_at held (rows_of config.members) (all_listed config lists held listed each) 0 parts rows (omega (arith, many)) h number)

  pub rows_state : (told : Option Holders) (parts : List S) (rows : List (RepoShard S G)) → length parts ≡ rows_of config.members → length lists ≡ rows_of config.members
      → IfSome told (λ held. EachHeld config.key config.members held lists) → Over 0 parts rows → IfSome told (λ held. AreOpenedRows config moment (map G.objects parts) held (states_beside held rows))
  rows_state None parts rows many listed each h = tt
  rows_state (Some held) parts rows many listed each h = λ number within.
      subst (λ m. IfSome (part_at (map G.objects parts) number) (λ told. IsOpenedRow told moment (IsOwn config m) held (states_beside held rows number))) (omega arith)
      (state_at held (rows_of config.members) (all_listed config lists held listed each) 0 parts rows (omega (arith, many)) h number)

  -- ---- a part over which no row is opened

  module _ (parts : List S) (rows : List (RepoShard S G)) (left : List S) (error : RowsOpenError) (stops : StopsAtRow config moment lists parts rows left error) where
    abbrev parts_of : List (RepoShard S G) → List S
    parts_of l = map (λ r. r.core.part) l

    pub stopped_long : length rows + length left ≡ length parts
    stopped_long = omega (arith, rows_long 0 stops.done rows stops.opened, ap length stops.left_is, ap length stops.split, length-append stops.done (stops.part ∷ stops.rest))

    stopped_seen : {X : Type 0} (f : S → X) → map (λ (r : RepoShard S G). f r.core.part) rows ≡ map f stops.done → map f (parts_of rows ++ left) ≡ map f stops.done ++ (f stops.back ∷ map f stops.rest)
    stopped_seen f = seen_after f (λ (r : RepoShard S G). r.core.part) rows stops.done stops.rest left stops.back stops.left_is

    pub stopped_objects : map G.objects (parts_of rows ++ left) ≡ map G.objects parts
    stopped_objects =
        stopped_seen G.objects (rows_objects 0 stops.done rows stops.opened)
        ∙ ap (λ o. map G.objects stops.done ++ (o ∷ map G.objects stops.rest)) stops.objects ∙ sym (seen_before G.objects parts stops.done stops.rest stops.part stops.split)

    abbrev counts : ℕ → List ℕ
    counts n = map G.faults stops.done ++ (n ∷ map G.faults stops.rest)

    among : length parts ≡ rows_of config.members → length stops.done < rows_of config.members
    among many = subst (λ n. length stops.done < n) many (stops_within parts stops.done stops.rest stops.part stops.split)

    cause_of : (shards_old shards_new : List ℕ) → shards_new ≡ shards_old → length parts ≡ rows_of config.members → (fault : LayoutError) → HasLayoutCause {A = Tables} (G.faults stops.part) (G.faults stops.back) (Err fault)
        → HasRowsCause config.members (counts (G.faults stops.part)) (counts (G.faults stops.back)) shards_old shards_new (row_error (length stops.done) fault)
    cause_of old new same many (layouts.BadIndex path text) cause = record { rows = ap counts cause.kept; shards = same }
    cause_of old new same many (layouts.BadMeta path text) cause = record { rows = ap counts cause.kept; shards = same }
    cause_of old new same many layouts.NoMemory cause = record { rows = ap counts cause.kept; shards = same }
    cause_of old new same many layouts.Failed cause = record {
      rows = record {
        within = among many;
        here = risen_here G.faults stops.done stops.rest (G.faults stops.part) (G.faults stops.back) cause.failed;
        others = others_stay G.faults stops.done stops.rest (G.faults stops.part) (G.faults stops.back);
      };
      shards = same;
    }

    pub stopped_cause : (shards_old shards_new : List ℕ) → shards_new ≡ shards_old → length parts ≡ rows_of config.members
        → HasRowsCause config.members (map G.faults parts) (map G.faults (parts_of rows ++ left)) shards_old shards_new error
    stopped_cause old new same many =
        let number = length stops.done in
        subst (HasRowsCause config.members (map G.faults parts) (map G.faults (parts_of rows ++ left)) old new) (sym stops.error_is)
        (subst (λ l. HasRowsCause config.members l (map G.faults (parts_of rows ++ left)) old new (row_error number stops.fault)) (sym (seen_before G.faults parts stops.done stops.rest stops.part stops.split))
        (subst (λ l. HasRowsCause config.members (counts (G.faults stops.part)) l old new (row_error number stops.fault)) (sym (stopped_seen G.faults (rows_faults 0 stops.done rows stops.opened)))
        (cause_of old new same many stops.fault stops.cause)))

    first_bad : length parts ≡ rows_of config.members → IsFirstBadRow config moment (map G.objects parts) stops.fault
    first_bad many = record {
      number = length stops.done;
      within = among many;
      here = subst (λ o. IfSome o (λ told. OpensRow told (IsOwn config (length stops.done)) moment (Err stops.fault))) (sym (part_here G.objects parts stops.done stops.rest stops.part stops.split)) stops.bad;
      before = λ other within.
          subst (λ o. IfSome o (λ told. AreWhole told moment (IsOwn config other))) (sym (part_before G.objects parts stops.done stops.rest stops.part stops.split other within))
          (subst (λ m. IfSome (part_at (map G.objects stops.done) other) (λ told. AreWhole told moment (IsOwn config m))) (omega arith) (parts_whole 0 stops.done rows stops.opened other));
    }

    bad_of : (number : ℕ) (P : LayoutError → Type 0) (fault : LayoutError) → P fault → OnBadRow (row_error number fault) P
    bad_of number P (layouts.BadIndex path text) bad = bad
    bad_of number P (layouts.BadMeta path text) bad = bad
    bad_of number P layouts.Failed bad = tt
    bad_of number P layouts.NoMemory bad = tt

    pub stopped_bad : length parts ≡ rows_of config.members → OnBadRow error (IsFirstBadRow config moment (map G.objects parts))
    stopped_bad many =
        subst (λ e. OnBadRow e (IsFirstBadRow config moment (map G.objects parts))) (sym stops.error_is)
        (bad_of (length stops.done) (IsFirstBadRow config moment (map G.objects parts)) stops.fault (first_bad many))

-- ---- a pool that is closed

-- what is seen of its parts
pub closed_parts : {S : Type 0} {G : Ghosts S} {X : Type 0} (f : S → X) (owned : List (DigestShard S G)) (parts : List S) → parts ≡ map (λ s. s.part) owned → map f parts ≡ map (λ s. f s.part) owned
closed_parts {S} {G} f owned parts is = ap (map f) is ∙ map-map f (λ (s : DigestShard S G). s.part) owned
