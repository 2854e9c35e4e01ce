-- Rows in memory: stores that have no object, and none of which fails.
use Rattle.std.proofs.Common.{◌≡◌, ◌<◌, arith, inl, inr, ℕ, zero, suc, Bool, true, false, ◌&&◌, List, [], ◌∷◌, length, map, Option, Some, None, Ok, Err, IfSome, IsSomeAnd, option_map, refl, sym, ap, ◌∙◌, subst}
use Rattle.std.specs.Prelude.{IsSome, sum, is_some, unwrap_or, slice_index, if◌then◌else◌}
use Rattle.std.specs.FinMap as finite
use Rattle.std.specs.FinMap.{get-empty}
use Rattle.std.specs.List.{All, list_all, slice_get, sum_by}
use Rattle.std.proofs.lemmas.List.Sums.{sum-map, sum_by-cons}
use Rattle.std.proofs.lemmas.Option.{slice_get_within}
use Rattle.zot_cluster.proofs.EntryLemmas.{recorded}
use Rattle.zot_cluster.specs.Entries.{Records}
use Rattle.zot_contents.specs.Opening.{IsFirstBad}
use Rattle.zot_contents.specs.Pool.{Holders}
use Rattle.zot_contents.specs.Shards.{IsTightTree, shard_of, shards}
use Rattle.zot_repo.proofs.RowLemmas.{repo_is}
use Rattle.zot_repo.specs.Opening.{IsOpenedRepo, IsOpenedRow}
use Rattle.zot_repo.specs.RowGoing.{IsOwn}
use Rattle.zot_repo.specs.Rows.{AgreesRow, Tables, is_digest, state_of, under}
use Rattle.zot_repo.specs.declared.row_config.RowConfig.{RowConfig}
use Rattle.zot_repo.specs.declared.shard.RepoShard.{RepoShard}
use Rattle.zot_digest.specs.ByteMap.{byte_cmp}
use Rattle.zot_layout.specs.Paths.{index_path, marker_path}
use Rattle.zot_layout.specs.Rows.{AreMarked, OpensRow, layout_by, layout_of, opened}
use Rattle.zot_layout.specs.Stands.{repo_of as layout_repo}
use Rattle.zot_layout.specs.declared.layout_error.LayoutError.{LayoutError}
use Rattle.zot_layout.specs.declared.layout_error.LayoutError.TheVariants as layouts
use Rattle.zot_links.specs.Meaning.{held, held_by, line_at, object_at, object_path, origin_of}
use Rattle.zot_maps.proofs.Maps.{byte_order, same_map}
use Rattle.zot_model.proofs.HistoryLemmas.{same_itself}
use Rattle.zot_model.specs.State.{AreSame, RepoState, empty_row, fresh, repo_at}
use Rattle.zot_outside.specs.Faults.{Rose}
use Rattle.zot_outside.specs.Objects.{Objects, path_cmp}
use Rattle.zot_outside.specs.declared.stores.store.Store.{Ghosts}
use Rattle.zot_pool.specs.Opening.{AreTightTrees, IsFirstBadPart}
use Rattle.zot_pool.specs.Pools.{held_in, held_of, holds, objects_of, part_at}
use Rattle.zot_rows.proofs.HistoryLemmas.{each_append}
use Rattle.zot_rows.specs.Agreed.{AreAgreed, AreRows}
use Rattle.zot_rows.specs.Histories.{BothTell, EachRuns, RowStates, empty_rows}
use Rattle.zot_rows.specs.Listing.{rows_of}
use Rattle.zot_rows.specs.Opening.{AreOpenedRows, HasRowsCause, IsFirstBadRow, RefusesObject}
use Rattle.zot_rows.specs.Rows.{AreAgreedIn, HaveCause, failed_in, faults_of_row, pool_faults, state_beside, states_beside, states_of}
use Rattle.zot_rows.specs.declared.rows.Rows.{Rows}
use Rattle.zot_rows.specs.declared.rows_open_error.RowsOpenError.{RowsOpenError}
use Rattle.zot_rows.specs.declared.rows_open_error.RowsOpenError.TheVariants as errors
use Rattle.zot_session.specs.Exchanges.{Exchange}
use Rattle.zot_table.proofs.StandingLemmas.{fresh_is}
use Rattle.zot_table.specs.Opening.{IsOpenedWith, found_blob}
use Rattle.zot_table.specs.Standing.{Holds, repo_of}
use Rattle.zot_table.specs.Tables.{RepoTable, fresh_table}

-- ---- no object

-- nothing is held
held_none : (digest name : List ℕ) → held finite.empty digest name ≡ None
unfolding held object_at
held_none digest name = ap (λ o. held_by (object_at finite.empty digest) o (origin_of (line_at finite.empty digest name))) (get-empty path_cmp (object_path digest name))

bare_held : (found : Option Objects) (digest name : List ℕ) → IfSome found (λ told. told ≡ finite.empty) → held_of found digest name ≡ None
bare_held None digest name is = refl
bare_held (Some told) digest name is = ap (λ (t : Objects). held t digest name) is ∙ held_none digest name

-- no two whole objects have equal bytes
tight_none : (number : ℕ) → IsTightTree finite.empty number
unfolding object_at
tight_none number digest name other bytes of one two some = cc (sym (get-empty path_cmp (object_path digest name)) ∙ one.has)

-- no repository is known
layout_none : (name : List ℕ) (moment : ℕ) → layout_of finite.empty name moment ≡ Ok None
layout_none name moment = ap (λ (marker : Option (List ℕ)). layout_by name moment marker (finite.get {R = path_cmp} finite.empty (index_path name))) (get-empty path_cmp (marker_path name))

-- none is refused
none_bad : (Own : List ℕ → Type 0) (moment : ℕ) (fault : LayoutError) (names : List (List ℕ)) → AreMarked finite.empty Own names → opened finite.empty moment names ≡ Err fault → ⊥
none_bad Own moment fault [] marked is = cc is
none_bad Own moment fault (name ∷ names) marked is = cc (subst (λ o. IsSome o) (get-empty path_cmp (marker_path name)) marked.marked.0)

-- ---- a row of no object

same_fresh : (repo : RepoState) → repo.known ≡ false → repo.blobs ≡ finite.empty → repo.manifests ≡ finite.empty → repo.tags ≡ finite.empty → repo.sessions ≡ fresh.sessions → repo ≡ fresh
same_fresh repo unknown blobs manifests tags sessions =
    ap (λ k. record { known = k; blobs = repo.blobs; manifests = repo.manifests; tags = repo.tags; sessions = repo.sessions }) unknown
    ∙ ap (λ b. record { known = false; blobs = b; manifests = repo.manifests; tags = repo.tags; sessions = repo.sessions }) blobs
    ∙ ap (λ m. record { known = false; blobs = finite.empty; manifests = m; tags = repo.tags; sessions = repo.sessions }) manifests
    ∙ ap (λ t. record { known = false; blobs = finite.empty; manifests = finite.empty; tags = t; sessions = repo.sessions }) tags
    ∙ ap (λ s. record { known = false; blobs = finite.empty; manifests = finite.empty; tags = finite.empty; sessions = s }) sessions

opened_fresh : (moment : ℕ) (name : List ℕ) (holds : Holds) (repo : RepoState) → ((digest : List ℕ) → holds digest ≡ None) → IsOpenedRepo finite.empty moment name holds repo → repo ≡ fresh
opened_fresh moment name holds repo none made =
    let found_is : made.found ≡ None = cc (sym (layout_none name moment) ∙ made.says) in
    let is = subst (λ found. IsOpenedWith moment (layout_repo found) holds repo) found_is made.is in
    same_fresh repo is.known (same_map byte_order repo.blobs finite.empty (λ digest. is.blobs digest ∙ ap (found_blob moment) (none digest) ∙ sym (get-empty byte_cmp digest))) is.manifests is.tags is.sessions

either_none : {X : Type 0} (b : Bool) (found : Option X) → found ≡ None → (if b then found else None) ≡ None
either_none true found h = h
either_none false found h = refl

module _ (config : RowConfig) (number moment : ℕ) (tables : Tables) (held : Holders) (faults : ℕ) (agrees : AgreesRow (IsOwn config number) tables held) (nothing : (digest name : List ℕ) → held digest name ≡ None)
    (made : IsOpenedRow finite.empty moment (IsOwn config number) held (state_of tables held faults)) where
  under_none : (name digest : List ℕ) → under held name digest ≡ None
  under_none name digest = either_none (is_digest digest) (held digest name) (nothing digest name)

  repo_none : (name : List ℕ) (found : Option RepoTable) → finite.get tables name ≡ found → repo_at (state_of tables held faults) name ≡ fresh
  repo_none name None is = repo_is tables held faults name ∙ ap (λ o. repo_of (unwrap_or o fresh_table) (under held name)) is ∙ fresh_is (under held name)
  repo_none name (Some table) is = opened_fresh moment name (under held name) (repo_at (state_of tables held faults) name) (under_none name) (made name (agrees.own name (subst (λ o. IsSome o) (sym is) refl)))

  row_none : faults ≡ 0 → AreSame empty_row (state_of tables held faults)
  row_none none = record { repos = λ name. repo_none name (finite.get tables name) refl ∙ sym (ap (λ o. unwrap_or o fresh) (get-empty byte_cmp name)); faults = none }

-- ---- stores without objects

module _ {S : Type 0} (objects : S → Option Objects) where
  -- each of them tells that it has none
  abbrev pub AreBare : List S → Type 0
  AreBare stores = All (λ s. objects s ≡ Some finite.empty) stores

  bare_later : (s : S) (stores : List S) → AreBare (s ∷ stores) → AreBare stores
  bare_later s stores bare = λ k d within. bare (suc k) d (omega (arith, within))

  part_bare : (stores : List S) → AreBare stores → (number : ℕ) → number < length stores → part_at (map objects stores) number ≡ Some finite.empty
  part_bare [] bare number within = absurd (omega (arith, within))
  part_bare (s ∷ stores) bare zero within = bare 0 s (omega arith)
  part_bare (s ∷ stores) bare (suc number) within = part_bare stores (bare_later s stores bare) number (omega (arith, within))

  part_any : (stores : List S) → AreBare stores → (number : ℕ) → IfSome (part_at (map objects stores) number) (λ told. told ≡ finite.empty)
  part_any [] bare number = tt
  part_any (s ∷ stores) bare zero = subst (λ o. IfSome o (λ told. told ≡ finite.empty)) (sym (bare 0 s (omega arith))) refl
  part_any (s ∷ stores) bare (suc number) = part_any stores (bare_later s stores bare) number

  nothing_held : (stores : List S) → AreBare stores → (digest name : List ℕ) → held_in (map objects stores) digest name ≡ None
  nothing_held stores bare digest name = bare_held (part_at (map objects stores) (shard_of digest)) digest name (part_any stores bare (shard_of digest))

  all_tell : (stores : List S) → AreBare stores → list_all is_some (map objects stores) ≡ true
  all_tell [] bare = refl
  all_tell (s ∷ stores) bare = ap (λ o. is_some o && list_all is_some (map objects stores)) (bare 0 s (omega arith)) ∙ all_tell stores (bare_later s stores bare)

  holds_told : (stores : List S) → AreBare stores → holds (map objects stores) ≡ Some (held_in (map objects stores))
  holds_told stores bare = ap (λ b. if b then Some (held_in (map objects stores)) else None) (all_tell stores bare)

  pub bare_tight : (stores : List S) → AreBare stores → length stores ≡ shards → AreTightTrees (map objects stores)
  bare_tight stores bare many = λ number within.
      subst (λ o. IfSome o (λ told. IsTightTree told number)) (sym (part_bare stores bare number (subst (λ n. number < n) (sym many) within))) (tight_none number)

  -- ---- why rows over them aren't opened

  no_bad_part : (stores : List S) → AreBare stores → length stores ≡ shards → (path text : List ℕ) → IsFirstBadPart (map objects stores) path text → ⊥
  no_bad_part stores bare many path text bad =
      let here : IsFirstBad finite.empty bad.number path text =
      subst (λ o. IfSome o (λ told. IsFirstBad told bad.number path text)) (part_bare stores bare bad.number (subst (λ n. bad.number < n) (sym many) bad.within)) bad.here in
      cc (sym (get-empty path_cmp path) ∙ here.there)

  -- what the row that is refused holds
  bad_row : (config : RowConfig) (moment : ℕ) (stores : List S) (fault : LayoutError) → AreBare stores → length stores ≡ rows_of config.members → (bad : IsFirstBadRow config moment (map objects stores) fault)
      → OpensRow finite.empty (IsOwn config bad.number) moment (Err fault)
  bad_row config moment stores fault bare many bad =
      subst (λ o. IfSome o (λ told. OpensRow told (IsOwn config bad.number) moment (Err fault))) (part_bare stores bare bad.number (subst (λ n. bad.number < n) (sym many) bad.within)) bad.here

  no_bad_index : (config : RowConfig) (moment : ℕ) (stores : List S) (path text : List ℕ) → AreBare stores → length stores ≡ rows_of config.members → IsFirstBadRow config moment (map objects stores) (layouts.BadIndex path text) → ⊥
  no_bad_index config moment stores path text bare many bad =
      let row = bad_row config moment stores (layouts.BadIndex path text) bare many bad in
      none_bad (IsOwn config bad.number) moment (layouts.BadIndex path text) row.0 row.1 row.2

  no_bad_meta : (config : RowConfig) (moment : ℕ) (stores : List S) (path text : List ℕ) → AreBare stores → length stores ≡ rows_of config.members → IsFirstBadRow config moment (map objects stores) (layouts.BadMeta path text) → ⊥
  no_bad_meta config moment stores path text bare many bad =
      let row = bad_row config moment stores (layouts.BadMeta path text) bare many bad in
      none_bad (IsOwn config bad.number) moment (layouts.BadMeta path text) row.0 row.1 row.2

-- ---- stores that don't fail

no_rise : (before after : ℕ) → before ≡ 0 → after ≡ 0 → Rose before after → ⊥
no_rise before after one two rose = omega (arith, one, two, rose)

module _ {S : Type 0} (faults : S → ℕ) (steady : (s : S) → faults s ≡ 0) where
  count_at : (stores : List S) (number : ℕ) → slice_index (map faults stores) number ≡ 0
  count_at [] number = refl
  count_at (s ∷ stores) zero = steady s
  count_at (s ∷ stores) (suc number) = count_at stores number

  pub no_faults : (stores : List S) → sum (map faults stores) ≡ 0
  no_faults stores = sum-map faults stores ∙ by stores where
    by : (l : List S) → sum_by faults l ≡ 0
    by [] = refl
    by (s ∷ l) = omega (arith, sum_by-cons faults s l, steady s, by l)

  -- rows over such stores without objects are refused for want of memory alone
  pub only_memory : (objects : S → Option Objects) (config : RowConfig) (moment : ℕ) (parts left owned behind : List S) (error : RowsOpenError) → AreBare objects parts → AreBare objects owned → length parts ≡ rows_of config.members
      → length owned ≡ shards → HasRowsCause config.members (map faults parts) (map faults left) (map faults owned) (map faults behind) error → RefusesObject config moment (map objects parts) (map objects owned) error → error ≡ errors.NoMemory
  only_memory objects config moment parts left owned behind errors.NoMemory bare none many all cause bad = refl
  only_memory objects config moment parts left owned behind (errors.RowFault number) bare none many all cause bad = absurd (no_rise _ _ (count_at parts number) (count_at left number) cause.rows.here)
  only_memory objects config moment parts left owned behind (errors.ShardFault number) bare none many all cause bad = absurd (no_rise _ _ (count_at owned number) (count_at behind number) cause.shards.here)
  only_memory objects config moment parts left owned behind (errors.BadIndex path text) bare none many all cause bad = absurd (no_bad_index objects config moment parts path text bare many bad.1)
  only_memory objects config moment parts left owned behind (errors.BadMeta path text) bare none many all cause (inl bad) = absurd (no_bad_part objects owned none all path text bad)
  only_memory objects config moment parts left owned behind (errors.BadMeta path text) bare none many all cause (inr bad) = absurd (no_bad_meta objects config moment parts path text bare many bad.1)

-- ---- the rows over them

module _ {S : Type 0} {G : Ghosts S} where
  failed_at : (rows : List (RepoShard S G)) → All (λ count. count ≡ 0) (map (λ r. r.failed) rows) → (number : ℕ) (row : RepoShard S G) → slice_get rows number ≡ Some row → row.failed ≡ 0
  failed_at [] none number row is = cc is
  failed_at (r ∷ rows) none zero row is =
      let same : r ≡ row = cc is in
      subst (λ (x : RepoShard S G). x.failed ≡ 0) same (none 0 0 (omega arith))
  failed_at (r ∷ rows) none (suc number) row is = failed_at rows (λ k d within. none (suc k) d (omega (arith, within))) number row is

  module _ (steady : (s : S) → G.faults s ≡ 0) where
    faults_none : (rows : List (RepoShard S G)) → All (λ count. count ≡ 0) (map (λ r. r.failed) rows) → (number : ℕ) (row : RepoShard S G) → slice_get rows number ≡ Some row → faults_of_row row ≡ 0
    faults_none rows none number row is = omega (arith, steady row.core.part, failed_at rows none number row is)

    -- no row has a storage fault
    pub states_steady : (rows : Rows S G) → All (λ count. count ≡ 0) (failed_in rows) → (number : ℕ) → (unwrap_or (states_of rows) empty_rows number).faults ≡ 0
    states_steady rows none number = by (holds (objects_of rows.pool.shards.items)) where
      at_row : (held : Holders) (found : Option (RepoShard S G)) → slice_get rows.rows.items number ≡ found → (unwrap_or (option_map (state_beside held) found) empty_row).faults ≡ 0
      at_row held None is = refl
      at_row held (Some row) is = faults_none rows.rows.items none number row is

      by : (told : Option Holders) → (unwrap_or (option_map (λ held. states_beside held rows.rows.items) told) empty_rows number).faults ≡ 0
      by None = refl
      by (Some held) = at_row held (slice_get rows.rows.items number) refl

    pub pool_steady : (rows : Rows S G) → pool_faults rows ≡ 0
    pool_steady rows = no_faults (λ s. G.faults s.part) (λ s. steady s.part) rows.pool.shards.items

    -- rows that had none have none afterwards
    pub still_none : (old new : Rows S G) → HaveCause (pool_faults old) (pool_faults new) (failed_in old) (failed_in new) → All (λ count. count ≡ 0) (failed_in old) → All (λ count. count ≡ 0) (failed_in new)
    still_none old new cause none =
        subst (All (λ count. count ≡ 0)) (sym (cause.quiet (no_rise (pool_faults old) (pool_faults new) (pool_steady old) (pool_steady new)))) none

    -- rows over stores without objects have no repository
    module _ (config : RowConfig) (moment : ℕ) (parts : List S) (bare : AreBare G.objects parts) (many : length parts ≡ rows_of config.members) where
      rows_none : (rows : List (RepoShard S G)) (held : Holders) → AreRows config rows → All (λ count. count ≡ 0) (map (λ r. r.failed) rows) → AreAgreed config rows held → ((digest name : List ℕ) → held digest name ≡ None)
          → AreOpenedRows config moment (map G.objects parts) held (states_beside held rows) → EachRuns empty_rows [] (states_beside held rows)
      rows_none rows held numbered none agreed nothing made number = by (slice_get rows number) refl where
        by : (found : Option (RepoShard S G)) → slice_get rows number ≡ found → AreSame empty_row (unwrap_or (option_map (state_beside held) found) empty_row)
        by None is = same_itself empty_row
        by (Some row) is =
            let within = subst (λ n. number < n) numbered.many (slice_get_within rows number row is) in
            let told = subst (λ o. IfSome o (λ told. IsOpenedRow told moment (IsOwn config number) held (states_beside held rows number))) (part_bare G.objects parts bare number (subst (λ n. number < n) (sym many) within)) (made number within) in
            row_none config number moment row.core.repos held (faults_of_row row) (subst (λ o. IfSome o (λ r. AgreesRow (IsOwn config number) r.core.repos held)) is (agreed number)) nothing
            (subst (λ o. IsOpenedRow finite.empty moment (IsOwn config number) held (unwrap_or (option_map (state_beside held) o) empty_row)) is told)
            (faults_none rows none number row is)

      pub states_none : (rows : Rows S G) (owned : List S) → rows.config ≡ config → AreBare G.objects owned → objects_of rows.pool.shards.items ≡ map G.objects owned → All (λ count. count ≡ 0) (failed_in rows) → AreAgreedIn rows
          → IfSome (holds (map G.objects owned)) (λ held. AreOpenedRows config moment (map G.objects parts) held (states_beside held rows.rows.items)) → IsSomeAnd (states_of rows) (EachRuns empty_rows [])
      states_none rows owned config_is none pooled failed agreed made =
          let told : holds (objects_of rows.pool.shards.items) ≡ Some (held_in (map G.objects owned)) = ap holds pooled ∙ holds_told G.objects owned none in
          subst (λ o. IsSomeAnd (option_map (λ held. states_beside held rows.rows.items) o) (EachRuns empty_rows [])) (sym told)
          (rows_none rows.rows.items (held_in (map G.objects owned)) (subst (λ c. AreRows c rows.rows.items) config_is rows.numbered) failed
          (subst (λ c. AreAgreed c rows.rows.items (held_in (map G.objects owned))) config_is (subst (λ o. IfSome o (AreAgreed rows.config rows.rows.items)) told agreed))
          (nothing_held G.objects owned none)
          (subst (λ o. IfSome o (λ held. AreOpenedRows config moment (map G.objects parts) held (states_beside held rows.rows.items))) (holds_told G.objects owned none) made))

-- ---- a connection over them

-- entries from rows that have no repository are entries from the empty rows
from_empty : (config : RowConfig) (member : ℕ) (told : Option ℕ) (old new : RowStates) (exchanges : List Exchange) → EachRuns empty_rows [] old → Records config member told old exchanges new → Records config member told empty_rows exchanges new
from_empty config member told old new exchanges empty ran = recorded config member told empty_rows new exchanges ran.made ran.own (each_append empty_rows old new [] ran.made empty ran.run)

pub in_memory : (config : RowConfig) (member : ℕ) (told : Option ℕ) (old new : Option RowStates) (exchanges : List Exchange) → IsSomeAnd old (EachRuns empty_rows [])
    → BothTell old new (λ before after. Records config member told before exchanges after) → Records config member told empty_rows exchanges (unwrap_or new empty_rows)
in_memory config member told None new exchanges empty ran = absurd empty
in_memory config member told (Some old) None exchanges empty ran = absurd ran
in_memory config member told (Some old) (Some new) exchanges empty ran = from_empty config member told old new exchanges empty ran
