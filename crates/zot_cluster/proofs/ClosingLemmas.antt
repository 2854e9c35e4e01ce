-- What the parts of a cluster stand for when they are given back.
use Rattle.std.proofs.Common.{◌≡◌, ◌<◌, ◌≤◌, ℕ, List, length, map, get_or, Option, Some, None, IfSome, option_map, inl, inr, refl, sym, ap, subst, ◌∙◌, arith}
use Rattle.std.specs.Prelude.{◌⊎◌, unwrap_or}
use Rattle.std.specs.List.{All, slice_get}
use Rattle.std.specs.Option.{option_flatten}
use Rattle.std.proofs.lemmas.List.{get_or-map, length-map}
use Rattle.std.proofs.lemmas.Option.{slice_get-map, slice_get_cases}
use Rattle.zot_contents.specs.Pool.{Holders}
use Rattle.zot_layout.specs.Stands.{StandsForRow}
use Rattle.zot_layout.specs.Writing.{StandsWhereTold}
use Rattle.zot_model.specs.State.{RepoState, RowState, Stored, empty_row, repo_at}
use Rattle.zot_outside.specs.Objects.{Objects}
use Rattle.zot_outside.specs.declared.stores.store.Store.{Ghosts}
use Rattle.zot_pool.specs.Pools.{holds, part_at}
use Rattle.zot_repo.proofs.RowLemmas.{repo_is}
use Rattle.zot_repo.proofs.StandLemmas.{stands_held}
use Rattle.zot_repo.specs.RowGoing.{IsOwn, StandsForTables}
use Rattle.zot_repo.specs.Rows.{AgreesRow, table_at, under}
use Rattle.zot_repo.specs.declared.row_config.RowConfig.{RowConfig}
use Rattle.zot_repo.specs.declared.shard.RepoShard.{RepoShard}
use Rattle.zot_rows.specs.Agreed.{AllStand, AreAgreed, AreRows, IsRow}
use Rattle.zot_rows.specs.Listing.{rows_of}
use Rattle.zot_rows.specs.Rows.{faults_of_row, state_beside, states_beside}
use Rattle.zot_table.proofs.StandingLemmas.{get_blob}
use Rattle.zot_table.specs.Standing.{Agrees, FitsEntry, Holds, repo_of, stored_by}
use Rattle.zot_table.specs.Tables.{RepoTable, entry_at}
use Rattle.zot_table.specs.declared.blob_entry.BlobEntry.{BlobEntry}
use Rattle.zot_cluster.specs.Parts.{HasHeld, StandForRows}

-- ---- the blobs of a repository

-- the bytes of the blob that an entry stands for are those that are held, where these fit it
stored_bytes : (entry : Option BlobEntry) (found : Option (List ℕ)) → FitsEntry entry found → option_map (λ (blob : Stored). blob.bytes) (stored_by entry found) ≡ found
stored_bytes None found fits = sym fits
stored_bytes (Some entry) None fits = absurd fits
stored_bytes (Some entry) (Some bytes) fits = refl

has_held : (table : RepoTable) (holds : Holds) → Agrees table holds → HasHeld holds (repo_of table holds)
has_held table holds agrees digest is =
    ap (option_map (λ (blob : Stored). blob.bytes)) (get_blob table.slots holds digest) ∙ stored_bytes (entry_at table.slots digest) (holds digest) (agrees.fits digest)

-- ---- one row

module _ {S : Type 0} {G : Ghosts S} (config : RowConfig) (rows : List (RepoShard S G)) (numbered : AreRows config rows) where
  -- the row with this number
  record Found (number : ℕ) : Type 0 where
    pub row : RepoShard S G
    pub at : slice_get rows number ≡ Some row
    pub is : get_or rows number row ≡ row

  of_cases : (number : ℕ) → number < length rows → ((x : RepoShard S G) × (number < length rows) × (slice_get rows number ≡ Some x) × (get_or rows number x ≡ x)) ⊎ ((length rows ≤ number) × (slice_get rows number ≡ None)) → Found number
  of_cases number within (inl h) = record { row = h.0; at = h.2; is = h.3 }
  of_cases number within (inr h) = absurd (omega (arith, within, h.0))

  module _ (number : ℕ) (within : number < rows_of config.members) where
    within_rows : number < length rows
    within_rows = subst (λ n. number < n) (sym numbered.many) within

    found : Found number
    found = of_cases number within_rows (slice_get_cases rows number).1

    its_row : IsRow config number found.row
    its_row = subst (λ o. IfSome o (IsRow config number)) found.at (numbered.each number)

    -- its part is among the parts
    part_is : part_at (map G.objects (map (λ r. r.core.part) rows)) number ≡ G.objects found.row.core.part
    part_is =
        let part = λ (r : RepoShard S G). r.core.part in
        ap option_flatten (slice_get-map G.objects (map part rows) number ∙ ap (option_map G.objects) (slice_get-map part rows number ∙ ap (option_map part) found.at))

    -- its state is among the states
    state_is : (held : Holders) → states_beside held rows number ≡ state_beside held found.row
    state_is held = ap (λ o. unwrap_or (option_map (state_beside held) o) empty_row) found.at

    -- its names are those of its number
    by_number : (P : (List ℕ → Type 0) → Type 0) → P (IsOwn found.row.core.config found.row.core.row) → P (IsOwn config number)
    by_number P h = subst (λ (n : ℕ). P (IsOwn config n)) its_row.number_is (subst (λ (c : RowConfig). P (IsOwn c found.row.core.row)) its_row.config_is h)

    module _ (moment : ℕ) (opened : All (λ one. one ≡ moment) (map (λ r. r.core.opened) rows)) (stand : AllStand rows) (held : Holders) where
      opened_is : found.row.core.opened ≡ moment
      opened_is =
          let at = λ (r : RepoShard S G). r.core.opened in
          ap at (sym found.is) ∙ sym (get_or-map at rows number found.row 0 within_rows) ∙ opened number 0 (subst (λ n. number < n) (sym (length-map rows at)) within_rows)

      tables_stand : StandsForTables (G.objects found.row.core.part) found.row.core.opened (IsOwn found.row.core.config found.row.core.row) found.row.core.repos
      tables_stand = subst (λ (r : RepoShard S G). StandsForTables (G.objects r.core.part) r.core.opened (IsOwn r.core.config r.core.row) r.core.repos) found.is (stand number found.row within_rows)

      row_stands : IfSome (part_at (map G.objects (map (λ r. r.core.part) rows)) number) (λ told. StandsForRow told moment (IsOwn config number) (states_beside held rows number))
      row_stands =
          subst (λ o. IfSome o (λ told. StandsForRow told moment (IsOwn config number) (states_beside held rows number))) (sym part_is)
          (subst (λ (s : RowState). StandsWhereTold (G.objects found.row.core.part) moment (IsOwn config number) s) (sym (state_is held))
          (stands_held (G.objects found.row.core.part) moment (IsOwn config number) found.row.core.repos held (faults_of_row found.row)
          (by_number (λ Own. StandsForTables (G.objects found.row.core.part) moment Own found.row.core.repos)
          (subst (λ (m : ℕ). StandsForTables (G.objects found.row.core.part) m (IsOwn found.row.core.config found.row.core.row) found.row.core.repos) opened_is tables_stand))))

    -- the blobs of its repositories are what is held for them
    row_holds : (held : Holders) → AreAgreed config rows held → (name : List ℕ) → IsOwn config number name → HasHeld (under held name) (repo_at (states_beside held rows number) name)
    row_holds held agreed name own =
        let agrees = subst (λ o. IfSome o (λ r. AgreesRow (IsOwn config number) r.core.repos held)) found.at (agreed number) in
        subst (λ (s : RowState). HasHeld (under held name) (repo_at s name)) (sym (state_is held))
        (subst (λ (r : RepoState). HasHeld (under held name) r) (sym (repo_is found.row.core.repos held (faults_of_row found.row) name))
        (has_held (table_at found.row.core.repos name) (under held name) (agrees.agrees name own)))

  -- ---- all rows

  pub rows_stand : (moment : ℕ) → All (λ one. one ≡ moment) (map (λ r. r.core.opened) rows) → AllStand rows → (shards : List (Option Objects)) (told : Option Holders) → holds shards ≡ told → IfSome told (AreAgreed config rows)
      → IfSome (option_map (λ held. states_beside held rows) told) (StandForRows config moment (map G.objects (map (λ r. r.core.part) rows)) shards)
  rows_stand moment opened stand shards None is agreed = tt
  rows_stand moment opened stand shards (Some held) is agreed = record {
    repositories = λ number within. row_stands number within moment opened stand held;
    blobs = subst (λ o. IfSome o (λ holders. (number : ℕ) → number < rows_of config.members → (name : List ℕ) → IsOwn config number name → HasHeld (under holders name) (repo_at (states_beside held rows number) name))) (sym is)
        (λ number within name own. row_holds number within held agreed name own);
  }
