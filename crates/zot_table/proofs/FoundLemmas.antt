-- A table of a layout with what was found to be held for it stands for the layout's repository with these blobs.
use Rattle.std.proofs.Common.{◌≡◌, ◌≢◌, inl, inr, ℕ, true, List, length, map, Option, Some, None, IfSome, is_some, refl, sym, ap, subst, ◌∙◌}
use Rattle.std.specs.Prelude.{option_map}
use Rattle.std.specs.FinMap as finite
use Rattle.std.specs.FinMap.{get-empty}
use Rattle.zot_digest.specs.ByteMap.{ByteMap, byte_cmp, map_of}
use Rattle.zot_layout.proofs.BackLemmas.{map_twice}
use Rattle.zot_layout.specs.Stands.{AreAlike, opened_manifest, repo_of as layout_repo, without_pulls}
use Rattle.zot_layout.specs.State.{IsIndex}
use Rattle.zot_layout.specs.declared.index_manifest.IndexManifest.{IndexManifest}
use Rattle.zot_layout.specs.declared.index_state.IndexState.{IndexState}
use Rattle.zot_manifests.proofs.TableLemmas.{plain_empty}
use Rattle.zot_manifests.specs.Table.{Table, plain_manifest, plain_manifests}
use Rattle.zot_manifests.specs.declared.kept.Kept.{Kept}
use Rattle.zot_maps.proofs.Entries.{entries_of_map}
use Rattle.zot_maps.proofs.Maps.{byte_order, get_elsewhere, get_here}
use Rattle.zot_media.specs.Manifest.{empty_reading}
use Rattle.zot_model.specs.State.{StoredManifest, StoredTag}
use Rattle.zot_table.proofs.EntryLemmas.{at_each}
use Rattle.zot_table.proofs.OpeningLemmas.{found_kept, manifests_ascend, says_nothing}
use Rattle.zot_table.proofs.StandingLemmas.{get_blob}
use Rattle.zot_table.specs.Opening.{HasFound, IsOpenedWith, found_blob, found_entry, opened_by, opened_kept, with_found}
use Rattle.zot_table.specs.Standing.{Agrees, FitsEntry, Holds, IsReadOf, repo_of, stored_by}
use Rattle.zot_table.specs.Tables.{RepoTable, Slots, entry_at, filled}
use Rattle.zot_table.specs.declared.blob_entry.BlobEntry.{BlobEntry}

-- ---- one blob after another

-- none was found yet
pub found_none : (moment : ℕ) (old : RepoTable) → old.slots ≡ finite.empty → HasFound moment old (λ digest. None) old
found_none moment old none = record {
  known = refl;
  entries = λ digest. ap (λ (s : Slots). entry_at s digest) none ∙ ap filled (get-empty byte_cmp digest);
  table = refl;
  sessions = refl;
}

-- and one more
pub found_more : (moment : ℕ) (old new : RepoTable) (sizes after : List ℕ → Option ℕ) (digest : List ℕ) (size : ℕ) → after digest ≡ Some size → ((q : List ℕ) → q ≢ digest → after q ≡ sizes q)
    → HasFound moment old sizes new → HasFound moment old after (with_found moment new digest size)
found_more moment old new sizes after digest size here others has = record {
  known = has.known;
  entries = at_each (λ q. entry_at (finite.insert new.slots digest (Some (entry new.table))) q ≡ found_entry moment old.table.manifests q (after q)) digest
      (ap filled (get_here byte_order new.slots digest (Some (entry new.table))) ∙ ap (λ (t : Table). Some (entry t)) has.table ∙ ap (found_entry moment old.table.manifests digest) (sym here))
      (λ q apart. ap filled (get_elsewhere byte_order new.slots digest (Some (entry new.table)) q apart) ∙ has.entries q ∙ ap (found_entry moment old.table.manifests q) (sym (others q apart)));
  table = has.table;
  sessions = has.sessions;
} where
  entry : Table → BlobEntry
  entry table = record { size = size; arrived = moment; unread = finite.contains_key table.manifests digest }

-- ---- the table of a layout

opened_slots : (index : Option IndexState) → (opened_by index).slots ≡ finite.empty
opened_slots None = refl
opened_slots (Some index) = refl

pub found_first : (moment : ℕ) (index : Option IndexState) → HasFound moment (opened_by index) (λ digest. None) (opened_by index)
found_first moment index = found_none moment (opened_by index) (opened_slots index)

opened_known : (index : Option IndexState) → (opened_by index).known ≡ (layout_repo index).known
opened_known None = refl
opened_known (Some index) = refl

opened_tags : (index : Option IndexState) → (opened_by index).table.tags ≡ (layout_repo index).tags
opened_tags None = refl
opened_tags (Some index) = refl

opened_sessions : (index : Option IndexState) → (opened_by index).sessions ≡ (layout_repo index).sessions
opened_sessions None = refl
opened_sessions (Some index) = refl

abbrev plain_entry : List ℕ × Kept → List ℕ × StoredManifest
plain_entry e = (e.0, plain_manifest e.1)

opened_manifests : (index : Option IndexState) → IfSome index IsIndex → plain_manifests (opened_by index).table.manifests ≡ (layout_repo index).manifests
opened_manifests None is = plain_empty
opened_manifests (Some index) is =
    ap (λ (es : List (List ℕ × Kept)). map_of (map plain_entry es)) (entries_of_map byte_order (map opened_kept index.manifests) (manifests_ascend index is))
    ∙ ap map_of (map_twice opened_kept plain_entry opened_manifest (λ (m : IndexManifest). refl) index.manifests)

-- of no manifest it is known what it says
opened_says : (index : Option IndexState) → IfSome index IsIndex → (digest : List ℕ) (kept : Kept) → finite.get (opened_by index).table.manifests digest ≡ Some kept → kept.reading ≡ empty_reading
opened_says None is digest kept has = cc (sym has ∙ get-empty byte_cmp digest)
opened_says (Some index) is digest kept has = says_nothing digest kept index.manifests (found_kept index is digest (Some kept) has)

-- ---- a blob that was found

module _ (moment : ℕ) (manifests : ByteMap Kept) (digest : List ℕ) where
  fits_found : (found : Option (List ℕ)) → FitsEntry (found_entry moment manifests digest (option_map length found)) found
  fits_found None = refl
  fits_found (Some bytes) = refl

  stored_found : (found : Option (List ℕ)) → stored_by (found_entry moment manifests digest (option_map length found)) found ≡ found_blob moment found
  stored_found None = refl
  stored_found (Some bytes) = refl

  read_found : (kept : Kept) (found : Option (List ℕ)) → kept.reading ≡ empty_reading → finite.contains_key manifests digest ≡ true → IsReadOf kept (found_entry moment manifests digest (option_map length found)) found
  read_found kept None says there = inr says
  read_found kept (Some bytes) says there = inl there

-- ---- all of them

module _ (moment : ℕ) (index : Option IndexState) (is : IfSome index IsIndex) (sizes : List ℕ → Option ℕ) (table : RepoTable) (has : HasFound moment (opened_by index) sizes table) (holds : Holds) where
  manifests_are : plain_manifests table.table.manifests ≡ (layout_repo index).manifests
  manifests_are = ap (λ (t : Table). plain_manifests t.manifests) has.table ∙ opened_manifests index is

  tags_are : table.table.tags ≡ (layout_repo index).tags
  tags_are = ap (λ (t : Table). t.tags) has.table ∙ opened_tags index

  -- the layout stands for it, whatever is held
  pub alike_found : AreAlike (layout_repo index) (repo_of table holds)
  alike_found = record {
    known = has.known ∙ opened_known index;
    manifests = manifests_are;
    tags = λ tag. ap (λ (tags : ByteMap StoredTag). option_map without_pulls (finite.get tags tag)) tags_are;
  }

  module _ (fits : (digest : List ℕ) → option_map length (holds digest) ≡ sizes digest) where
    entry_is : (digest : List ℕ) → entry_at table.slots digest ≡ found_entry moment (opened_by index).table.manifests digest (option_map length (holds digest))
    entry_is digest = has.entries digest ∙ ap (found_entry moment (opened_by index).table.manifests digest) (sym (fits digest))

    -- what is held fits the table
    pub agrees_found : Agrees table holds
    agrees_found = record {
      fits = λ digest. subst (λ entry. FitsEntry entry (holds digest)) (sym (entry_is digest)) (fits_found moment (opened_by index).table.manifests digest (holds digest));
      read = λ digest kept found.
          let here : finite.get (opened_by index).table.manifests digest ≡ Some kept = ap (λ (t : Table). finite.get t.manifests digest) (sym has.table) ∙ found in
          subst (λ entry. IsReadOf kept entry (holds digest)) (sym (entry_is digest))
          (read_found moment (opened_by index).table.manifests digest kept (holds digest) (opened_says index is digest kept here) (ap is_some here));
    }

    -- the table stands for the layout's repository with it
    pub opened_found : IsOpenedWith moment (layout_repo index) holds (repo_of table holds)
    opened_found = record {
      known = has.known ∙ opened_known index;
      blobs = λ digest. get_blob table.slots holds digest ∙ ap (λ entry. stored_by entry (holds digest)) (entry_is digest) ∙ stored_found moment (opened_by index).table.manifests digest (holds digest);
      manifests = manifests_are;
      tags = tags_are;
      sessions = has.sessions ∙ opened_sessions index;
    }
