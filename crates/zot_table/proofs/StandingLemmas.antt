-- Each change of a repository's table, and of what is held for it, is a change of the plain repository.
use Rattle.std.proofs.Common.{◌≡◌, ◌≢◌, inl, inr, ℕ, Bool, true, false, List, length, Option, Some, None, is_some, unwrap_or, refl, sym, ap, subst, ◌∙◌}
use Rattle.std.specs.Prelude.{IsSomeAnd, option_and_then, option_map}
use Rattle.std.specs.FinMap as finite
use Rattle.std.specs.FinMap.{get-empty}
use Rattle.zot_digest.specs.ByteMap.{ByteMap, byte_cmp}
use Rattle.zot_manifests.proofs.TableLemmas.{get_plain, plain_empty, plain_insert}
use Rattle.zot_manifests.specs.Table.{Table, plain_manifest, plain_manifests}
use Rattle.zot_manifests.specs.declared.kept.Kept.{Kept}
use Rattle.zot_maps.proofs.Maps.{byte_order, get_elsewhere, get_here, insert-same, removed_elsewhere, removed_here, same_by_key, same_map}
use Rattle.zot_media.specs.Manifest.{stored_reading}
use Rattle.zot_model.specs.Manifests.{reading_by}
use Rattle.zot_model.specs.Outcomes.{with_blob}
use Rattle.zot_model.specs.PlainBlobs.{without_blob}
use Rattle.zot_model.specs.PlainUploads.{with_sessions}
use Rattle.zot_model.specs.State.{RepoState, Stored, StoredManifest, fresh, made_known}
use Rattle.zot_model.specs.Uploads.{UploadTable}
use Rattle.zot_table.proofs.EntryLemmas.{at_each, get_counterpart}
use Rattle.zot_table.specs.Changes.{known_as, learned, read_by, reserved, reserved_by, settled, settled_by, with_entry, with_slots, with_uploads, without_entry}
use Rattle.zot_table.specs.Repository.{plain_of, read_again, rereads, rereads_found, size_of}
use Rattle.zot_table.specs.Standing.{Agrees, AreEqual, FitsEntry, Holds, IsReadOf, Sets, as_stored, blobs_of, repo_of, stored_by}
use Rattle.zot_table.specs.Tables.{RepoTable, Slots, entry_at, filled, fresh_table, size_at}
use Rattle.zot_table.specs.declared.blob_entry.BlobEntry.{BlobEntry}

-- ---- the blobs that slots stand for

counterpart_is : (found : Option (Option BlobEntry)) (bytes : Option (List ℕ)) → option_and_then (λ slot. stored_by slot bytes) found ≡ stored_by (filled found) bytes
counterpart_is None bytes = refl
counterpart_is (Some slot) bytes = refl

-- the blob of a digest is that of the entry and of the bytes there
pub get_blob : (slots : Slots) (holds : Holds) (digest : List ℕ) → finite.get (blobs_of slots holds) digest ≡ stored_by (entry_at slots digest) (holds digest)
get_blob slots holds digest = get_counterpart (λ key slot. stored_by slot (holds key)) slots digest ∙ counterpart_is (finite.get slots digest) (holds digest)

-- the same blobs, where each entry with its bytes stands for the same
same_blobs : (slots new : Slots) (holds after : Holds) → ((digest : List ℕ) → stored_by (entry_at new digest) (after digest) ≡ stored_by (entry_at slots digest) (holds digest)) → blobs_of new after ≡ blobs_of slots holds
same_blobs slots new holds after same = same_map byte_order (blobs_of new after) (blobs_of slots holds) (λ digest. get_blob new after digest ∙ same digest ∙ sym (get_blob slots holds digest))

-- the repository with these blobs
abbrev pub with_blobs : RepoTable → ByteMap Stored → RepoState
with_blobs table blobs = record { known = table.known; blobs = blobs; manifests = plain_manifests table.table.manifests; tags = table.table.tags; sessions = table.sessions }

-- ---- a fresh table

pub fresh_is : (holds : Holds) → repo_of fresh_table holds ≡ fresh
fresh_is holds =
    ap (λ blobs. record { known = false; blobs = blobs; manifests = plain_manifests finite.empty; tags = finite.empty; sessions = fresh_table.sessions })
    (same_map byte_order (blobs_of finite.empty holds) finite.empty (λ digest. get_blob finite.empty holds digest ∙ ap (λ o. stored_by (filled o) (holds digest)) (get-empty byte_cmp digest) ∙ sym (get-empty byte_cmp digest)))
    ∙ ap (λ manifests. record { known = false; blobs = finite.empty; manifests = manifests; tags = finite.empty; sessions = fresh_table.sessions }) plain_empty

pub fresh_agrees : (holds : Holds) → ((digest : List ℕ) → holds digest ≡ None) → Agrees fresh_table holds
fresh_agrees holds none = record {
  fits = λ digest. subst (λ o. FitsEntry (filled o) (holds digest)) (sym (get-empty byte_cmp digest)) (none digest);
  read = λ digest kept has. cc (sym has ∙ get-empty byte_cmp digest);
}

-- ---- the same is held

module _ (table : RepoTable) (holds after : Holds) (same : AreEqual holds after) where
  pub same_agrees : Agrees table holds → Agrees table after
  same_agrees agrees = record {
    fits = λ digest. subst (λ found. FitsEntry (entry_at table.slots digest) found) (sym (same digest)) (agrees.fits digest);
    read = λ digest kept has. subst (λ found. IsReadOf kept (entry_at table.slots digest) found) (sym (same digest)) (agrees.read digest kept has);
  }

  pub same_is : repo_of table after ≡ repo_of table holds
  same_is = ap (with_blobs table) (same_blobs table.slots table.slots holds after (λ digest. ap (stored_by (entry_at table.slots digest)) (same digest)))

-- ---- room

-- slots with the same entries
module _ (table : RepoTable) (holds : Holds) (slots : Slots) (same : (digest : List ℕ) → entry_at slots digest ≡ entry_at table.slots digest) where
  slots_agree : Agrees table holds → Agrees (with_slots table slots) holds
  slots_agree agrees = record {
    fits = λ digest. subst (λ entry. FitsEntry entry (holds digest)) (sym (same digest)) (agrees.fits digest);
    read = λ digest kept has. subst (λ entry. IsReadOf kept entry (holds digest)) (sym (same digest)) (agrees.read digest kept has);
  }

  slots_are : repo_of (with_slots table slots) holds ≡ repo_of table holds
  slots_are = ap (with_blobs table) (same_blobs table.slots slots holds holds (λ digest. ap (λ entry. stored_by entry (holds digest)) (same digest)))

reserved_entry : (slots : Slots) (digest : List ℕ) (found : Option (Option BlobEntry)) → finite.get slots digest ≡ found → (q : List ℕ) → entry_at (reserved_by slots digest found) q ≡ entry_at slots q
reserved_entry slots digest None is =
    at_each (λ q. entry_at (finite.insert slots digest None) q ≡ entry_at slots q) digest
    (ap filled (get_here byte_order slots digest None) ∙ ap filled (sym is))
    (λ q apart. ap filled (get_elsewhere byte_order slots digest None q apart))
reserved_entry slots digest (Some slot) is = λ q. refl

settled_entry : (slots : Slots) (digest : List ℕ) (found : Option (Option BlobEntry)) → finite.get slots digest ≡ found → (q : List ℕ) → entry_at (settled_by slots digest found) q ≡ entry_at slots q
settled_entry slots digest None is = λ q. refl
settled_entry slots digest (Some None) is =
    at_each (λ q. entry_at (finite.remove slots digest) q ≡ entry_at slots q) digest
    (ap filled (removed_here byte_order slots digest) ∙ ap filled (sym is))
    (λ q apart. ap filled (removed_elsewhere byte_order slots digest q apart))
settled_entry slots digest (Some (Some entry)) is = λ q. refl

module _ (table : RepoTable) (holds : Holds) (digest : List ℕ) where
  pub reserve_agrees : Agrees table holds → Agrees (reserved table digest) holds
  reserve_agrees = slots_agree table holds (reserved table digest).slots (reserved_entry table.slots digest (finite.get table.slots digest) refl)

  pub reserve_is : repo_of (reserved table digest) holds ≡ repo_of table holds
  reserve_is = slots_are table holds (reserved table digest).slots (reserved_entry table.slots digest (finite.get table.slots digest) refl)

  pub settle_agrees : Agrees table holds → Agrees (settled table digest) holds
  settle_agrees = slots_agree table holds (settled table digest).slots (settled_entry table.slots digest (finite.get table.slots digest) refl)

  pub settle_is : repo_of (settled table digest) holds ≡ repo_of table holds
  settle_is = slots_are table holds (settled table digest).slots (settled_entry table.slots digest (finite.get table.slots digest) refl)

-- there is room where it was made
has_room : (slots : Slots) (digest : List ℕ) (found : Option (Option BlobEntry)) → finite.get slots digest ≡ found → is_some (finite.get (reserved_by slots digest found) digest) ≡ true
has_room slots digest None is = ap is_some (get_here byte_order slots digest None)
has_room slots digest (Some slot) is = ap is_some is

pub reserve_has_room : (table : RepoTable) (digest : List ℕ) → is_some (finite.get (reserved table digest).slots digest) ≡ true
reserve_has_room table digest = has_room table.slots digest (finite.get table.slots digest) refl

-- ---- a blob arrives

module _ (moment : ℕ) (table : RepoTable) (holds after : Holds) (digest bytes : List ℕ) (size : ℕ) where
  abbrev arriving : BlobEntry
  arriving = record { size = size; arrived = moment; unread = finite.contains_key table.table.manifests digest }

  abbrev more : Slots
  more = finite.insert table.slots digest (Some arriving)

  more_here : entry_at more digest ≡ Some arriving
  more_here = ap filled (get_here byte_order table.slots digest (Some arriving))

  more_elsewhere : (q : List ℕ) → q ≢ digest → entry_at more q ≡ entry_at table.slots q
  more_elsewhere q apart = ap filled (get_elsewhere byte_order table.slots digest (Some arriving) q apart)

  pub fill_agrees : Agrees table holds → Sets holds digest (Some bytes) after → length bytes ≡ size → Agrees (with_entry moment table digest size) after
  fill_agrees agrees sets long = record {
    fits = at_each (λ q. FitsEntry (entry_at more q) (after q)) digest
        (subst (λ entry. FitsEntry entry (after digest)) (sym more_here) (subst (λ found. FitsEntry (Some arriving) found) (sym sets.here) long))
        (λ q apart. subst (λ entry. FitsEntry entry (after q)) (sym (more_elsewhere q apart)) (subst (λ found. FitsEntry (entry_at table.slots q) found) (sym (sets.others q apart)) (agrees.fits q)));
    read = at_each (λ q. (kept : Kept) → finite.get table.table.manifests q ≡ Some kept → IsReadOf kept (entry_at more q) (after q)) digest
        (λ kept has. subst (λ entry. IsReadOf kept entry (after digest)) (sym more_here) (inl (ap is_some has)))
        (λ q apart kept has. subst (λ entry. IsReadOf kept entry (after q)) (sym (more_elsewhere q apart)) (subst (λ found. IsReadOf kept (entry_at table.slots q) found) (sym (sets.others q apart)) (agrees.read q kept has)));
  }

  more_blobs : Sets holds digest (Some bytes) after → blobs_of more after ≡ finite.insert (blobs_of table.slots holds) digest (record { bytes = bytes; arrived = moment })
  more_blobs sets = same_by_key byte_order (blobs_of more after) (finite.insert (blobs_of table.slots holds) digest (record { bytes = bytes; arrived = moment })) digest
      (get_blob more after digest ∙ ap (λ entry. stored_by entry (after digest)) more_here ∙ ap (stored_by (Some arriving)) sets.here
      ∙ sym (get_here byte_order (blobs_of table.slots holds) digest (record { bytes = bytes; arrived = moment })))
      (λ q apart. get_blob more after q ∙ ap (λ entry. stored_by entry (after q)) (more_elsewhere q apart) ∙ ap (stored_by (entry_at table.slots q)) (sets.others q apart) ∙ sym (get_blob table.slots holds q)
      ∙ sym (get_elsewhere byte_order (blobs_of table.slots holds) digest (record { bytes = bytes; arrived = moment }) q apart))

  pub fill_is : Sets holds digest (Some bytes) after → repo_of (with_entry moment table digest size) after ≡ with_blob moment (repo_of table holds) digest bytes
  fill_is sets = ap (λ blobs. record { known = true; blobs = blobs; manifests = plain_manifests table.table.manifests; tags = table.table.tags; sessions = table.sessions }) (more_blobs sets)

-- ---- a blob goes

module _ (table : RepoTable) (holds after : Holds) (digest : List ℕ) where
  abbrev fewer : Slots
  fewer = finite.remove table.slots digest

  fewer_here : entry_at fewer digest ≡ None
  fewer_here = ap filled (removed_here byte_order table.slots digest)

  fewer_elsewhere : (q : List ℕ) → q ≢ digest → entry_at fewer q ≡ entry_at table.slots q
  fewer_elsewhere q apart = ap filled (removed_elsewhere byte_order table.slots digest q apart)

  pub clear_agrees : Agrees table holds → finite.get table.table.manifests digest ≡ None → Sets holds digest None after → Agrees (without_entry table digest) after
  clear_agrees agrees none sets = record {
    fits = at_each (λ q. FitsEntry (entry_at fewer q) (after q)) digest
        (subst (λ entry. FitsEntry entry (after digest)) (sym fewer_here) sets.here)
        (λ q apart. subst (λ entry. FitsEntry entry (after q)) (sym (fewer_elsewhere q apart)) (subst (λ found. FitsEntry (entry_at table.slots q) found) (sym (sets.others q apart)) (agrees.fits q)));
    read = at_each (λ q. (kept : Kept) → finite.get table.table.manifests q ≡ Some kept → IsReadOf kept (entry_at fewer q) (after q)) digest
        (λ kept has. cc (sym has ∙ none))
        (λ q apart kept has. subst (λ entry. IsReadOf kept entry (after q)) (sym (fewer_elsewhere q apart)) (subst (λ found. IsReadOf kept (entry_at table.slots q) found) (sym (sets.others q apart)) (agrees.read q kept has)));
  }

  fewer_blobs : Sets holds digest None after → blobs_of fewer after ≡ finite.remove (blobs_of table.slots holds) digest
  fewer_blobs sets = same_by_key byte_order (blobs_of fewer after) (finite.remove (blobs_of table.slots holds) digest) digest
      (get_blob fewer after digest ∙ ap (λ entry. stored_by entry (after digest)) fewer_here ∙ sym (removed_here byte_order (blobs_of table.slots holds) digest))
      (λ q apart. get_blob fewer after q ∙ ap (λ entry. stored_by entry (after q)) (fewer_elsewhere q apart) ∙ ap (stored_by (entry_at table.slots q)) (sets.others q apart) ∙ sym (get_blob table.slots holds q)
      ∙ sym (removed_elsewhere byte_order (blobs_of table.slots holds) digest q apart))

  pub clear_is : Sets holds digest None after → repo_of (without_entry table digest) after ≡ without_blob (repo_of table holds) digest
  clear_is sets = ap (with_blobs table) (fewer_blobs sets)

-- ---- what a manifest says is learned

-- an entry whose bytes were read
abbrev pub as_read : BlobEntry → BlobEntry
as_read entry = record { size = entry.size; arrived = entry.arrived; unread = false }

module _ (slots : Slots) (digest : List ℕ) where
  found_read_here : (found : Option (Option BlobEntry)) → finite.get slots digest ≡ found → entry_at (read_by slots digest found) digest ≡ option_map as_read (filled found)
  found_read_here None is = ap filled is
  found_read_here (Some None) is = ap filled is
  found_read_here (Some (Some entry)) is = ap filled (get_here byte_order slots digest (Some (as_read entry)))

  found_read_elsewhere : (found : Option (Option BlobEntry)) (q : List ℕ) → q ≢ digest → entry_at (read_by slots digest found) q ≡ entry_at slots q
  found_read_elsewhere None q apart = refl
  found_read_elsewhere (Some None) q apart = refl
  found_read_elsewhere (Some (Some entry)) q apart = ap filled (get_elsewhere byte_order slots digest (Some (as_read entry)) q apart)

  abbrev pub slots_read : Slots
  slots_read = read_by slots digest (finite.get slots digest)

  pub read_here : entry_at slots_read digest ≡ option_map as_read (entry_at slots digest)
  read_here = found_read_here (finite.get slots digest) refl

  pub read_elsewhere : (q : List ℕ) → q ≢ digest → entry_at slots_read q ≡ entry_at slots q
  read_elsewhere = found_read_elsewhere (finite.get slots digest)

fits_read : (entry : Option BlobEntry) (found : Option (List ℕ)) → FitsEntry entry found → FitsEntry (option_map as_read entry) found
fits_read None found h = h
fits_read (Some entry) found h = h

stored_read : (entry : Option BlobEntry) (found : Option (List ℕ)) → stored_by (option_map as_read entry) found ≡ stored_by entry found
stored_read None found = refl
stored_read (Some entry) found = refl

module _ (slots : Slots) (holds : Holds) (digest : List ℕ) where
  -- each entry fits as before
  pub read_fits : ((q : List ℕ) → FitsEntry (entry_at slots q) (holds q)) → (q : List ℕ) → FitsEntry (entry_at (slots_read slots digest) q) (holds q)
  read_fits fits = at_each (λ q. FitsEntry (entry_at (slots_read slots digest) q) (holds q)) digest
      (subst (λ entry. FitsEntry entry (holds digest)) (sym (read_here slots digest)) (fits_read (entry_at slots digest) (holds digest) (fits digest)))
      (λ q apart. subst (λ entry. FitsEntry entry (holds q)) (sym (read_elsewhere slots digest q apart)) (fits q))

  -- the blobs stay
  pub read_blobs : blobs_of (slots_read slots digest) holds ≡ blobs_of slots holds
  read_blobs = same_blobs slots (slots_read slots digest) holds holds
      (at_each (λ q. stored_by (entry_at (slots_read slots digest) q) (holds q) ≡ stored_by (entry_at slots q) (holds q)) digest
      (ap (λ entry. stored_by entry (holds digest)) (read_here slots digest) ∙ stored_read (entry_at slots digest) (holds digest))
      (λ q apart. ap (λ entry. stored_by entry (holds q)) (read_elsewhere slots digest q apart)))

-- what is kept of a manifest is what the bytes that are held under its digest say
pub says_held : (kept : Kept) (entry : Option BlobEntry) (found : Option (List ℕ)) (bytes : List ℕ) → found ≡ Some bytes → kept.reading ≡ stored_reading kept.media bytes → IsReadOf kept entry found
says_held kept entry found bytes is says = inr (says ∙ ap (λ o. reading_by (plain_manifest kept) (as_stored o)) (sym is))

pub same_kept : (x y : Kept) → Some x ≡ Some y → x ≡ y
same_kept x y h = ap (λ o. unwrap_or o x) h

module _ (table : Table) (digest bytes : List ℕ) where
  found_reread : (found : Option Kept) → finite.get table.manifests digest ≡ found → (kept : Kept) → finite.get (rereads_found table digest bytes found).manifests digest ≡ Some kept → kept.reading ≡ stored_reading kept.media bytes
  found_reread None is kept has = cc (sym has ∙ is)
  found_reread (Some before) is kept has =
      subst (λ (k : Kept). k.reading ≡ stored_reading k.media bytes)
      (same_kept (read_again before bytes) kept (sym (get_here byte_order table.manifests digest (read_again before bytes)) ∙ has)) refl

  -- a manifest that was read again says what the bytes do
  pub reread_here : (kept : Kept) → finite.get (rereads table digest bytes).manifests digest ≡ Some kept → kept.reading ≡ stored_reading kept.media bytes
  reread_here = found_reread (finite.get table.manifests digest) refl

  found_elsewhere : (found : Option Kept) (q : List ℕ) → q ≢ digest → finite.get (rereads_found table digest bytes found).manifests q ≡ finite.get table.manifests q
  found_elsewhere None q apart = refl
  found_elsewhere (Some before) q apart = get_elsewhere byte_order table.manifests digest (read_again before bytes) q apart

  pub reread_elsewhere : (q : List ℕ) → q ≢ digest → finite.get (rereads table digest bytes).manifests q ≡ finite.get table.manifests q
  reread_elsewhere = found_elsewhere (finite.get table.manifests digest)

  found_plain : (found : Option Kept) → finite.get table.manifests digest ≡ found → plain_manifests (rereads_found table digest bytes found).manifests ≡ plain_manifests table.manifests
  found_plain None none = refl
  found_plain (Some before) here =
      plain_insert table.manifests digest (read_again before bytes)
      ∙ insert-same byte_order (plain_manifests table.manifests) digest (plain_manifest before) (get_plain table.manifests digest ∙ ap (option_map plain_manifest) here)

  found_tags : (found : Option Kept) → (rereads_found table digest bytes found).tags ≡ table.tags
  found_tags None = refl
  found_tags (Some before) = refl

  pub reread_tags : (rereads table digest bytes).tags ≡ table.tags
  reread_tags = found_tags (finite.get table.manifests digest)

  -- the plain registry has the same of them
  pub reread_is : (known : Bool) (blobs : ByteMap Stored) (sessions : UploadTable) → plain_of known blobs (rereads table digest bytes) sessions ≡ plain_of known blobs table sessions
  reread_is known blobs sessions =
      ap (λ (m : ByteMap StoredManifest). record { known = known; blobs = blobs; manifests = m; tags = (rereads table digest bytes).tags; sessions = sessions }) (found_plain (finite.get table.manifests digest) refl)
      ∙ ap (λ t. record { known = known; blobs = blobs; manifests = plain_manifests table.manifests; tags = t; sessions = sessions }) reread_tags

module _ (table : RepoTable) (holds : Holds) (digest bytes : List ℕ) where
  pub learn_agrees : Agrees table holds → holds digest ≡ Some bytes → Agrees (learned table digest bytes) holds
  learn_agrees agrees is = record {
    fits = read_fits table.slots holds digest agrees.fits;
    read = at_each (λ q. (kept : Kept) → finite.get (rereads table.table digest bytes).manifests q ≡ Some kept → IsReadOf kept (entry_at (slots_read table.slots digest) q) (holds q)) digest
        (λ kept has. says_held kept (entry_at (slots_read table.slots digest) digest) (holds digest) bytes is (reread_here table.table digest bytes kept has))
        (λ q apart kept has. subst (λ entry. IsReadOf kept entry (holds q)) (sym (read_elsewhere table.slots digest q apart)) (agrees.read q kept (sym (reread_elsewhere table.table digest bytes q apart) ∙ has)));
  }

  pub learn_is : repo_of (learned table digest bytes) holds ≡ repo_of table holds
  learn_is = reread_is table.table digest bytes table.known (blobs_of (slots_read table.slots digest) holds) table.sessions ∙ ap (with_blobs table) (read_blobs table.slots holds digest)

-- ---- known, and uploads

module _ (table : RepoTable) (holds : Holds) where
  pub know_agrees : (known : Bool) → Agrees table holds → Agrees (known_as known table) holds
  know_agrees known agrees = record { fits = agrees.fits; read = agrees.read }

  pub know_is : repo_of (known_as true table) holds ≡ made_known (repo_of table holds)
  know_is = refl

  -- a blob that arrives makes a repository known
  pub known_blob : (moment : ℕ) (digest bytes : List ℕ) → with_blob moment (made_known (repo_of table holds)) digest bytes ≡ with_blob moment (repo_of table holds) digest bytes
  known_blob moment digest bytes = refl

  pub uploads_agree : (sessions : UploadTable) → Agrees table holds → Agrees (with_uploads table sessions) holds
  uploads_agree sessions agrees = record { fits = agrees.fits; read = agrees.read }

  pub uploads_are : (sessions : UploadTable) → repo_of (with_uploads table sessions) holds ≡ with_sessions (repo_of table holds) sessions
  uploads_are sessions = refl

pub known_same : (table : RepoTable) (known : Bool) → table.known ≡ known → known_as known table ≡ table
known_same table known is = ap (λ k. record { known = k; slots = table.slots; table = table.table; sessions = table.sessions }) (sym is)

-- ---- sizes

size_by : (entry : Option BlobEntry) (found : Option (List ℕ)) → FitsEntry entry found → option_map (λ (e : BlobEntry). e.size) entry ≡ option_map (λ (s : Stored). length s.bytes) (stored_by entry found)
size_by None found h = refl
size_by (Some entry) None h = absurd h
size_by (Some entry) (Some bytes) h = ap Some (sym h)

held_by : (entry : Option BlobEntry) (found : Option (List ℕ)) → FitsEntry entry found → option_map (λ (e : BlobEntry). e.size) entry ≡ option_map length found
held_by None found h = ap (option_map length) (sym h)
held_by (Some entry) None h = absurd h
held_by (Some entry) (Some bytes) h = ap Some (sym h)

bytes_by : (entry : Option BlobEntry) (found : Option (List ℕ)) → FitsEntry entry found → option_map (λ (s : Stored). s.bytes) (stored_by entry found) ≡ found
bytes_by None found h = sym h
bytes_by (Some entry) None h = absurd h
bytes_by (Some entry) (Some bytes) h = refl

some_size : (found : Option Stored) → is_some found ≡ is_some (option_map (λ (s : Stored). length s.bytes) found)
some_size None = refl
some_size (Some stored) = refl

none_of : (found : Option Stored) → option_map (λ (s : Stored). s.bytes) found ≡ None → found ≡ None
none_of None h = refl
none_of (Some stored) h = cc h

module _ (table : RepoTable) (holds : Holds) (agrees : Agrees table holds) where
  -- the table's size of a blob is the plain one
  pub size_is : (digest : List ℕ) → size_at table.slots digest ≡ size_of (repo_of table holds).blobs digest
  size_is digest = size_by (entry_at table.slots digest) (holds digest) (agrees.fits digest) ∙ ap (option_map (λ (s : Stored). length s.bytes)) (sym (get_blob table.slots holds digest))

  pub sizes_are : size_at table.slots ≡ size_of (repo_of table holds).blobs
  sizes_are = λ i. λ digest. size_is digest i

  pub contains_is : (digest : List ℕ) → finite.contains_key (repo_of table holds).blobs digest ≡ is_some (size_at table.slots digest)
  contains_is digest = some_size (finite.get (repo_of table holds).blobs digest) ∙ ap is_some (sym (size_is digest))

  -- and that of the bytes that are held
  pub size_held : (digest : List ℕ) → size_at table.slots digest ≡ option_map length (holds digest)
  size_held digest = held_by (entry_at table.slots digest) (holds digest) (agrees.fits digest)

  -- what is held is what the plain repository has
  pub bytes_are : (digest : List ℕ) → option_map (λ (s : Stored). s.bytes) (finite.get (repo_of table holds).blobs digest) ≡ holds digest
  bytes_are digest = ap (option_map (λ (s : Stored). s.bytes)) (get_blob table.slots holds digest) ∙ bytes_by (entry_at table.slots digest) (holds digest) (agrees.fits digest)

  pub none_stored : (digest : List ℕ) → holds digest ≡ None → finite.get (repo_of table holds).blobs digest ≡ None
  none_stored digest none = none_of (finite.get (repo_of table holds).blobs digest) (bytes_are digest ∙ none)

  none_mapped : (found : Option (List ℕ)) → option_map length found ≡ None → found ≡ None
  none_mapped None h = refl
  none_mapped (Some bytes) h = cc h

  some_mapped : (size : ℕ) (found : Option (List ℕ)) → option_map length found ≡ Some size → IsSomeAnd found (λ bytes. length bytes ≡ size)
  some_mapped size None h = cc h
  some_mapped size (Some bytes) h = ap (λ o. unwrap_or o size) h

  -- what has no size isn't held, and what has one is, with so many bytes
  pub none_held : (digest : List ℕ) → size_at table.slots digest ≡ None → holds digest ≡ None
  none_held digest none = none_mapped (holds digest) (sym (size_held digest) ∙ none)

  pub some_held : (digest : List ℕ) (size : ℕ) → size_at table.slots digest ≡ Some size → IsSomeAnd (holds digest) (λ bytes. length bytes ≡ size)
  some_held digest size has = some_mapped size (holds digest) (sym (size_held digest) ∙ has)
