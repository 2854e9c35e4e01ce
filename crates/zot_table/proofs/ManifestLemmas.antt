-- What a reference finds in a table, and what becomes of manifests and tags.
use Rattle.std.proofs.Common.{◌≡◌, ℕ, List, length, Option, Some, None, unwrap_or, refl, sym, ap, subst, ◌∙◌}
use Rattle.std.specs.Prelude.{IsSomeAnd, option_and_then, option_map}
use Rattle.std.specs.FinMap as finite
use Rattle.zot_digest.specs.ByteMap.{ByteMap}
use Rattle.zot_manifests.proofs.TableLemmas.{plain_remove}
use Rattle.zot_manifests.specs.Table.{found_by}
use Rattle.zot_manifests.specs.declared.checked.Checked.{Checked}
use Rattle.zot_manifests.specs.declared.kept.Kept.{Kept}
use Rattle.zot_maps.proofs.Maps.{byte_order, get_elsewhere, get_here, removed_elsewhere, removed_here}
use Rattle.zot_media.specs.Manifest.{empty_reading, stored_reading}
use Rattle.zot_media.specs.declared.reference.Reference.{Reference}
use Rattle.zot_media.specs.declared.reference.Reference.TheVariants as by
use Rattle.zot_model.specs.Manifests.{Found, manifest_of, without_tags_of}
use Rattle.zot_model.specs.PlainManifests.{pulled, without_manifest, without_tag}
use Rattle.zot_model.specs.State.{RepoState, Stored, StoredManifest}
use Rattle.zot_table.proofs.EntryLemmas.{at_each}
use Rattle.zot_table.proofs.ManifestReplyLemmas.{checked_is, named_at, unnamed}
use Rattle.zot_table.proofs.StandingLemmas.{bytes_are, read_blobs, read_elsewhere, read_fits, same_kept, says_held, size_is, slots_read, some_held, with_blobs}
use Rattle.zot_table.specs.Changes.{with_checked, with_pull_of, without_named}
use Rattle.zot_table.specs.Replies.{with_checked as plain_with_checked}
use Rattle.zot_table.specs.Repository.{IsOf}
use Rattle.zot_table.specs.Standing.{Agrees, Holds, IsReadOf, blobs_of, repo_of}
use Rattle.zot_table.specs.Tables.{RepoTable, entry_at, found_at, found_in, found_with, size_at}
use Rattle.zot_table.specs.declared.found_entry.FoundEntry.{FoundEntry}

-- ---- what a reference finds

-- the manifest of a digest, by what is kept of it and of its blob
abbrev plain_found : List ℕ → Option Kept → Option Stored → Option Found
plain_found digest kept stored = option_and_then {U = Found} (λ (k : Kept). option_map (λ (s : Stored). record { digest = digest; media = k.media; bytes = s.bytes }) stored) kept

none_by : (digest : List ℕ) (kept : Option Kept) (stored : Option Stored) (size : Option ℕ) → size ≡ option_map (λ (s : Stored). length s.bytes) stored → found_with digest kept size ≡ None → plain_found digest kept stored ≡ None
none_by digest None stored size is h = refl
none_by digest (Some kept) None size is h = refl
none_by digest (Some kept) (Some stored) size is h = cc (sym h ∙ ap (found_with digest (Some kept)) is)

some_by : (holds : Holds) (digest : List ℕ) (kept : Option Kept) (stored : Option Stored) (size : Option ℕ) (found : FoundEntry) (bytes : List ℕ) → size ≡ option_map (λ (s : Stored). length s.bytes) stored
    → option_map (λ (s : Stored). s.bytes) stored ≡ holds digest → holds found.digest ≡ Some bytes → found_with digest kept size ≡ Some found
    → plain_found digest kept stored ≡ Some (record { digest = found.digest; media = found.media; bytes = bytes })
some_by holds digest None stored size found bytes is are has h = cc h
some_by holds digest (Some kept) None size found bytes is are has h = cc (sym h ∙ ap (found_with digest (Some kept)) is)
some_by holds digest (Some kept) (Some stored) size found bytes is are has h =
    let same : record { digest = digest; media = kept.media; size = length stored.bytes } ≡ found = ap (λ o. unwrap_or o found) (sym (ap (found_with digest (Some kept)) is) ∙ h) in
    let held : stored.bytes ≡ bytes = ap (λ o. unwrap_or o bytes) (are ∙ ap (λ (f : FoundEntry). holds f.digest) same ∙ has) in
    λ i. Some (record { digest = (same i).digest; media = (same i).media; bytes = held i })

sized_by : (digest : List ℕ) (kept : Option Kept) (size : Option ℕ) (found : FoundEntry) → found_with digest kept size ≡ Some found → (digest ≡ found.digest) × (size ≡ Some found.size)
sized_by digest None size found h = cc h
sized_by digest (Some kept) None found h = cc h
sized_by digest (Some kept) (Some size) found h =
    let same : record { digest = digest; media = kept.media; size = size } ≡ found = ap (λ o. unwrap_or o found) h in
    (ap (λ (f : FoundEntry). f.digest) same, ap (λ (f : FoundEntry). Some f.size) same)

module _ (table : RepoTable) (holds : Holds) (agrees : Agrees table holds) (reference : Reference) where
  at_named : (digest : List ℕ) → found_by table.table reference ≡ Some digest
      → manifest_of (repo_of table holds) reference ≡ plain_found digest (finite.get table.table.manifests digest) (finite.get (repo_of table holds).blobs digest)
  at_named digest is = named_at table.known (repo_of table holds).blobs table.table table.sessions reference digest (finite.get table.table.manifests digest) (finite.get (repo_of table holds).blobs digest) is refl refl

  pub found_none : found_in table reference ≡ None → manifest_of (repo_of table holds) reference ≡ None
  found_none h = split (found_by table.table reference) refl h where
    split : (named : Option (List ℕ)) → found_by table.table reference ≡ named → found_at table named ≡ None → manifest_of (repo_of table holds) reference ≡ None
    split None is k = unnamed table.known (repo_of table holds).blobs table.table table.sessions reference is
    split (Some digest) is k =
        at_named digest is
        ∙ none_by digest (finite.get table.table.manifests digest) (finite.get (repo_of table holds).blobs digest) (size_at table.slots digest) (size_is table holds agrees digest) k

  pub found_some : (found : FoundEntry) (bytes : List ℕ) → found_in table reference ≡ Some found → holds found.digest ≡ Some bytes
      → manifest_of (repo_of table holds) reference ≡ Some (record { digest = found.digest; media = found.media; bytes = bytes })
  found_some found bytes h has = split (found_by table.table reference) refl h where
    split : (named : Option (List ℕ)) → found_by table.table reference ≡ named → found_at table named ≡ Some found → manifest_of (repo_of table holds) reference ≡ Some (record { digest = found.digest; media = found.media; bytes = bytes })
    split None is k = cc k
    split (Some digest) is k =
        at_named digest is
        ∙ some_by holds digest (finite.get table.table.manifests digest) (finite.get (repo_of table holds).blobs digest) (size_at table.slots digest) found bytes
        (size_is table holds agrees digest) (bytes_are table holds agrees digest) has k

  -- how many bytes it has
  pub found_sized : (found : FoundEntry) → found_in table reference ≡ Some found → size_at table.slots found.digest ≡ Some found.size
  found_sized found h = split (found_by table.table reference) h where
    split : (named : Option (List ℕ)) → found_at table named ≡ Some found → size_at table.slots found.digest ≡ Some found.size
    split None k = cc k
    split (Some digest) k = let of = sized_by digest (finite.get table.table.manifests digest) (size_at table.slots digest) found k in ap (size_at table.slots) (sym of.0) ∙ of.1

  -- which are held
  pub found_held : (found : FoundEntry) → found_in table reference ≡ Some found → IsSomeAnd (holds found.digest) (λ bytes. length bytes ≡ found.size)
  found_held found h = some_held table holds agrees found.digest found.size (found_sized found h)

-- ---- a manifest that was checked

module _ (moment : ℕ) (table : RepoTable) (holds : Holds) (checked : Checked) where
  abbrev kept_now : Kept
  kept_now = record { media = checked.media; arrived = moment; reading = checked.reading }

  pub put_agrees : (body : List ℕ) → Agrees table holds → holds checked.digest ≡ Some body → IsOf checked body → Agrees (with_checked moment table checked) holds
  put_agrees body agrees has of = record {
    fits = read_fits table.slots holds checked.digest agrees.fits;
    read = at_each (λ q. (kept : Kept) → finite.get (finite.insert table.table.manifests checked.digest kept_now) q ≡ Some kept → IsReadOf kept (entry_at (slots_read table.slots checked.digest) q) (holds q)) checked.digest
        (λ kept is. says_held kept (entry_at (slots_read table.slots checked.digest) checked.digest) (holds checked.digest) body has
        (subst (λ (k : Kept). k.reading ≡ stored_reading k.media body) (same_kept kept_now kept (sym (get_here byte_order table.table.manifests checked.digest kept_now) ∙ is))
        (sym (ap (λ o. unwrap_or o empty_reading) of.read))))
        (λ q apart kept is. subst (λ entry. IsReadOf kept entry (holds q)) (sym (read_elsewhere table.slots checked.digest q apart))
        (agrees.read q kept (sym (get_elsewhere byte_order table.table.manifests checked.digest kept_now q apart) ∙ is)));
  }

  pub put_is : repo_of (with_checked moment table checked) holds ≡ plain_with_checked moment (repo_of table holds) checked
  put_is =
      checked_is table.known (blobs_of (slots_read table.slots checked.digest) holds) table.table (with_checked moment table checked).table table.sessions moment checked refl
      ∙ ap (λ blobs. plain_with_checked moment (with_blobs table blobs) checked) (read_blobs table.slots holds checked.digest)

-- ---- a manifest or a tag that goes

-- the plain repository without what a reference names
abbrev pub plain_without : RepoState → Reference → RepoState
plain_without repo (by.Tag tag) = without_tag repo tag
plain_without repo (by.Digest digest) = without_manifest repo digest

module _ (table : RepoTable) (holds : Holds) where
  pub remove_agrees : (reference : Reference) → Agrees table holds → Agrees (without_named table reference) holds
  remove_agrees (by.Tag tag) agrees = record { fits = agrees.fits; read = agrees.read }
  remove_agrees (by.Digest digest) agrees = record {
    fits = agrees.fits;
    read = at_each (λ q. (kept : Kept) → finite.get (finite.remove table.table.manifests digest) q ≡ Some kept → IsReadOf kept (entry_at table.slots q) (holds q)) digest
        (λ kept has. cc (sym has ∙ removed_here byte_order table.table.manifests digest))
        (λ q apart kept has. agrees.read q kept (sym (removed_elsewhere byte_order table.table.manifests digest q apart) ∙ has));
  }

  pub remove_is : (reference : Reference) → repo_of (without_named table reference) holds ≡ plain_without (repo_of table holds) reference
  remove_is (by.Tag tag) = refl
  remove_is (by.Digest digest) =
      ap (λ (m : ByteMap StoredManifest). record { known = table.known; blobs = (repo_of table holds).blobs; manifests = m; tags = without_tags_of table.table.tags digest; sessions = table.sessions })
      (plain_remove table.table.manifests digest)

-- ---- a pull

module _ (moment : ℕ) (table : RepoTable) (holds : Holds) (reference : Reference) where
  pub pull_agrees : Agrees table holds → Agrees (with_pull_of moment table reference) holds
  pull_agrees agrees = record { fits = agrees.fits; read = agrees.read }

  pub pull_is : repo_of (with_pull_of moment table reference) holds ≡ pulled moment (repo_of table holds) reference
  pull_is = refl
