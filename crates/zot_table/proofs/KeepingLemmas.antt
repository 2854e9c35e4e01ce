-- The parts of a repository's table keep what they do.
use Rattle.std.proofs.Common.{◌≡◌, ◌≢◌, ℕ, Bool, true, false, cond, not, List, Option, Some, None, is_some, refl, sym, ap, subst, ◌∙◌, unwrap_or}
use Rattle.std.specs.Cmp.Lexicographic.{nat_list_cmp_total}
use Rattle.std.specs.FinMap as finite
use Rattle.std.specs.FinMap.{get-empty, get-insert, get-remove, get-retain_keys}
use Rattle.std.specs.Ordering.{eq_by_cmp}
use Rattle.std.proofs.lemmas.Bool.{true≢false}
use Rattle.std.proofs.lemmas.Slice.Eq.{bytes_eq-Decides}
use Rattle.zot_digest.specs.ByteMap.{ByteMap, byte_cmp}
use Rattle.zot_manifests.specs.Index.{Sets}
use Rattle.zot_manifests.specs.Table.{Table, empty_table, with_manifest, without_manifest, without_tag}
use Rattle.zot_manifests.specs.declared.kept.Kept.{Kept}
use Rattle.zot_maps.proofs.Maps.{byte_order, get_here, removed_elsewhere, same_key}
use Rattle.zot_media.specs.declared.media.Media.{Media}
use Rattle.zot_media.specs.declared.reading.Reading.{Reading}
use Rattle.zot_model.specs.Manifests.{is_tag_of, pulled_at, with_pull, without_tags_of}
use Rattle.zot_model.specs.State.{StoredTag}
use Rattle.zot_model.specs.Uploads.{UploadTable, no_uploads}
use Rattle.zot_referrers.specs.Listing.{ListsSubjects}
use Rattle.zot_table.proofs.SubjectLemmas.{subjects_none}
use Rattle.zot_table.specs.Keeping.{IsKept, NoneUnread}
use Rattle.zot_table.specs.Tables.{AreTagged, RepoTable, Slots, fresh_table}

-- ---- a fresh table

module _ (slots : Slots) (table : Table) (sets : Sets (List ℕ)) (listed all_read : Bool) where
  -- of no manifests there is nothing to keep
  pub kept_empty : table ≡ empty_table → IsKept slots table sets listed all_read
  kept_empty is = record {
    subjects = λ _. subjects_none table.manifests sets (ap (λ (t : Table). t.manifests) is);
    tagged = λ tag stored has. cc (sym has ∙ ap (λ (t : Table). finite.get t.tags tag) is ∙ get-empty byte_cmp tag);
    read = λ _ digest has. absurd (true≢false (sym has ∙ ap (λ (t : Table). finite.contains_key t.manifests digest) is ∙ ap is_some (get-empty byte_cmp digest)));
  }

pub fresh_is : (known : Bool) (slots : Slots) (table : Table) (sessions : UploadTable) → known ≡ false → slots ≡ finite.empty → table ≡ empty_table → sessions ≡ no_uploads
    → ◌≡◌ {A = RepoTable} (record { known = known; slots = slots; table = table; sessions = sessions }) fresh_table
fresh_is known slots table sessions unknown none empty new =
    ap (λ k. record { known = k; slots = slots; table = table; sessions = sessions }) unknown
    ∙ ap (λ (s : Slots). record { known = false; slots = s; table = table; sessions = sessions }) none
    ∙ ap (λ (t : Table). record { known = false; slots = finite.empty; table = t; sessions = sessions }) empty
    ∙ ap (λ (u : UploadTable). record { known = false; slots = finite.empty; table = empty_table; sessions = u }) new

-- ---- one part changes

module _ (slots : Slots) (table : Table) (sets : Sets (List ℕ)) (listed all_read : Bool) (kept : IsKept slots table sets listed all_read) where
  -- the slots
  pub kept_slots : (new : Slots) (now : Bool) → (now ≡ true → NoneUnread new table.manifests) → IsKept new table sets listed now
  kept_slots new now read = record { subjects = kept.subjects; tagged = kept.tagged; read = read }

  -- the sets of what is listed
  pub kept_sets : (new : Sets (List ℕ)) → (ListsSubjects table.manifests sets → ListsSubjects table.manifests new) → IsKept slots table new listed all_read
  kept_sets new lists = record { subjects = λ on. lists (kept.subjects on); tagged = kept.tagged; read = kept.read }

  -- a table of the same manifests
  pub kept_tags : (new : Table) → new.manifests ≡ table.manifests → AreTagged new → IsKept slots new sets listed all_read
  kept_tags new is tagged = record {
    subjects = λ on. by_manifests (λ (m : ByteMap Kept). ListsSubjects m sets) (kept.subjects on);
    tagged = tagged;
    read = λ on. by_manifests (λ (m : ByteMap Kept). NoneUnread slots m) (kept.read on);
  } where
    by_manifests : (P : ByteMap Kept → Type 0) → P table.manifests → P new.manifests
    by_manifests P h = subst P (sym is) h

-- ---- each tag is one of a manifest

same_stored : (x y : StoredTag) → Some x ≡ Some y → x ≡ y
same_stored x y h = ap (λ o. unwrap_or o x) h

-- a digest is another one
apart_from : (q digest : List ℕ) → eq_by_cmp byte_cmp q digest ≡ false → q ≢ digest
apart_from q digest apart same = true≢false (sym (same_key byte_order digest) ∙ ap (λ k. eq_by_cmp byte_cmp k digest) (sym same) ∙ apart)

-- the manifests grow
has_grown : (manifests : ByteMap Kept) (digest q : List ℕ) (kept : Kept) → finite.contains_key manifests q ≡ true → finite.contains_key (finite.insert manifests digest kept) q ≡ true
has_grown manifests digest q kept has = ap is_some (get-insert nat_list_cmp_total manifests digest kept q) ∙ split (eq_by_cmp byte_cmp q digest) where
  split : (b : Bool) → is_some (cond b (Some kept) (finite.get manifests q)) ≡ true
  split true = refl
  split false = has

-- a manifest and its tag came
pub tagged_put : (moment : ℕ) (old : Table) (digest : List ℕ) (tag : Option (List ℕ)) (media : Media) (reading : Reading) → AreTagged old → AreTagged (with_manifest moment old digest tag media reading)
tagged_put moment old digest None media reading tagged q stored has = has_grown old.manifests digest stored.digest _ (tagged q stored has)
tagged_put moment old digest (Some tag) media reading tagged q stored has =
    split (eq_by_cmp byte_cmp q tag) (sym (get-insert nat_list_cmp_total old.tags tag (record { digest = digest; pushed = moment; pulls = 0; pulled = 0 }) q) ∙ has) where
      split : (b : Bool) → cond b (Some (record { digest = digest; pushed = moment; pulls = 0; pulled = 0 })) (finite.get old.tags q) ≡ Some stored
          → finite.contains_key (with_manifest moment old digest (Some tag) media reading).manifests stored.digest ≡ true
      split true h =
          ap (λ (s : StoredTag). finite.contains_key (with_manifest moment old digest (Some tag) media reading).manifests s.digest) (sym (same_stored _ stored h))
          ∙ ap is_some (get_here byte_order old.manifests digest (record { media = media; arrived = moment; reading = reading }))
      split false h = has_grown old.manifests digest stored.digest _ (tagged q stored h)

-- a tag went
pub tagged_untagged : (old : Table) (tag : List ℕ) → AreTagged old → AreTagged (without_tag old tag)
tagged_untagged old tag tagged q stored has = split (eq_by_cmp byte_cmp q tag) (sym (get-remove nat_list_cmp_total old.tags tag q) ∙ has) where
  split : (b : Bool) → cond b None (finite.get old.tags q) ≡ Some stored → finite.contains_key old.manifests stored.digest ≡ true
  split true h = cc h
  split false h = tagged q stored h

-- a manifest went with its tags
pub tagged_gone : (old : Table) (digest : List ℕ) → AreTagged old → AreTagged (without_manifest old digest)
tagged_gone old digest tagged q stored has = split (is_tag_of digest (finite.get old.tags q)) refl (sym kept ∙ has) where
  kept : finite.get (without_tags_of old.tags digest) q ≡ cond (not (is_tag_of digest (finite.get old.tags q))) (finite.get old.tags q) None
  kept = get-retain_keys old.tags (λ tag. not (is_tag_of digest (finite.get old.tags tag))) q (λ x same. ap (λ tag. not (is_tag_of digest (finite.get old.tags tag))) (sym (byte_order.antisymmetric q x same)))

  other : finite.get old.tags q ≡ Some stored → is_tag_of digest (finite.get old.tags q) ≡ false → stored.digest ≢ digest
  other here isnt same = true≢false (sym ((bytes_eq-Decides stored.digest digest).1 same) ∙ sym (ap (is_tag_of digest) here) ∙ isnt)

  split : (b : Bool) → is_tag_of digest (finite.get old.tags q) ≡ b → cond (not b) (finite.get old.tags q) None ≡ Some stored → finite.contains_key (without_manifest old digest).manifests stored.digest ≡ true
  split true is h = cc h
  split false is h = ap is_some (removed_elsewhere byte_order old.manifests digest stored.digest (other h is)) ∙ tagged q stored h

-- a tag was pulled
pub tagged_pulled : (moment : ℕ) (manifests : ByteMap Kept) (tags : ByteMap StoredTag) (tag : List ℕ) (found : Option StoredTag) → finite.get tags tag ≡ found
    → AreTagged (record { manifests = manifests; tags = tags }) → AreTagged (record { manifests = manifests; tags = with_pull moment tags tag found })
tagged_pulled moment manifests tags tag None here tagged = tagged
tagged_pulled moment manifests tags tag (Some before) here tagged = λ q stored has.
    split q stored (eq_by_cmp byte_cmp q tag) (sym (get-insert nat_list_cmp_total tags tag (pulled_at moment before) q) ∙ has) where
      split : (q : List ℕ) (stored : StoredTag) (b : Bool) → cond b (Some (pulled_at moment before)) (finite.get tags q) ≡ Some stored → finite.contains_key manifests stored.digest ≡ true
      split q stored true h = ap (λ (s : StoredTag). finite.contains_key manifests s.digest) (sym (same_stored (pulled_at moment before) stored h)) ∙ tagged tag before here
      split q stored false h = tagged q stored h

-- ---- no manifest is unread, of fewer manifests and of one more that was read

pub read_fewer : (slots : Slots) (manifests : ByteMap Kept) (digest : List ℕ) → NoneUnread slots manifests → NoneUnread slots (finite.remove manifests digest)
read_fewer slots manifests digest none q has = none q (split (eq_by_cmp byte_cmp q digest) (sym (ap is_some (get-remove nat_list_cmp_total manifests digest q)) ∙ has)) where
  split : (b : Bool) → is_some (cond b None (finite.get manifests q)) ≡ true → finite.contains_key manifests q ≡ true
  split true h = cc h
  split false h = h
