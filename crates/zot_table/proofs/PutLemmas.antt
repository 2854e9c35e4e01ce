-- A manifest that was put, and taken back.
use Rattle.std.proofs.Common.{◌≡◌, ℕ, Bool, true, false, cond, List, Option, Some, None, is_some, refl, sym, ap, subst, ◌∙◌}
use Rattle.std.specs.Prelude.{IfSome, Result, Ok, Err, OnErr, OnOk}
use Rattle.std.specs.Cmp.Lexicographic.{nat_list_cmp_total}
use Rattle.std.specs.FinMap as finite
use Rattle.std.specs.FinMap.{get-insert}
use Rattle.std.specs.Ordering.{eq_by_cmp}
use Rattle.zot_digest.specs.ByteMap.{ByteMap, byte_cmp}
use Rattle.zot_manifests.proofs.IndexLemmas.{is_now, lists_insert, lists_remove}
use Rattle.zot_manifests.proofs.SetLemmas.{adds_keep, just_keep}
use Rattle.zot_manifests.proofs.TableLemmas.{put_back_is}
use Rattle.zot_manifests.specs.Index.{Adds, KeepsAll, KeepsJust, Sets}
use Rattle.zot_manifests.specs.Replacing.{IsPut}
use Rattle.zot_manifests.specs.Table.{Table, put_back, tag_back, tag_before, taken_back, with_manifest}
use Rattle.zot_manifests.specs.declared.checked.Checked.{Checked}
use Rattle.zot_manifests.specs.declared.kept.Kept.{Kept}
use Rattle.zot_manifests.specs.declared.replaced.Replaced.{Replaced}
use Rattle.zot_maps.proofs.Maps.{byte_order, get_elsewhere, get_here, same_by_key, tied_keys}
use Rattle.zot_media.specs.declared.media.Media.{Media}
use Rattle.zot_media.specs.declared.reading.Reading.{Reading}
use Rattle.zot_model.specs.Manifests.{with_tag}
use Rattle.zot_model.specs.State.{StoredTag}
use Rattle.zot_model.specs.Uploads.{UploadTable}
use Rattle.zot_referrers.specs.Listing.{ListsSubjects, says_of}
use Rattle.zot_table.proofs.KeepingLemmas.{tagged_put}
use Rattle.zot_table.proofs.SlotLemmas.{read_here, unread_read}
use Rattle.zot_table.proofs.SubjectLemmas.{subjects_put}
use Rattle.zot_table.specs.Changes.{read_by, with_checked}
use Rattle.zot_table.specs.Keeping.{IsKept, NoneUnread}
use Rattle.zot_table.specs.Putting.{WasPut, marked_by}
use Rattle.zot_table.specs.Tables.{AreTagged, RepoTable, Slots, entry_at, filled, is_unread}
use Rattle.zot_table.specs.declared.before.Before.{Before}
use Rattle.zot_table.specs.declared.blob_entry.BlobEntry.{BlobEntry}

-- ---- it was put

-- a manifest that was read came
pub kept_put : (slots : Slots) (table : Table) (sets : Sets (List ℕ)) (listed all_read : Bool) → IsKept slots table sets listed all_read → (read : Slots) (new : Table) (after : Sets (List ℕ)) (moment : ℕ) (digest : List ℕ) (tag : Option (List ℕ)) (media : Media) (reading : Reading)
    → new ≡ with_manifest moment table digest tag media reading → read ≡ read_by slots digest (finite.get slots digest) → Adds byte_cmp (says_of reading) digest sets after → IsKept read new after listed all_read
kept_put slots table sets listed all_read kept read new after moment digest tag media reading is are adds = record {
  subjects = λ on. subjects_put table new sets after digest tag media moment reading is adds (kept.subjects on);
  tagged = subst (λ (t : Table). AreTagged t) (sym is) (tagged_put moment table digest tag media reading kept.tagged);
  read = λ on q has. split (kept.read on) q (eq_by_cmp byte_cmp q digest) refl (sym (ap is_some (get-insert nat_list_cmp_total table.manifests digest (record { media = media; arrived = moment; reading = reading }) q)) ∙ ap (λ (t : Table). finite.contains_key t.manifests q) (sym is) ∙ has);
} where
  split : NoneUnread slots table.manifests → (q : List ℕ) (b : Bool) → eq_by_cmp byte_cmp q digest ≡ b → is_some (cond b (Some (record { media = media; arrived = moment; reading = reading })) (finite.get table.manifests q)) ≡ true
      → is_unread (entry_at read q) ≡ false
  split none q true tied h = ap (λ d. is_unread (entry_at read d)) (tied_keys byte_order q digest tied) ∙ read_here slots read digest are
  split none q false apart h = unread_read slots read digest table.manifests are none q h

pub put_is : (known : Bool) (slots read : Slots) (table new : Table) (sessions : UploadTable) (moment : ℕ) (checked : Checked) → new ≡ with_manifest moment table checked.digest checked.tag checked.media checked.reading → read ≡ read_by slots checked.digest (finite.get slots checked.digest)
    → ◌≡◌ {A = RepoTable} (record { known = known; slots = read; table = new; sessions = sessions }) (with_checked moment (record { known = known; slots = slots; table = table; sessions = sessions }) checked)
put_is known slots read table new sessions moment checked is are =
    ap (λ (s : Slots). record { known = known; slots = s; table = new; sessions = sessions }) are
    ∙ ap (λ (t : Table). record { known = known; slots = read_by slots checked.digest (finite.get slots checked.digest); table = t; sessions = sessions }) is

-- ---- what there was before

module _ (before : Before) (old new : RepoTable) (was : WasPut before old new) where
  abbrev replaced : Replaced
  replaced = before.replaced

  abbrev stored_tag : StoredTag
  stored_tag = record { digest = was.checked.digest; pushed = was.moment; pulls = 0; pulled = 0 }

  abbrev put_kept : Kept
  put_kept = record { media = was.checked.media; arrived = was.moment; reading = was.checked.reading }

  abbrev put_table : Table
  put_table = with_manifest was.moment old.table was.checked.digest was.checked.tag was.checked.media was.checked.reading

  same_table : new.table ≡ with_manifest was.moment old.table was.checked.digest was.checked.tag was.checked.media was.checked.reading
  same_table = ap (λ (r : RepoTable). r.table) was.is

  tag_there : (tag : Option (List ℕ)) → IfSome tag (λ t. finite.contains_key (with_tag was.moment old.table.tags tag was.checked.digest) t ≡ true)
  tag_there None = tt
  tag_there (Some tag) = ap is_some (get_here byte_order old.table.tags tag stored_tag)

  -- a manifest and a tag are there
  pub put_there : IsPut replaced new.table
  put_there = subst (λ (t : Table). IsPut replaced t) (sym same_table) (record {
    manifest =
        ap (λ d. finite.contains_key (finite.insert old.table.manifests was.checked.digest put_kept) d) was.replaces.digest ∙ ap is_some (get_here byte_order old.table.manifests was.checked.digest put_kept);
    tag =
        subst (λ tag. IfSome tag (λ t. finite.contains_key (with_tag was.moment old.table.tags was.checked.tag was.checked.digest) t ≡ true)) (sym was.replaces.tag) (tag_there was.checked.tag);
  })

  tags_back : (tag : Option (List ℕ)) → tag_back (with_tag was.moment old.table.tags tag was.checked.digest) tag (tag_before old.table.tags tag) ≡ old.table.tags
  tags_back None = refl
  tags_back (Some tag) = put_back_is old.table.tags (finite.insert old.table.tags tag stored_tag) tag stored_tag (finite.get old.table.tags tag) refl refl

  manifests_back : put_back (finite.insert old.table.manifests was.checked.digest put_kept) was.checked.digest (finite.get old.table.manifests was.checked.digest) ≡ old.table.manifests
  manifests_back = put_back_is old.table.manifests (finite.insert old.table.manifests was.checked.digest put_kept) was.checked.digest put_kept (finite.get old.table.manifests was.checked.digest) refl refl

  -- the table is as it was
  pub table_back : taken_back new.table replaced.digest replaced.manifest replaced.tag replaced.entry ≡ old.table
  table_back =
      ap (λ (t : Table). taken_back t replaced.digest replaced.manifest replaced.tag replaced.entry) same_table
      ∙ ap (λ d. taken_back put_table d replaced.manifest replaced.tag replaced.entry) was.replaces.digest
      ∙ ap (λ (m : Option Kept). taken_back put_table was.checked.digest m replaced.tag replaced.entry) was.replaces.manifest
      ∙ ap (λ tag. taken_back put_table was.checked.digest (finite.get old.table.manifests was.checked.digest) tag replaced.entry) was.replaces.tag
      ∙ ap (λ (entry : Option StoredTag). taken_back put_table was.checked.digest (finite.get old.table.manifests was.checked.digest) was.checked.tag entry) was.replaces.entry
      ∙ ap (λ (m : ByteMap Kept). record { manifests = m; tags = tag_back put_table.tags was.checked.tag (tag_before old.table.tags was.checked.tag) }) manifests_back
      ∙ ap (λ (tags : ByteMap StoredTag). record { manifests = old.table.manifests; tags = tags }) (tags_back was.checked.tag)

-- ---- the slots are as they were

entry_again : (slots : Slots) (digest : List ℕ) (entry : BlobEntry) (unread : Bool) → finite.get slots digest ≡ Some (Some entry) → unread ≡ entry.unread
    → finite.insert (finite.insert slots digest (Some (record { size = entry.size; arrived = entry.arrived; unread = false }))) digest (Some (record { size = entry.size; arrived = entry.arrived; unread = unread })) ≡ slots
entry_again slots digest entry unread here is =
    same_by_key byte_order _ slots digest
    (get_here byte_order (finite.insert slots digest (Some (record { size = entry.size; arrived = entry.arrived; unread = false }))) digest (Some (record { size = entry.size; arrived = entry.arrived; unread = unread }))
    ∙ ap (λ b. Some (Some (record { size = entry.size; arrived = entry.arrived; unread = b }))) is ∙ sym here)
    (λ q apart.
    get_elsewhere byte_order (finite.insert slots digest (Some (record { size = entry.size; arrived = entry.arrived; unread = false }))) digest (Some (record { size = entry.size; arrived = entry.arrived; unread = unread })) q apart
    ∙ get_elsewhere byte_order slots digest (Some (record { size = entry.size; arrived = entry.arrived; unread = false })) q apart)

marked_back : (slots read : Slots) (digest : List ℕ) (unread : Bool) (found : Option (Option BlobEntry)) → finite.get slots digest ≡ found → unread ≡ is_unread (filled found) → read ≡ read_by slots digest found → marked_by unread read digest (finite.get read digest) ≡ slots
marked_back slots read digest unread None here is are = ap (λ (s : Slots). marked_by unread s digest (finite.get s digest)) are ∙ ap (marked_by unread slots digest) here
marked_back slots read digest unread (Some None) here is are = ap (λ (s : Slots). marked_by unread s digest (finite.get s digest)) are ∙ ap (marked_by unread slots digest) here
marked_back slots read digest unread (Some (Some entry)) here is are =
    ap (λ (s : Slots). marked_by unread s digest (finite.get s digest)) are
    ∙ ap (marked_by unread (finite.insert slots digest (Some (record { size = entry.size; arrived = entry.arrived; unread = false }))) digest)
    (get_here byte_order slots digest (Some (record { size = entry.size; arrived = entry.arrived; unread = false })))
    ∙ entry_again slots digest entry unread here is

pub slots_back : (before : Before) (old new : RepoTable) (was : WasPut before old new) → marked_by before.unread new.slots before.replaced.digest (finite.get new.slots before.replaced.digest) ≡ old.slots
slots_back before old new was =
    ap (λ d. marked_by before.unread new.slots d (finite.get new.slots d)) was.replaces.digest
    ∙ marked_back old.slots new.slots was.checked.digest before.unread (finite.get old.slots was.checked.digest) refl was.unread (ap (λ (r : RepoTable). r.slots) was.is)

-- all is as it was
pub all_back : (before : Before) (old new : RepoTable) (was : WasPut before old new) (slots : Slots) (table : Table) → slots ≡ marked_by before.unread new.slots before.replaced.digest (finite.get new.slots before.replaced.digest)
    → table ≡ taken_back new.table before.replaced.digest before.replaced.manifest before.replaced.tag before.replaced.entry
    → ◌≡◌ {A = RepoTable} (record { known = new.known; slots = slots; table = table; sessions = new.sessions }) old
all_back before old new was slots table is are =
    ap (λ (s : Slots). record { known = new.known; slots = s; table = table; sessions = new.sessions }) (is ∙ slots_back before old new was)
    ∙ ap (λ (t : Table). record { known = new.known; slots = old.slots; table = t; sessions = new.sessions }) (are ∙ table_back before old new was)
    ∙ ap (λ (r : RepoTable). record { known = r.known; slots = old.slots; table = old.table; sessions = r.sessions }) was.is

-- ---- what stays listed

-- each manifest is listed under its subject, where what was there before is
pub subjects_back : (new old : ByteMap Kept) (sets after : Sets (List ℕ)) (digest : List ℕ) (before : Option Kept) → old ≡ put_back new digest before → KeepsAll byte_cmp sets after
    → IfSome before (λ kept. Adds byte_cmp (says_of kept.reading) digest sets after) → ListsSubjects new sets → ListsSubjects old after
subjects_back new old sets after digest None is keeps adds all = lists_remove (λ (kept : Kept) subject. says_of kept.reading subject) new old sets after digest is (λ named other apart h. keeps named other h) all
subjects_back new old sets after digest (Some kept) is keeps adds all =
    lists_insert (λ (k : Kept) subject. says_of k.reading subject) new old sets after digest kept is (λ named other apart h. keeps named other h) (is_now true (says_of kept.reading) digest sets after adds) all

-- the parts keep what they do
pub kept_back : (slots : Slots) (table : Table) (sets : Sets (List ℕ)) (listed all_read : Bool) → IsKept slots table sets listed all_read → (before : Before) (old : RepoTable) → (marked : Slots) (new : Table) (after : Sets (List ℕ)) (now : Bool)
    → new ≡ taken_back table before.replaced.digest before.replaced.manifest before.replaced.tag before.replaced.entry → new ≡ old.table → AreTagged old.table → KeepsAll byte_cmp sets after
    → (now ≡ true → (listed ≡ true) × IfSome before.replaced.manifest (λ kept. Adds byte_cmp (says_of kept.reading) before.replaced.digest sets after)) → IsKept marked new after now false
kept_back slots table sets listed all_read kept before old marked new after now is was tagged keeps more = record {
  subjects = λ on.
      subjects_back table.manifests new.manifests sets after before.replaced.digest before.replaced.manifest (ap (λ (t : Table). t.manifests) is) keeps (more on).1 (kept.subjects (more on).0);
  tagged = subst (λ (t : Table). AreTagged t) (sym was) tagged;
  read = λ on. cc on;
}

-- ---- listing again

module _ {X E : Type 0} (sets after : Sets (List ℕ)) (digest : List ℕ) (reading : Reading) where
  pub add_keeps : (result : Result X E) → OnOk result (Adds byte_cmp (says_of reading) digest sets after) → OnErr result (KeepsJust byte_cmp sets after) → KeepsAll byte_cmp sets after
  add_keeps (Ok x) adds k = adds_keep byte_cmp (says_of reading) digest sets after adds
  add_keeps (Err e) k just = just_keep byte_cmp sets after just
