-- What the parts of a repository's table keep after each change.
use Rattle.std.proofs.Common.{◌≡◌, ℕ, Bool, true, false, cond, List, Option, Some, None, is_some, refl, sym, ap, subst, ◌∙◌}
use Rattle.std.specs.Prelude.{Result, Ok, Err, OnErr, OnOk}
use Rattle.std.specs.Cmp.Lexicographic.{nat_list_cmp_total}
use Rattle.std.specs.FinMap as finite
use Rattle.std.specs.FinMap.{get-insert}
use Rattle.std.specs.Ordering.{eq_by_cmp}
use Rattle.zot_digest.specs.ByteMap.{ByteMap, byte_cmp}
use Rattle.zot_manifests.specs.Index.{Removes, Sets}
use Rattle.zot_manifests.specs.Table.{Table, pulled, without_manifest, without_tag}
use Rattle.zot_manifests.specs.declared.kept.Kept.{Kept}
use Rattle.zot_maps.proofs.Maps.{byte_order, tied_keys}
use Rattle.zot_media.specs.declared.reading.Reading.{Reading}
use Rattle.zot_media.specs.declared.reference.Reference.{Reference}
use Rattle.zot_media.specs.declared.reference.Reference.TheVariants as by
use Rattle.zot_referrers.specs.Listing.{ListsSubjects, says_of}
use Rattle.zot_table.proofs.KeepingLemmas.{kept_slots, kept_tags, read_fewer, tagged_gone, tagged_pulled, tagged_untagged}
use Rattle.zot_table.proofs.SlotLemmas.{filled_reserved, unread_read, unread_reserved}
use Rattle.zot_table.proofs.StandingLemmas.{reread_tags}
use Rattle.zot_table.proofs.SubjectLemmas.{subjects_gone}
use Rattle.zot_table.specs.Changes.{read_by, reserved, reserved_by, with_entry}
use Rattle.zot_table.specs.Keeping.{IsKept, NoneUnread}
use Rattle.zot_table.specs.Repository.{read_again, rereads, rereads_found}
use Rattle.zot_table.specs.Tables.{AreTagged, RepoTable, Slots}

module _ (slots : Slots) (table : Table) (sets : Sets (List ℕ)) (listed all_read : Bool) (kept : IsKept slots table sets listed all_read) where
  -- room was made, or memory ran out
  pub kept_reserved : {X E : Type 0} (result : Result X E) (new : Slots) (digest : List ℕ) → OnOk result (new ≡ reserved_by slots digest (finite.get slots digest)) → OnErr result (new ≡ slots) → IsKept new table sets listed all_read
  kept_reserved (Ok x) new digest ok err = kept_slots slots table sets listed all_read kept new all_read (λ on. unread_reserved slots new digest table.manifests ok (kept.read on))
  kept_reserved (Err e) new digest ok err = subst (λ (s : Slots). IsKept s table sets listed all_read) (sym err) kept

  -- a pull
  pub kept_pulled : (new : Table) (moment : ℕ) (reference : Reference) → new ≡ pulled moment table reference → IsKept slots new sets listed all_read
  kept_pulled new moment reference is = subst (λ (t : Table). IsKept slots t sets listed all_read) (sym is) (split reference) where
    split : (r : Reference) → IsKept slots (pulled moment table r) sets listed all_read
    split (by.Tag tag) = kept_tags slots table sets listed all_read kept (pulled moment table (by.Tag tag)) refl (tagged_pulled moment table.manifests table.tags tag (finite.get table.tags tag) refl kept.tagged)
    split (by.Digest digest) = kept_tags slots table sets listed all_read kept (pulled moment table (by.Digest digest)) refl kept.tagged

  -- a tag went, if there was one
  pub kept_untagged : (new : Table) (tag : List ℕ) (was : Bool) → (was ≡ true → new ≡ without_tag table tag) → (was ≡ false → new ≡ table) → IsKept slots new sets listed all_read
  kept_untagged new tag true gone stays = subst (λ (t : Table). IsKept slots t sets listed all_read) (sym (gone refl)) (kept_tags slots table sets listed all_read kept (without_tag table tag) refl (tagged_untagged table tag kept.tagged))
  kept_untagged new tag false gone stays = subst (λ (t : Table). IsKept slots t sets listed all_read) (sym (stays refl)) kept

  -- a manifest went, which is listed no more
  pub kept_gone : (new : Table) (after : Sets (List ℕ)) (digest : List ℕ) (reading : Reading) → new ≡ without_manifest table digest → Removes byte_cmp (says_of reading) digest sets after → IsKept slots new after listed all_read
  kept_gone new after digest reading is removes =
      let manifests = ap (λ (t : Table). t.manifests) is in
      record {
        subjects = λ on. subjects_gone table.manifests new.manifests sets after digest reading manifests removes (kept.subjects on);
        tagged = subst (λ (t : Table). AreTagged t) (sym is) (tagged_gone table digest kept.tagged);
        read = λ on. subst (λ (m : ByteMap Kept). NoneUnread slots m) (sym manifests) (read_fewer slots table.manifests digest (kept.read on));
      }

  -- ---- a manifest was read again

  module _ (digest bytes : List ℕ) where
    some_there : (b : Bool) (q : List ℕ) (before : Kept) → eq_by_cmp byte_cmp q digest ≡ b → finite.get table.manifests digest ≡ Some before
        → is_some (cond b (Some (read_again before bytes)) (finite.get table.manifests q)) ≡ finite.contains_key table.manifests q
    some_there true q before tied here = sym (ap (finite.contains_key table.manifests) (tied_keys byte_order q digest tied) ∙ ap is_some here)
    some_there false q before apart here = refl

    -- the same manifests are there
    same_there : (q : List ℕ) → finite.contains_key (rereads table digest bytes).manifests q ≡ finite.contains_key table.manifests q
    same_there q = split (finite.get table.manifests digest) refl where
      split : (found : Option Kept) → finite.get table.manifests digest ≡ found → finite.contains_key (rereads_found table digest bytes found).manifests q ≡ finite.contains_key table.manifests q
      split None here = refl
      split (Some before) here = ap is_some (get-insert nat_list_cmp_total table.manifests digest (read_again before bytes) q) ∙ some_there (eq_by_cmp byte_cmp q digest) q before refl here

    pub kept_learned : (new : Table) (read : Slots) (after : Sets (List ℕ)) → new ≡ rereads table digest bytes → read ≡ read_by slots digest (finite.get slots digest)
        → (ListsSubjects table.manifests sets → ListsSubjects new.manifests after) → IsKept read new after listed all_read
    kept_learned new read after is are lists = record {
      subjects = λ on. lists (kept.subjects on);
      tagged = λ tag stored has.
          ap (λ (t : Table). finite.contains_key t.manifests stored.digest) is ∙ same_there stored.digest
          ∙ kept.tagged tag stored (ap (λ t. finite.get t tag) (sym (reread_tags table digest bytes)) ∙ ap (λ (t : Table). finite.get t.tags tag) (sym is) ∙ has);
      read = λ on q has.
          unread_read slots read digest table.manifests are (kept.read on) q (sym (same_there q) ∙ ap (λ (t : Table). finite.contains_key t.manifests q) (sym is) ∙ has);
    }

-- a blob arrives where room was made as where there was some
pub held_is : (moment : ℕ) (repo : RepoTable) (digest : List ℕ) (size : ℕ) → with_entry moment (reserved repo digest) digest size ≡ with_entry moment repo digest size
held_is moment repo digest size =
    ap (λ (s : Slots). record { known = true; slots = s; table = repo.table; sessions = repo.sessions })
    (filled_reserved repo.slots digest (Some (record { size = size; arrived = moment; unread = finite.contains_key repo.table.manifests digest })))
