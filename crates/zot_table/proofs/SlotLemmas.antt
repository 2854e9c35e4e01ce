-- What is under the digests of a repository's blobs.
use Rattle.std.proofs.Common.{◌≡◌, ℕ, Bool, true, false, cond, List, Option, Some, None, is_some, refl, sym, ap, subst, ◌∙◌}
use Rattle.std.specs.Prelude.{IsSome}
use Rattle.std.specs.BTreeMap.{is_at}
use Rattle.std.specs.Cmp.Lexicographic.{nat_list_cmp_total}
use Rattle.std.specs.FinMap as finite
use Rattle.std.specs.FinMap.{get-insert, get-remove}
use Rattle.std.specs.Map.{lookup}
use Rattle.std.specs.Ordering.{eq_by_cmp}
use Rattle.zot_digest.specs.ByteMap.{ByteMap, byte_cmp, map_of}
use Rattle.zot_manifests.specs.declared.kept.Kept.{Kept}
use Rattle.zot_maps.proofs.Maps.{byte_order, found_at, get_elsewhere, get_here, same_by_key, tied_keys}
use Rattle.zot_table.specs.Changes.{read_by, reserved_by, settled_by}
use Rattle.zot_table.specs.Keeping.{NoneUnread}
use Rattle.zot_table.specs.Tables.{Slots, entry_at, filled, is_unread}
use Rattle.zot_table.specs.declared.blob_entry.BlobEntry.{BlobEntry}

is_none : {X : Type 0} (found : Option X) → found ≡ None → ¬ (IsSome found)
is_none None h is = cc is
is_none (Some x) h is = cc h

-- what a tree hasn't isn't there
pub not_there : (es : List (List ℕ × Option BlobEntry)) (slots : Slots) (digest : List ℕ) → map_of es ≡ slots → None ≡ lookup (is_at (byte_cmp digest)) es → ¬ (IsSome (finite.get slots digest))
not_there es slots digest is none = is_none (finite.get slots digest) (found_at byte_order es slots digest None is none)

-- where there is no room, some is made
pub reserved_new : (slots : Slots) (digest : List ℕ) → finite.contains_key slots digest ≡ false → finite.insert slots digest None ≡ reserved_by slots digest (finite.get slots digest)
reserved_new slots digest h = split (finite.get slots digest) h where
  split : (found : Option (Option BlobEntry)) → is_some found ≡ false → finite.insert slots digest None ≡ reserved_by slots digest found
  split None k = refl
  split (Some slot) k = cc k

-- ---- what is kept of blobs after a change

unread_as : (slots : Slots) (q : List ℕ) (found : Option (Option BlobEntry)) → finite.get slots q ≡ found → is_unread (entry_at slots q) ≡ is_unread (filled found)
unread_as slots q found is = ap (λ o. is_unread (filled o)) is

module _ (old new : Slots) (digest : List ℕ) where
  -- another digest has what it had
  beside : (slot : Option BlobEntry) (q : List ℕ) (b : Bool) → eq_by_cmp byte_cmp q digest ≡ b → (finite.get (finite.insert old digest slot) q ≡ cond b (Some slot) (finite.get old q))
  beside slot q b is = get-insert nat_list_cmp_total old digest slot q ∙ ap (λ t. cond t (Some slot) (finite.get old q)) is

  module _ (manifests : ByteMap Kept) where
    -- a slot is set whose bytes were read, or that has no manifest
    pub unread_set : (slot : Option BlobEntry) → new ≡ finite.insert old digest slot → (finite.contains_key manifests digest ≡ true → is_unread slot ≡ false) → NoneUnread old manifests → NoneUnread new manifests
    unread_set slot is own none q has = split (eq_by_cmp byte_cmp q digest) refl where
      split : (b : Bool) → eq_by_cmp byte_cmp q digest ≡ b → is_unread (entry_at new q) ≡ false
      split true tied =
          ap (λ (s : Slots). is_unread (entry_at s q)) is ∙ ap (λ o. is_unread (filled o)) (beside slot q true tied)
          ∙ own (ap (finite.contains_key manifests) (sym (tied_keys byte_order q digest tied)) ∙ has)
      split false apart = ap (λ (s : Slots). is_unread (entry_at s q)) is ∙ ap (λ o. is_unread (filled o)) (beside slot q false apart) ∙ none q has

    -- a slot goes
    pub unread_gone : new ≡ finite.remove old digest → NoneUnread old manifests → NoneUnread new manifests
    unread_gone is none q has =
        ap (λ (s : Slots). is_unread (entry_at s q)) is ∙ ap (λ o. is_unread (filled o)) (get-remove nat_list_cmp_total old digest q) ∙ split (eq_by_cmp byte_cmp q digest) where
          split : (b : Bool) → is_unread (filled (cond b None (finite.get old q))) ≡ false
          split true = refl
          split false = none q has

    unread_same : new ≡ old → NoneUnread old manifests → NoneUnread new manifests
    unread_same is none q has = ap (λ (s : Slots). is_unread (entry_at s q)) is ∙ none q has

    -- room is made, or goes
    pub unread_reserved : new ≡ reserved_by old digest (finite.get old digest) → NoneUnread old manifests → NoneUnread new manifests
    unread_reserved is = split (finite.get old digest) is where
      split : (found : Option (Option BlobEntry)) → new ≡ reserved_by old digest found → NoneUnread old manifests → NoneUnread new manifests
      split None k = unread_set None k (λ _. refl)
      split (Some slot) k = unread_same k

    pub unread_settled : new ≡ settled_by old digest (finite.get old digest) → NoneUnread old manifests → NoneUnread new manifests
    unread_settled is = split (finite.get old digest) is where
      split : (found : Option (Option BlobEntry)) → new ≡ settled_by old digest found → NoneUnread old manifests → NoneUnread new manifests
      split None k = unread_same k
      split (Some None) k = unread_gone k
      split (Some (Some entry)) k = unread_same k

    -- the bytes of a blob were read
    pub unread_read : new ≡ read_by old digest (finite.get old digest) → NoneUnread old manifests → NoneUnread new manifests
    unread_read is = split (finite.get old digest) is where
      split : (found : Option (Option BlobEntry)) → new ≡ read_by old digest found → NoneUnread old manifests → NoneUnread new manifests
      split None k = unread_same k
      split (Some None) k = unread_same k
      split (Some (Some entry)) k = unread_set (Some (record { size = entry.size; arrived = entry.arrived; unread = false })) k (λ _. refl)

  -- of a blob whose bytes were read, they say nothing else
  pub read_here : new ≡ read_by old digest (finite.get old digest) → is_unread (entry_at new digest) ≡ false
  read_here is = split (finite.get old digest) refl is where
    split : (found : Option (Option BlobEntry)) → finite.get old digest ≡ found → new ≡ read_by old digest found → is_unread (entry_at new digest) ≡ false
    split None has k = ap (λ (s : Slots). is_unread (entry_at s digest)) k ∙ unread_as old digest None has
    split (Some None) has k = ap (λ (s : Slots). is_unread (entry_at s digest)) k ∙ unread_as old digest (Some None) has
    split (Some (Some entry)) has k =
        ap (λ (s : Slots). is_unread (entry_at s digest)) k
        ∙ ap (λ o. is_unread (filled o)) (get_here byte_order old digest (Some (record { size = entry.size; arrived = entry.arrived; unread = false })))

-- where room was made there is some
pub reserved_room : (old new : Slots) (digest : List ℕ) → new ≡ reserved_by old digest (finite.get old digest) → IsSome (finite.get new digest)
reserved_room old new digest is = split (finite.get old digest) refl is where
  split : (found : Option (Option BlobEntry)) → finite.get old digest ≡ found → new ≡ reserved_by old digest found → IsSome (finite.get new digest)
  split None has k = subst (λ o. IsSome o) (sym (ap (λ (s : Slots). finite.get s digest) k ∙ get_here byte_order old digest None)) refl
  split (Some slot) has k = subst (λ o. IsSome o) (sym (ap (λ (s : Slots). finite.get s digest) k ∙ has)) refl

-- a blob that arrives where room was made arrives as where there was some
pub filled_reserved : (slots : Slots) (digest : List ℕ) (slot : Option BlobEntry) → finite.insert (reserved_by slots digest (finite.get slots digest)) digest slot ≡ finite.insert slots digest slot
filled_reserved slots digest slot = split (finite.get slots digest) where
  split : (found : Option (Option BlobEntry)) → finite.insert (reserved_by slots digest found) digest slot ≡ finite.insert slots digest slot
  split None = same_by_key byte_order (finite.insert (finite.insert slots digest None) digest slot) (finite.insert slots digest slot) digest
      (get_here byte_order (finite.insert slots digest None) digest slot ∙ sym (get_here byte_order slots digest slot))
      (λ q apart. get_elsewhere byte_order (finite.insert slots digest None) digest slot q apart ∙ get_elsewhere byte_order slots digest None q apart ∙ sym (get_elsewhere byte_order slots digest slot q apart))
  split (Some old) = refl
