-- What is listed under a digest, of a map whose index it is.
use Rattle.std.proofs.Common.{◌≡◌, ◌≢◌, ℕ, ◌+◌, ◌<◌, ◌≤◌, Bool, true, false, cond, List, [], ◌∷◌, ◌++◌, length, get_or, take, Some, None, refl, sym, ap, ◌∙◌, add-one, unwrap_or}
use Rattle.std.specs.Prelude.{◌||◌, ◌&&◌}
use Rattle.std.specs.BTreeMap.{is_at}
use Rattle.std.specs.Cmp.Lexicographic.{nat_list_cmp_total}
use Rattle.std.specs.FinMap as finite
use Rattle.std.specs.FinMap.{get-empty, get-insert, get-remove}
use Rattle.std.specs.List.{list_any}
use Rattle.std.specs.Ordering.{eq_by_cmp}
use Rattle.std.specs.Str.{bytes_eq}
use Rattle.std.proofs.Math.Bool.{or-false}
use Rattle.std.proofs.Math.Seq.{take-suc}
use Rattle.std.proofs.lemmas.Bool.{or_left, or_right, true≢false}
use Rattle.std.proofs.lemmas.List.{take_all}
use Rattle.std.proofs.lemmas.List.Folds.{list_any-append}
use Rattle.zot_digest.specs.ByteMap.{ByteMap, byte_cmp}
use Rattle.zot_manifests.proofs.SetLemmas.{changed_alike, changed_both}
use Rattle.zot_manifests.specs.Index.{Changes, KeepsAll, ListsNamed, Sets, has}
use Rattle.zot_maps.proofs.Maps.{byte_order, other_key, same_key, tied_keys}
use Rattle.zot_media.specs.References.{has_digest, refers}
use Rattle.zot_media.specs.declared.descriptor.Descriptor.{Descriptor}
use Rattle.zot_media.specs.declared.reading.Reading.{Reading}

-- a digest of a set passes a test, so one of them does
pub any_listed : (test : List ℕ → Bool) (keys : List (List ℕ)) (digest : List ℕ) → list_any (is_at (byte_cmp digest)) keys ≡ true → test digest ≡ true → list_any test keys ≡ true
any_listed test [] digest h passes = cc h
any_listed test (key ∷ keys) digest h passes =
    elim (is_at (byte_cmp digest) key) as (λ b. is_at (byte_cmp digest) key ≡ b → (b || list_any (is_at (byte_cmp digest)) keys) ≡ true → (test key || list_any test keys) ≡ true) [
      | true ↦ λ tied _. or_left (test key) (list_any test keys) (ap test (sym (tied_keys byte_order digest key tied)) ∙ passes)
      | false ↦ λ apart k. or_right (test key) (list_any test keys) (any_listed test keys digest k passes)
    ] refl h

-- the digests of the first descriptors, and of one more
pub digest_more : (descriptors : List Descriptor) (i : ℕ) (x : Descriptor) → i < length descriptors → x ≡ get_or descriptors i x → (q : List ℕ) → (has_digest q (take i descriptors) || bytes_eq x.digest q) ≡ has_digest q (take (i + 1) descriptors)
digest_more descriptors i x below is q =
    ap (λ b. has_digest q (take i descriptors) || b) (sym (or-false (bytes_eq x.digest q)))
    ∙ sym (ap (λ n. has_digest q (take n descriptors)) (add-one i) ∙ ap (has_digest q) (take-suc descriptors i x below ∙ ap (λ y. take i descriptors ++ y ∷ []) (sym is))
    ∙ list_any-append (λ (d : Descriptor). bytes_eq d.digest q) (take i descriptors) (x ∷ []))

module _ (now : Bool) (value : List ℕ) (old mid new : Sets (List ℕ)) where
  pub one_digest_more : (descriptors : List Descriptor) (i : ℕ) (x : Descriptor) → i < length descriptors → x ≡ get_or descriptors i x
      → Changes byte_cmp now (λ q. has_digest q (take i descriptors)) value old mid → Changes byte_cmp now (bytes_eq x.digest) value mid new → Changes byte_cmp now (λ q. has_digest q (take (i + 1) descriptors)) value old new
  one_digest_more descriptors i x below is one more =
      changed_alike byte_cmp now value (λ q. has_digest q (take i descriptors) || bytes_eq x.digest q) (λ q. has_digest q (take (i + 1) descriptors)) old new (digest_more descriptors i x below is)
      (changed_both byte_cmp now value (λ q. has_digest q (take i descriptors)) (bytes_eq x.digest) old mid new one more)

  -- what a manifest refers to are its references and its children
  pub by_reading : (reading : Reading) (references children : List Descriptor) → references ≡ reading.references → children ≡ reading.children
      → Changes byte_cmp now (λ q. has_digest q references) value old mid → Changes byte_cmp now (λ q. has_digest q children) value mid new → Changes byte_cmp now (refers reading) value old new
  unfolding refers
  by_reading reading references children r c one more =
      changed_alike byte_cmp now value (λ q. has_digest q references || has_digest q children) (λ q. has_digest q reading.references || has_digest q reading.children) old new
      (λ q. ap (λ ds. has_digest q ds || has_digest q children) r ∙ ap (λ ds. has_digest q reading.references || has_digest q ds) c)
      (changed_both byte_cmp now value (λ q. has_digest q references) (λ q. has_digest q children) old mid new one more)

-- the digests of all descriptors
pub all_digests : (now : Bool) (value : List ℕ) (old new : Sets (List ℕ)) (descriptors : List Descriptor) (i : ℕ) → length descriptors ≤ i
    → Changes byte_cmp now (λ q. has_digest q (take i descriptors)) value old new → Changes byte_cmp now (λ q. has_digest q descriptors) value old new
all_digests now value old new descriptors i all h =
    changed_alike byte_cmp now value (λ q. has_digest q (take i descriptors)) (λ q. has_digest q descriptors) old new (λ q. ap (has_digest q) (take_all i descriptors all)) h

-- ---- one value under digests

module _ (now : Bool) (passes : List ℕ → Bool) (value : List ℕ) (before after : Sets (List ℕ)) where
  -- of other values all is as it was
  pub others_stay : Changes byte_cmp now passes value before after → (named other : List ℕ) → other ≢ value → has byte_cmp before named other ≡ true → has byte_cmp after named other ≡ true
  others_stay all named other apart h =
      all named other ∙ ap (λ b. cond (passes named && b) now (has byte_cmp before named other)) (other_key byte_order value other (λ same. apart (sym same)))
      ∙ nothing (passes named) ∙ h where
        nothing : (b : Bool) → cond (b && false) now (has byte_cmp before named other) ≡ has byte_cmp before named other
        nothing true = refl
        nothing false = refl

  -- the value is as said
  pub is_now : Changes byte_cmp now passes value before after → (named : List ℕ) → passes named ≡ true → has byte_cmp after named value ≡ now
  is_now all named h =
      all named value ∙ ap (λ b. cond (b && is_at (byte_cmp value) value) now (has byte_cmp before named value)) h
      ∙ ap (λ b. cond b now (has byte_cmp before named value)) (same_key byte_order value)

-- ---- the index of a map

same_some : {X : Type 0} (x y : X) → Some x ≡ Some y → x ≡ y
same_some x y h = ap (λ o. unwrap_or o x) h

apart_keys : (key other : List ℕ) → eq_by_cmp byte_cmp other key ≡ false → other ≢ key
apart_keys key other apart same = true≢false (sym (same_key byte_order key) ∙ ap (λ k. eq_by_cmp byte_cmp k key) (sym same) ∙ apart)

-- what is listed of other keys than this one is listed still
abbrev pub KeepsOthersOf : List ℕ → Sets (List ℕ) → Sets (List ℕ) → Type 0
KeepsOthersOf key before after = (named other : List ℕ) → other ≢ key → has byte_cmp before named other ≡ true → has byte_cmp after named other ≡ true

module _ {X : Type 0} (names : X → List ℕ → Bool) where
  pub lists_none : (m : ByteMap X) (sets : Sets (List ℕ)) → m ≡ finite.empty → ListsNamed names m sets
  lists_none m sets is key named x found says = cc (sym found ∙ ap (λ n. finite.get n key) is ∙ get-empty byte_cmp key)

  pub lists_kept : (old new : ByteMap X) (before after : Sets (List ℕ)) → new ≡ old → KeepsAll byte_cmp before after → ListsNamed names old before → ListsNamed names new after
  lists_kept old new before after is keeps all key named x found says = keeps named key (all key named x (ap (λ m. finite.get m key) (sym is) ∙ found) says)

  pub lists_insert : (old new : ByteMap X) (before after : Sets (List ℕ)) (key : List ℕ) (x : X) → new ≡ finite.insert old key x → KeepsOthersOf key before after
      → ((named : List ℕ) → names x named ≡ true → has byte_cmp after named key ≡ true) → ListsNamed names old before → ListsNamed names new after
  lists_insert old new before after key x is others own all other named y found says =
      split (eq_by_cmp byte_cmp other key) refl (sym (get-insert nat_list_cmp_total old key x other) ∙ ap (λ m. finite.get m other) (sym is) ∙ found) where
        split : (b : Bool) → eq_by_cmp byte_cmp other key ≡ b → cond b (Some x) (finite.get old other) ≡ Some y → has byte_cmp after named other ≡ true
        split true tied h = ap (has byte_cmp after named) (tied_keys byte_order other key tied) ∙ own named (ap (λ z. names z named) (same_some x y h) ∙ says)
        split false apart h = others named other (apart_keys key other apart) (all other named y h says)

  pub lists_remove : (old new : ByteMap X) (before after : Sets (List ℕ)) (key : List ℕ) → new ≡ finite.remove old key → KeepsOthersOf key before after → ListsNamed names old before → ListsNamed names new after
  lists_remove old new before after key is others all other named y found says =
      split (eq_by_cmp byte_cmp other key) refl (sym (get-remove nat_list_cmp_total old key other) ∙ ap (λ m. finite.get m other) (sym is) ∙ found) where
        split : (b : Bool) → eq_by_cmp byte_cmp other key ≡ b → cond b None (finite.get old other) ≡ Some y → has byte_cmp after named other ≡ true
        split true tied h = cc h
        split false apart h = others named other (apart_keys key other apart) (all other named y h says)
