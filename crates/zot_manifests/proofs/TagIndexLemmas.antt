-- The tags that are listed under the digests of manifests.
use Rattle.std.proofs.Common.{◌≡◌, ◌≢◌, ℕ, Bool, true, false, cond, not, List, Option, Some, None, refl, sym, ap, subst, ◌∙◌}
use Rattle.std.specs.Prelude.{◌&&◌, Result, Ok, Err, OnErr, OnOk}
use Rattle.std.specs.BTreeMap.{get, is_at}
use Rattle.std.specs.BTreeSet.{BTreeSet}
use Rattle.std.specs.Cmp.Lexicographic.{nat_list_cmp_total}
use Rattle.std.specs.FinMap as finite
use Rattle.std.specs.FinMap.{get-remove, get-retain_keys}
use Rattle.std.specs.Ordering.{eq_by_cmp}
use Rattle.std.specs.Str.{bytes_eq}
use Rattle.std.proofs.lemmas.Bool.{true≢false}
use Rattle.std.proofs.lemmas.Slice.Eq.{bytes_eq-Decides}
use Rattle.zot_digest.specs.ByteMap.{ByteMap, byte_cmp}
use Rattle.zot_manifests.proofs.IndexLemmas.{is_now, lists_insert, lists_kept, lists_remove, others_stay}
use Rattle.zot_manifests.proofs.SetLemmas.{adds_keep}
use Rattle.zot_manifests.specs.Index.{Adds, Empties, Removes, Sets, has, is_in}
use Rattle.zot_manifests.specs.Tags.{ListsTags, is_moved_from, kept_unless}
use Rattle.zot_maps.proofs.Maps.{byte_order, same_map, tied_keys}
use Rattle.zot_model.specs.Manifests.{is_tag_of, pulled_at, with_pull, without_tags_of}
use Rattle.zot_model.specs.State.{StoredTag}

-- whether a tag names a digest
abbrev pub names : StoredTag → List ℕ → Bool
names stored digest = bytes_eq stored.digest digest

-- ---- all tags stay listed

-- after a tag was set, or wasn't since memory ran out
pub lists_set : {X E : Type 0} (result : Result X E) (old new : ByteMap StoredTag) (first mid after : Sets (List ℕ)) (tag : List ℕ) (entry : StoredTag)
    → OnOk result (new ≡ finite.insert old tag entry) → OnErr result (new ≡ old) → OnErr result (finite.get old tag ≡ None)
    → Adds byte_cmp (bytes_eq entry.digest) tag first mid → Removes byte_cmp (is_moved_from entry.digest (finite.get old tag)) tag mid after → ListsTags old first → ListsTags new after
lists_set (Ok x) old new first mid after tag entry ok err absent adds removes all =
    lists_insert names old new first after tag entry ok
    (λ digest other apart h. others_stay false _ tag mid after removes digest other apart (adds_keep byte_cmp (bytes_eq entry.digest) tag first mid adds digest other h))
    (λ digest h. subst (λ d. has byte_cmp after d tag ≡ true) ((bytes_eq-Decides entry.digest digest).0 h) own) all where
      stays : (b c x : Bool) → cond ((not b && b) && c) false x ≡ x
      stays true c x = refl
      stays false c x = refl

      own : has byte_cmp after entry.digest tag ≡ true
      own =
          removes entry.digest tag ∙ stays (is_tag_of entry.digest (finite.get old tag)) (is_at (byte_cmp tag) tag) (has byte_cmp mid entry.digest tag)
          ∙ is_now true (bytes_eq entry.digest) tag first mid adds entry.digest ((bytes_eq-Decides entry.digest entry.digest).1 refl)
lists_set (Err e) old new first mid after tag entry ok err absent adds removes all =
    lists_kept names old new first after err (λ digest other h.
    removes digest other ∙ ap (λ o. cond (is_moved_from entry.digest o digest && is_at (byte_cmp tag) other) false (has byte_cmp mid digest other)) absent
    ∙ adds_keep byte_cmp (bytes_eq entry.digest) tag first mid adds digest other h) all

pub lists_removed : (old new : ByteMap StoredTag) (before after : Sets (List ℕ)) (tag : List ℕ) → new ≡ finite.remove old tag → Removes byte_cmp (λ digest. is_tag_of digest (finite.get old tag)) tag before after → ListsTags old before → ListsTags new after
lists_removed old new before after tag is removes all = lists_remove names old new before after tag is (others_stay false (λ digest. is_tag_of digest (finite.get old tag)) tag before after removes) all

-- a pull leaves each tag's digest
pub lists_pulled : (old new : ByteMap StoredTag) (sets : Sets (List ℕ)) (tag : List ℕ) (moment : ℕ) (found : Option StoredTag) → finite.get old tag ≡ found → new ≡ with_pull moment old tag found → ListsTags old sets → ListsTags new sets
lists_pulled old new sets tag moment None was is all = lists_kept names old new sets sets is (λ digest other h. h) all
lists_pulled old new sets tag moment (Some stored) was is all =
    lists_insert names old new sets sets tag (pulled_at moment stored) is (λ digest other apart h. h) (λ digest h. all tag digest stored was h) all

-- ---- the tags of a manifest go

pub get_without : (tags : ByteMap StoredTag) (digest q : List ℕ) → finite.get (without_tags_of tags digest) q ≡ cond (not (is_tag_of digest (finite.get tags q))) (finite.get tags q) None
get_without tags digest q =
    get-retain_keys tags (λ tag. not (is_tag_of digest (finite.get tags tag))) q (λ x same. ap (λ tag. not (is_tag_of digest (finite.get tags tag))) (sym (byte_order.antisymmetric q x same)))

-- a tag of a manifest is listed under its digest
listed_there : (tags : ByteMap StoredTag) (sets : Sets (List ℕ)) (digest tag : List ℕ) → ListsTags tags sets → is_tag_of digest (finite.get tags tag) ≡ true → has byte_cmp sets digest tag ≡ true
listed_there tags sets digest tag all h = split (finite.get tags tag) refl h where
  split : (found : Option StoredTag) → finite.get tags tag ≡ found → is_tag_of digest found ≡ true → has byte_cmp sets digest tag ≡ true
  split None is k = cc k
  split (Some stored) is k = all tag digest stored is k

both_gone : (c t : Bool) (x : Option StoredTag) → (t ≡ true → c ≡ true) → cond (c && t) None x ≡ cond (not t) x None
both_gone true true x h = refl
both_gone true false x h = refl
both_gone false false x h = refl
both_gone false true x h = cc (h refl)

-- where those that are listed under a digest went that are set to its manifest, all of its tags did
pub without_listed : (old new : ByteMap StoredTag) (sets : Sets (List ℕ)) (digest : List ℕ) (listed : Option (BTreeSet (List ℕ))) → ListsTags old sets → listed ≡ get byte_cmp sets digest
    → ((q : List ℕ) → finite.get new q ≡ kept_unless (is_in byte_cmp listed q) digest (finite.get old q)) → new ≡ without_tags_of old digest
without_listed old new sets digest listed all is went = same_map byte_order new (without_tags_of old digest) (λ q.
    went q ∙ both_gone (is_in byte_cmp listed q) (is_tag_of digest (finite.get old q)) (finite.get old q) (λ h. ap (λ o. is_in byte_cmp o q) is ∙ listed_there old sets digest q all h)
    ∙ sym (get_without old digest q))

-- the others are listed still
pub lists_without : (old new : ByteMap StoredTag) (before after : Sets (List ℕ)) (digest : List ℕ) → new ≡ without_tags_of old digest → Empties byte_cmp digest before after → ListsTags old before → ListsTags new after
lists_without old new before after digest is empties all tag named stored found says =
    split (is_tag_of digest (finite.get old tag)) refl (sym (get_without old digest tag) ∙ ap (λ m. finite.get m tag) (sym is) ∙ found) where
      split : (b : Bool) → is_tag_of digest (finite.get old tag) ≡ b → cond (not b) (finite.get old tag) None ≡ Some stored → has byte_cmp after named tag ≡ true
      split true of h = cc h
      split false apart h = empties named tag ∙ by (bytes_eq digest named) refl where
        by : (b : Bool) → bytes_eq digest named ≡ b → cond b false (has byte_cmp before named tag) ≡ true
        by true same =
            let is_of : bytes_eq stored.digest digest ≡ true = (bytes_eq-Decides stored.digest digest).1 ((bytes_eq-Decides stored.digest named).0 says ∙ sym ((bytes_eq-Decides digest named).0 same)) in
            absurd (true≢false (sym is_of ∙ sym (ap (is_tag_of digest) h) ∙ apart))
        by false other = all tag named stored h says

-- ---- texts one by one

-- one text that is set to a manifest goes, and another stays
pub one_gone : (old new : ByteMap StoredTag) (text digest : List ℕ) → new ≡ finite.remove old text → is_tag_of digest (finite.get old text) ≡ true → (q : List ℕ) → finite.get new q ≡ kept_unless (is_at (byte_cmp q) text) digest (finite.get old q)
one_gone old new text digest is of q = ap (λ m. finite.get m q) is ∙ get-remove nat_list_cmp_total old text q ∙ split (eq_by_cmp byte_cmp q text) refl where
  split : (b : Bool) → eq_by_cmp byte_cmp q text ≡ b → cond b None (finite.get old q) ≡ kept_unless b digest (finite.get old q)
  split true tied = ap (λ t. cond t None (finite.get old q)) (sym (ap (λ k. is_tag_of digest (finite.get old k)) (tied_keys byte_order q text tied) ∙ of))
  split false apart = refl

pub one_stays : (old : ByteMap StoredTag) (text digest : List ℕ) → is_tag_of digest (finite.get old text) ≡ false → (q : List ℕ) → finite.get old q ≡ kept_unless (is_at (byte_cmp q) text) digest (finite.get old q)
one_stays old text digest isnt q = split (eq_by_cmp byte_cmp q text) refl where
  split : (b : Bool) → eq_by_cmp byte_cmp q text ≡ b → finite.get old q ≡ kept_unless b digest (finite.get old q)
  split true tied = ap (λ t. cond t None (finite.get old q)) (sym (ap (λ k. is_tag_of digest (finite.get old k)) (tied_keys byte_order q text tied) ∙ isnt))
  split false apart = refl
