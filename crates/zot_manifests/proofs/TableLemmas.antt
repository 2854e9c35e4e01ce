-- Manifests in a table, with what they refer to.
use Rattle.std.proofs.Common.{◌≡◌, ◌≢◌, ℕ, Bool, true, false, cond, List, [], ◌∷◌, length, map, Option, Some, None, is_some, refl, sym, ap, ◌∙◌, arith}
use Rattle.std.specs.Prelude.{Result, Ok, Err, OnOk, OnErr, option_map}
use Rattle.std.specs.BTreeMap.{get}
use Rattle.std.specs.BTreeSet.{BTreeSet}
use Rattle.std.specs.Cmp.Lexicographic.{nat_list_cmp_total}
use Rattle.std.specs.FinMap as finite
use Rattle.std.specs.FinMap.{get-empty, get-entries, get-from_entries, get-insert, get-remove}
use Rattle.std.specs.FinMap.Entries.{find}
use Rattle.std.specs.List.{list_any}
use Rattle.std.specs.Ordering.{eq_by_cmp}
use Rattle.std.proofs.lemmas.Bool.{false_from_ne_true, true≢false}
use Rattle.zot_digest.specs.ByteMap.{ByteMap, byte_cmp, map_of}
use Rattle.zot_manifests.proofs.IndexLemmas.{any_listed, is_now, lists_insert, lists_kept, lists_remove, others_stay}
use Rattle.zot_manifests.proofs.SetLemmas.{adds_keep}
use Rattle.zot_manifests.specs.Index.{Adds, ListsAll, Removes, Sets, has, is_in}
use Rattle.zot_manifests.specs.Table.{is_referred, plain_manifest, plain_manifests, put_back, says}
use Rattle.zot_manifests.specs.declared.kept.Kept.{Kept}
use Rattle.zot_maps.proofs.Entries.{any_found}
use Rattle.zot_maps.proofs.Maps.{byte_order, get_elsewhere, get_here, removed_elsewhere, removed_here, same_by_key, same_key, same_map}
use Rattle.zot_media.specs.References.{refers}
use Rattle.zot_media.specs.declared.reading.Reading.{Reading}
use Rattle.zot_model.proofs.KeptLemmas.{found_any}

-- whether a manifest refers to a digest
abbrev pub referred_by : Kept → List ℕ → Bool
referred_by kept digest = refers kept.reading digest

-- ---- what the plain registry has of manifests

find_mapped : (key : List ℕ) (es : List (List ℕ × Kept)) → find byte_cmp key (map (λ entry. (entry.0, plain_manifest entry.1)) es) ≡ option_map plain_manifest (find byte_cmp key es)
find_mapped key [] = refl
find_mapped key (e ∷ es) =
    elim (eq_by_cmp byte_cmp key e.0) as (λ b. cond b (Some (plain_manifest e.1)) (find byte_cmp key (map (λ entry. (entry.0, plain_manifest entry.1)) es)) ≡ option_map plain_manifest (cond b (Some e.1) (find byte_cmp key es))) [
      | true ↦ refl
      | false ↦ find_mapped key es
    ]

pub get_plain : (manifests : ByteMap Kept) (key : List ℕ) → finite.get (plain_manifests manifests) key ≡ option_map plain_manifest (finite.get manifests key)
get_plain manifests key =
    get-from_entries nat_list_cmp_total (map (λ entry. (entry.0, plain_manifest entry.1)) (finite.entries manifests)) key
    ∙ find_mapped key (finite.entries manifests) ∙ ap (option_map plain_manifest) (sym (get-entries manifests key))

mapped_cond : (b : Bool) (x : Kept) (found : Option Kept) → option_map plain_manifest (cond b (Some x) found) ≡ cond b (Some (plain_manifest x)) (option_map plain_manifest found)
mapped_cond true x found = refl
mapped_cond false x found = refl

mapped_none : (b : Bool) (found : Option Kept) → option_map plain_manifest (cond b None found) ≡ cond b None (option_map plain_manifest found)
mapped_none true found = refl
mapped_none false found = refl

pub plain_insert : (manifests : ByteMap Kept) (key : List ℕ) (kept : Kept) → plain_manifests (finite.insert manifests key kept) ≡ finite.insert (plain_manifests manifests) key (plain_manifest kept)
plain_insert manifests key kept = same_map byte_order (plain_manifests (finite.insert manifests key kept)) (finite.insert (plain_manifests manifests) key (plain_manifest kept)) (λ q.
    get_plain (finite.insert manifests key kept) q ∙ ap (option_map plain_manifest) (get-insert nat_list_cmp_total manifests key kept q)
    ∙ mapped_cond (eq_by_cmp byte_cmp q key) kept (finite.get manifests q) ∙ ap (cond (eq_by_cmp byte_cmp q key) (Some (plain_manifest kept))) (sym (get_plain manifests q))
    ∙ sym (get-insert nat_list_cmp_total (plain_manifests manifests) key (plain_manifest kept) q))

pub plain_remove : (manifests : ByteMap Kept) (key : List ℕ) → plain_manifests (finite.remove manifests key) ≡ finite.remove (plain_manifests manifests) key
plain_remove manifests key = same_map byte_order (plain_manifests (finite.remove manifests key)) (finite.remove (plain_manifests manifests) key) (λ q.
    get_plain (finite.remove manifests key) q ∙ ap (option_map plain_manifest) (get-remove nat_list_cmp_total manifests key q)
    ∙ mapped_none (eq_by_cmp byte_cmp q key) (finite.get manifests q) ∙ ap (cond (eq_by_cmp byte_cmp q key) None) (sym (get_plain manifests q))
    ∙ sym (get-remove nat_list_cmp_total (plain_manifests manifests) key q))

pub plain_empty : plain_manifests finite.empty ≡ finite.empty
plain_empty = same_map byte_order (plain_manifests finite.empty) finite.empty (λ q. get_plain finite.empty q ∙ ap (option_map plain_manifest) (get-empty byte_cmp q) ∙ sym (get-empty byte_cmp q))

-- what was under a digest before is there again
pub put_back_is : {X : Type 0} (old mid : ByteMap X) (digest : List ℕ) (kept : X) (before : Option X) → mid ≡ finite.insert old digest kept → before ≡ finite.get old digest → put_back mid digest before ≡ old
put_back_is old mid digest kept None is was = same_by_key byte_order (finite.remove mid digest) old digest
    (removed_here byte_order mid digest ∙ was)
    (λ q apart. removed_elsewhere byte_order mid digest q apart ∙ ap (λ m. finite.get m q) is ∙ get_elsewhere byte_order old digest kept q apart)
put_back_is old mid digest kept (Some before) is was = same_by_key byte_order (finite.insert mid digest before) old digest
    (get_here byte_order mid digest before ∙ was)
    (λ q apart. get_elsewhere byte_order mid digest before q apart ∙ ap (λ m. finite.get m q) is ∙ get_elsewhere byte_order old digest kept q apart)

-- the index lists all, whether the tag was set or what was there before was put back
pub lists_put : {X E : Type 0} (P Q : Type 0) (result : Result X E) (old mid new : ByteMap Kept) (before_sets sets : Sets (List ℕ)) (digest : List ℕ) (kept : Kept) (before : Option Kept)
    → OnOk result (P × (new ≡ mid)) → OnErr result (Q × (new ≡ put_back mid digest before)) → mid ≡ finite.insert old digest kept → before ≡ finite.get old digest
    → ListsAll old before_sets → Adds byte_cmp (refers kept.reading) digest before_sets sets → ListsAll new sets
lists_put P Q (Ok x) old mid new before_sets sets digest kept before ok err is was all adds =
    lists_insert referred_by old new before_sets sets digest kept (ok.1 ∙ is) (λ named other apart h. adds_keep byte_cmp (refers kept.reading) digest before_sets sets adds named other h)
    (is_now true (refers kept.reading) digest before_sets sets adds) all
lists_put P Q (Err e) old mid new before_sets sets digest kept before ok err is was all adds =
    lists_kept referred_by old new before_sets sets (err.1 ∙ put_back_is old mid digest kept before is was) (adds_keep byte_cmp (refers kept.reading) digest before_sets sets adds) all

-- the index lists all after a manifest went
pub lists_gone : (old new : ByteMap Kept) (before after : Sets (List ℕ)) (digest : List ℕ) (reading : Reading) → new ≡ finite.remove old digest → Removes byte_cmp (refers reading) digest before after → ListsAll old before → ListsAll new after
lists_gone old new before after digest reading is removes all = lists_remove referred_by old new before after digest is (others_stay false (refers reading) digest before after removes) all

pub insert_has : (old mid : ByteMap Kept) (digest : List ℕ) (kept : Kept) → mid ≡ finite.insert old digest kept → is_some (finite.get mid digest) ≡ true
insert_has old mid digest kept is = ap (λ m. is_some (finite.get m digest)) is ∙ ap is_some (get_here byte_order old digest kept)

-- ---- what manifests refer to

said : (manifests : ByteMap Kept) (digest manifest : List ℕ) (kept : Kept) → finite.get manifests manifest ≡ Some kept → says (finite.get manifests manifest) digest ≡ refers kept.reading digest
said manifests digest manifest kept has = ap (λ o. says o digest) has

-- a manifest that says so is one that refers to the digest
pub says_referred : (manifests : ByteMap Kept) (digest manifest : List ℕ) → says (finite.get manifests manifest) digest ≡ true → is_referred manifests digest ≡ true
says_referred manifests digest manifest h = split (finite.get manifests manifest) refl h where
  split : (found : Option Kept) → finite.get manifests manifest ≡ found → says found digest ≡ true → is_referred manifests digest ≡ true
  split None has k = cc k
  split (Some kept) has k = found_any (λ (entry : List ℕ × Kept). refers entry.1.reading digest) manifests manifest kept has k

-- where none of those that are listed says so, none does
pub none_refers : (manifests : ByteMap Kept) (sets : Sets (List ℕ)) (digest : List ℕ) → ListsAll manifests sets
    → ((manifest : List ℕ) → has byte_cmp sets digest manifest ≡ true → says (finite.get manifests manifest) digest ≡ false) → is_referred manifests digest ≡ false
none_refers manifests sets digest all none = false_from_ne_true (is_referred manifests digest) (λ h.
    let found = any_found byte_order (λ (entry : List ℕ × Kept). refers entry.1.reading digest) manifests h in
    true≢false (sym (said manifests digest found.0 found.1 found.2 ∙ found.3) ∙ none found.0 (all found.0 digest found.1 found.2 found.3)))

-- what is gone already
pub removed_absent : {X : Type 0} (m : ByteMap X) (key : List ℕ) → finite.get m key ≡ None → finite.remove m key ≡ m
removed_absent m key none = same_by_key byte_order (finite.remove m key) m key (removed_here byte_order m key ∙ sym none) (λ q apart. removed_elsewhere byte_order m key q apart)

-- a tree of no entries has none
pub none_of_empty : {X : Type 0} (es : List (List ℕ × X)) → map_of es ≡ finite.empty → length es ≡ 0
none_of_empty [] h = refl
none_of_empty (e ∷ es) h =
    let has = get-from_entries nat_list_cmp_total (e ∷ es) e.0 ∙ ap (λ b. cond b (Some e.1) (find byte_cmp e.0 es)) (same_key byte_order e.0) in
    absurd (cc (sym has ∙ ap (λ m. finite.get m e.0) h ∙ get-empty byte_cmp e.0))

pub empty_of_none : {X : Type 0} (es : List (List ℕ × X)) → length es ≡ 0 → map_of es ≡ finite.empty
empty_of_none [] h = refl
empty_of_none (e ∷ es) h = absurd (omega (arith, h))

-- where none of the set's digests says so, none refers
pub none_listed : (manifests : ByteMap Kept) (sets : Sets (List ℕ)) (digest : List ℕ) (set : BTreeSet (List ℕ)) → ListsAll manifests sets → Some set ≡ get byte_cmp sets digest
    → list_any (λ manifest. says (finite.get manifests manifest) digest) set.keys ≡ false → is_referred manifests digest ≡ false
none_listed manifests sets digest set all is none =
    none_refers manifests sets digest all (λ manifest listed. false_from_ne_true (says (finite.get manifests manifest) digest) (λ h.
    true≢false (sym (any_listed (λ m. says (finite.get manifests m) digest) set.keys manifest (ap (λ o. is_in byte_cmp o manifest) is ∙ listed) h) ∙ none)))

pub none_there : (manifests : ByteMap Kept) (sets : Sets (List ℕ)) (digest : List ℕ) → ListsAll manifests sets → None ≡ get byte_cmp sets digest → is_referred manifests digest ≡ false
none_there manifests sets digest all is =
    none_refers manifests sets digest all (λ manifest listed. absurd (true≢false (sym listed ∙ ap (λ o. is_in byte_cmp o manifest) (sym is))))

none_mapped : (found : Option Kept) → option_map plain_manifest found ≡ None → found ≡ None
none_mapped None h = refl
none_mapped (Some kept) h = cc h

-- where the plain registry has no manifests, there are none
pub plain_none : (manifests : ByteMap Kept) → plain_manifests manifests ≡ finite.empty → manifests ≡ finite.empty
plain_none manifests h = same_map byte_order manifests finite.empty (λ q.
    none_mapped (finite.get manifests q) (sym (get_plain manifests q) ∙ ap (λ m. finite.get m q) h ∙ get-empty byte_cmp q) ∙ sym (get-empty byte_cmp q))
