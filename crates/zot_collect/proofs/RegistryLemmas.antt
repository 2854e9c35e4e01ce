-- What a collection removes, as steps of the plain registry.
use Rattle.std.proofs.Common.{◌≡◌, ◌≢◌, ℕ, Bool, true, false, cond, not, ◌&&◌, ◌||◌, List, [], ◌∷◌, map, Option, Some, None, option_map, refl, sym, ap, ap₂, subst, ◌∙◌, get_or, true≢false}
use Rattle.std.specs.FinMap as finite
use Rattle.std.specs.Cmp.{eq_by_cmp_equiv}
use Rattle.std.specs.FinMap.{entries, entries-from_sorted, entries_sorted, from_sorted, get-entries, get-from_sorted, get-remove, remove}
use Rattle.std.specs.FinMap.Entries.{find, find-where_key, is_sorted-where_key}
use Rattle.std.specs.List.{AllByRecursion, filter, list_any}
use Rattle.std.specs.List.Sorted.{IsStrictlySortedBy}
use Rattle.std.specs.Ordering.{eq_by_cmp, is_eq}
use Rattle.std.specs.Str.{bytes_eq}
use Rattle.std.specs.declared.cmp.Ordering.TheVariants.{Less}
use Rattle.zot_collect.proofs.LawLemmas.{and_right, any_mapped, not_true}
use Rattle.zot_collect.proofs.TestLemmas.{or_right}
use Rattle.zot_collect.proofs.SetLemmas.{ascend_filter, bytes_same, same_bytes}
use Rattle.zot_collect.specs.Registry.{rules_of, tag_row, tag_rows}
use Rattle.zot_collect.specs.Retire.{GoneManifests, gone_tags, is_tagged}
use Rattle.zot_digest.specs.ByteMap.{ByteMap, byte_cmp}
use Rattle.zot_maps.proofs.Entries.{any_found, keys_ordered}
use Rattle.zot_maps.proofs.Maps.{byte_order, removed_elsewhere, same_key, same_map}
use Rattle.zot_model.specs.Collections.{Gone, IsSwept, Retires, Sweeps, blob_rows, deletes_untagged, has_tag, manifest_row, manifest_rows, stays_tagged, without_gone}
use Rattle.zot_media.specs.References.{refers}
use Rattle.zot_model.specs.Ages.{is_aged}
use Rattle.zot_model.specs.Manifests.{reading_at, reading_by}
use Rattle.zot_model.specs.PlainBlobs.{without_blob}
use Rattle.zot_model.specs.Retire.{GoWhere, is_root}
use Rattle.zot_model.specs.State.{RepoState, Stored, StoredManifest, StoredTag}
use Rattle.zot_model.specs.Sweep.{holds, is_held, is_sweepable, swept}
use Rattle.zot_model.specs.Uploads.{Expires}
use Rattle.zot_model.specs.declared.manifest_row.ManifestRow.{ManifestRow}
use Rattle.zot_retention.specs.Kept.{is_kept}
use Rattle.zot_retention.specs.declared.policy.Policy.{Policy}
use Rattle.zot_retention.specs.declared.tag_row.TagRow.{TagRow}

-- ---- lists

-- the keys of rows that pass a test, of a list seen as rows
one_key : {X Y K : Type 0} (row : X → Y) (key : Y → K) (x : X) (xs : List X) (stays : Bool) (ys : List Y) → map key ys ≡ map (λ y. key (row y)) xs →
    map key (cond stays (row x ∷ ys) ys) ≡ map (λ y. key (row y)) (cond stays (x ∷ xs) xs)
one_key row key x xs true ys same = ap (λ ks. key (row x) ∷ ks) same
one_key row key x xs false ys same = same

keys_of_rows : {X Y K : Type 0} (row : X → Y) (key : Y → K) (test : Y → Bool) (xs : List X) →
    map key (filter test (map row xs)) ≡ map (λ x. key (row x)) (filter (λ x. test (row x)) xs)
keys_of_rows row key test [] = refl
keys_of_rows row key test (x ∷ xs) = one_key row key x (filter (λ y. test (row y)) xs) (test (row x)) (filter test (map row xs)) (keys_of_rows row key test xs)

none_pass : {X : Type 0} (xs : List X) → filter (λ _. false) xs ≡ []
none_pass [] = refl
none_pass (x ∷ xs) = none_pass xs

-- ---- retiring

tags_that_go : (policy : Option Policy) (tags : ByteMap StoredTag) (moment : ℕ) →
    map (λ (tag : List ℕ × StoredTag). tag.0) (filter (λ tag. not (stays_tagged (option_map rules_of policy) tags moment tag)) (entries tags)) ≡ gone_tags policy (tag_rows tags) moment
tags_that_go None tags moment = ap (map (λ (tag : List ℕ × StoredTag). tag.0)) (none_pass (entries tags))
tags_that_go (Some policy) tags moment =
    sym (keys_of_rows tag_row (λ (row : TagRow). row.tag) (λ row. not (is_kept policy (tag_rows tags) moment row)) (entries tags))

tagged_alike : (policy : Policy) (tags : ByteMap StoredTag) (moment : ℕ) (digest : List ℕ) →
    is_tagged (is_kept policy (tag_rows tags) moment) (tag_rows tags) digest ≡ has_tag (Some (rules_of policy)) tags moment digest
tagged_alike policy tags moment digest =
    any_mapped tag_row (λ (row : TagRow). is_kept policy (tag_rows tags) moment row && bytes_eq row.digest digest) (entries tags)

manifests_that_go : (policy : Option Policy) (tags : ByteMap StoredTag) (manifests : List ManifestRow) (moment delay : ℕ) (gone : List (List ℕ)) →
    GoneManifests policy (tag_rows tags) manifests moment delay gone
    ≡ GoWhere (deletes_untagged (option_map rules_of policy)) (is_root (has_tag (option_map rules_of policy) tags moment) moment delay) manifests gone
manifests_that_go None tags manifests moment delay gone = refl
manifests_that_go (Some policy) tags manifests moment delay gone =
    λ i. GoWhere policy.delete_untagged (is_root (λ digest. tagged_alike policy tags moment digest i) moment delay) manifests gone

pub retires : (policy : Option Policy) (moment delay : ℕ) (gone : Gone) (old new : RepoState) →
    gone.tags ≡ gone_tags policy (tag_rows old.tags) moment → GoneManifests policy (tag_rows old.tags) (manifest_rows old) moment delay gone.manifests →
    Expires moment delay old.sessions new.sessions → new ≡ without_gone old gone new.sessions → Retires moment (option_map rules_of policy) delay gone old new
retires policy moment delay gone old new tags manifests sessions left = record {
  tags = tags ∙ sym (tags_that_go policy old.tags moment);
  manifests = coe 0 1 (i. manifests_that_go policy old.tags (manifest_rows old) moment delay gone.manifests i) manifests;
  sessions = sessions;
  left = left;
}

pub no_others : (policy : Option Policy) (moment delay : ℕ) (gone : Gone) (old new : RepoState) → Retires moment (option_map rules_of policy) delay gone old new →
    (gone.tags ≡ gone_tags policy (tag_rows old.tags) moment) × GoneManifests policy (tag_rows old.tags) (manifest_rows old) moment delay gone.manifests
no_others policy moment delay gone old new r = (
  r.tags ∙ tags_that_go policy old.tags moment,
  coe 1 0 (i. manifests_that_go policy old.tags (manifest_rows old) moment delay gone.manifests i) r.manifests,
)

-- ---- sweeping

-- a blob with the moment at which it arrived
abbrev blob_row : List ℕ × Stored → List ℕ × ℕ
blob_row entry = (entry.0, entry.1.arrived)

-- a blob of the repository may be removed
abbrev may_go : List ManifestRow → ℕ → ℕ → List ℕ × Stored → Bool
may_go manifests moment delay entry = is_sweepable manifests moment delay (blob_row entry)

-- the digests of those that may, by their entries
by_entries : (manifests : List ManifestRow) (repo : RepoState) (moment delay : ℕ) →
    swept manifests (blob_rows repo) moment delay ≡ map (λ (e : List ℕ × Stored). e.0) (filter (may_go manifests moment delay) (entries repo.blobs))
by_entries manifests repo moment delay = keys_of_rows blob_row (λ (blob : List ℕ × ℕ). blob.0) (is_sweepable manifests moment delay) (entries repo.blobs)

-- the first of the keys of what passes is one
module _ {X : Type 0} (test : List ℕ × X → Bool) (first : List ℕ) (others : List (List ℕ)) where
  one_is_there : (e : List ℕ × X) (es : List (List ℕ × X)) (b rest : Bool) → map (λ e. e.0) (cond b (e ∷ es) es) ≡ first ∷ others →
      (map (λ e. e.0) es ≡ first ∷ others → rest ≡ true) → ((bytes_eq e.0 first && b) || rest) ≡ true
  one_is_there e es true rest h later = ap (λ same. (same && true) || rest) (same_bytes e.0 first (ap (λ keys. get_or keys 0 first) h))
  one_is_there e es false rest h later = or_right (bytes_eq e.0 first && false) rest (later h)

  first_is_there : (es : List (List ℕ × X)) → map (λ e. e.0) (filter test es) ≡ first ∷ others → list_any (λ e. bytes_eq e.0 first && test e) es ≡ true
  first_is_there [] h = cc h
  first_is_there (e ∷ es) h = one_is_there e (filter test es) (test e) (list_any (λ e. bytes_eq e.0 first && test e) es) h (first_is_there es)

and_left : (a b : Bool) → (a && b) ≡ true → a ≡ true
and_left true b h = refl
and_left false b h = h

-- the first may be removed
pub first_sweeps : (moment delay : ℕ) (digest : List ℕ) (digests : List (List ℕ)) (repo : RepoState) →
    swept (manifest_rows repo) (blob_rows repo) moment delay ≡ digest ∷ digests → Sweeps moment delay digest repo (without_blob repo digest)
first_sweeps moment delay digest digests repo h =
    let test = may_go (manifest_rows repo) moment delay in
    let found = any_found byte_order (λ e. bytes_eq e.0 digest && test e) repo.blobs
    (first_is_there test digest digests (entries repo.blobs) (sym (by_entries (manifest_rows repo) repo moment delay) ∙ h)) in
    let same = bytes_same found.0 digest (and_left (bytes_eq found.0 digest) (test (found.0, found.1)) found.3) in
    record {
      stored = found.1;
      here = ap (finite.get repo.blobs) (sym same) ∙ found.2;
      may = ap (λ key. test (key, found.1)) (sym same) ∙ and_right (bytes_eq found.0 digest) (test (found.0, found.1)) found.3;
      left = refl;
    }

-- ---- what manifests say after a blob went that is none

neither : (a b : Bool) → (a || b) ≡ false → (a ≡ false) × (b ≡ false)
neither true b h = absurd (true≢false h)
neither false b h = (refl, h)

same_row : (repo : RepoState) (digest : List ℕ) (entry : List ℕ × StoredManifest) → bytes_eq entry.0 digest ≡ false →
    manifest_row (without_blob repo digest) entry ≡ manifest_row repo entry
same_row repo digest entry apart =
    ap (λ stored. record { digest = entry.0; media = entry.1.media; arrived = entry.1.arrived; reading = reading_by entry.1 stored })
    (removed_elsewhere byte_order repo.blobs digest entry.0 (λ is. true≢false (sym (same_bytes entry.0 digest is) ∙ apart)))

same_rows : (repo : RepoState) (digest : List ℕ) (es : List (List ℕ × StoredManifest)) → is_held (map (manifest_row repo) es) digest ≡ false →
    map (manifest_row (without_blob repo digest)) es ≡ map (manifest_row repo) es
same_rows repo digest [] h = refl
same_rows repo digest (e ∷ es) h =
    let parts = neither (holds (manifest_row repo e) digest) (is_held (map (manifest_row repo) es) digest) h in
    ap₂ (λ row rows. row ∷ rows)
    (same_row repo digest e (neither (bytes_eq e.0 digest) (refers (reading_at repo e.0 e.1) digest) parts.0).0)
    (same_rows repo digest es parts.1)

-- ---- the others

one_of_both : {X : Type 0} (p : X → Bool) (x : X) (ys zs : List X) (b : Bool) → filter p ys ≡ zs → filter p (cond b (x ∷ ys) ys) ≡ cond (b && p x) (x ∷ zs) zs
one_of_both p x ys zs true same = ap (λ l. cond (p x) (x ∷ l) l) same
one_of_both p x ys zs false same = same

both_tests : {X : Type 0} (p q : X → Bool) (xs : List X) → filter p (filter q xs) ≡ filter (λ x. q x && p x) xs
both_tests p q [] = refl
both_tests p q (x ∷ xs) = one_of_both p x (filter q xs) (filter (λ x. q x && p x) xs) (q x) (both_tests p q xs)

and_turned : (a b : Bool) → (a && b) ≡ (b && a)
and_turned true true = refl
and_turned true false = refl
and_turned false true = refl
and_turned false false = refl

turned_tests : {X : Type 0} (p q : X → Bool) (xs : List X) → filter p (filter q xs) ≡ filter q (filter p xs)
turned_tests p q xs = both_tests p q xs ∙ (λ i. filter (λ x. and_turned (q x) (p x) i) xs) ∙ sym (both_tests q p xs)

one_mapped : {X Y : Type 0} (f : X → Y) (q : Y → Bool) (x : X) (xs : List X) (ys : List Y) (b : Bool) → map f xs ≡ ys → map f (cond b (x ∷ xs) xs) ≡ cond b (f x ∷ ys) ys
one_mapped f q x xs ys true same = ap (λ l. f x ∷ l) same
one_mapped f q x xs ys false same = same

mapped_tests : {X Y : Type 0} (f : X → Y) (q : Y → Bool) (xs : List X) → map f (filter (λ x. q (f x)) xs) ≡ filter q (map f xs)
mapped_tests f q [] = refl
mapped_tests f q (x ∷ xs) = one_mapped f q x (filter (λ x. q (f x)) xs) (filter q (map f xs)) (q (f x)) (mapped_tests f q xs)

-- whether a digest isn't this one
abbrev isnt : List ℕ → List ℕ → Bool
isnt digest other = not (eq_by_cmp byte_cmp digest other)

not_cond : {X : Type 0} (b : Bool) (found : Option X) → cond b None found ≡ cond (not b) found None
not_cond true found = refl
not_cond false found = refl

entries_without : {X : Type 0} (m : ByteMap X) (digest : List ℕ) → entries (remove m digest) ≡ filter (λ e. isnt digest e.0) (entries m)
entries_without m digest =
    let sorted = is_sorted-where_key byte_cmp (isnt digest) (entries m) (entries_sorted m) in
    let kept = filter (λ e. isnt digest e.0) (entries m) in
    ap entries (same_map byte_order (remove m digest) (from_sorted kept) (λ q.
    get-remove byte_order.total m digest q
    ∙ ap₂ (λ same found. cond same None found) ((eq_by_cmp_equiv byte_order.total).symm q digest) (get-entries m q)
    ∙ not_cond (eq_by_cmp byte_cmp digest q) (find byte_cmp q (entries m))
    ∙ sym (get-from_sorted byte_cmp kept q sorted
    ∙ find-where_key byte_cmp (isnt digest) q (λ x tied. ap (isnt digest) (sym (byte_order.antisymmetric q x tied))) (entries m))))
    ∙ entries-from_sorted byte_cmp kept sorted

others_pass : (digest : List ℕ) (digests : List (List ℕ)) → AllByRecursion (λ y. byte_cmp digest y ≡ Less) digests → filter (isnt digest) digests ≡ digests
others_pass digest [] above = refl
others_pass digest (other ∷ digests) above =
    ap (λ order. cond (not (is_eq order)) (other ∷ filter (isnt digest) digests) (filter (isnt digest) digests)) above.0
    ∙ ap (λ l. other ∷ l) (others_pass digest digests above.1)

first_fails : (digest : List ℕ) (digests : List (List ℕ)) → filter (isnt digest) (digest ∷ digests) ≡ filter (isnt digest) digests
first_fails digest digests = ap (λ same. cond (not same) (digest ∷ filter (isnt digest) digests) (filter (isnt digest) digests)) (same_key byte_order digest)

-- of digests that ascend the first is left out
without_first : (digest : List ℕ) (digests : List (List ℕ)) → IsStrictlySortedBy byte_cmp (digest ∷ digests) → filter (isnt digest) (digest ∷ digests) ≡ digests
unfolding IsStrictlySortedBy
without_first digest digests up = first_fails digest digests ∙ others_pass digest digests up.0

-- when the first is gone, the others may be removed and no more
pub others_left : (moment delay : ℕ) (digest : List ℕ) (digests : List (List ℕ)) (repo : RepoState) →
    swept (manifest_rows repo) (blob_rows repo) moment delay ≡ digest ∷ digests →
    swept (manifest_rows (without_blob repo digest)) (blob_rows (without_blob repo digest)) moment delay ≡ digests
others_left moment delay digest digests repo h =
    let rows = manifest_rows repo in
    let test = may_go rows moment delay in
    let step = first_sweeps moment delay digest digests repo h in
    let held = not_true (is_held rows digest) (and_right (is_aged moment delay step.stored.arrived) (not (is_held rows digest)) step.may) in
    let shown = sym (by_entries rows repo moment delay) ∙ h in
    ap (λ manifests. swept manifests (blob_rows (without_blob repo digest)) moment delay) (same_rows repo digest (entries repo.manifests) held)
    ∙ by_entries rows (without_blob repo digest) moment delay
    ∙ ap (λ es. map (λ (e : List ℕ × Stored). e.0) (filter test es)) (entries_without repo.blobs digest)
    ∙ ap (map (λ (e : List ℕ × Stored). e.0)) (turned_tests test (λ e. isnt digest e.0) (entries repo.blobs))
    ∙ mapped_tests (λ (e : List ℕ × Stored). e.0) (isnt digest) (filter test (entries repo.blobs))
    ∙ ap (filter (isnt digest)) shown
    ∙ without_first digest digests (subst (λ keys. IsStrictlySortedBy byte_cmp keys) shown
    (ascend_filter (λ (e : List ℕ × Stored). e.0) test (entries repo.blobs) (keys_ordered byte_cmp repo.blobs)))

pub none_left : (moment delay : ℕ) (repo : RepoState) → swept (manifest_rows repo) (blob_rows repo) moment delay ≡ [] → IsSwept moment delay repo repo
none_left moment delay repo none = record { none = none; stays = refl }
