-- Which manifests are left to be read, and what the table says where none is.
use Rattle.std.proofs.Common.{◌≡◌, ◌≢◌, ◌⊎◌, inl, inr, ℕ, zero, suc, ◌<◌, ◌≤◌, Bool, true, false, cond, List, [], ◌∷◌, length, map, Option, Some, None, is_some, unwrap_or, refl, sym, ap, subst, ◌∙◌, arith}
use Rattle.std.specs.Prelude.{◌||◌, option_map}
use Rattle.std.specs.FinMap as finite
use Rattle.std.specs.FinMap.{contains_key-keys, get-entries}
use Rattle.std.specs.FinMap.Entries.{find}
use Rattle.std.specs.List.{Contains, filter, list_any}
use Rattle.std.specs.List.Sorted.{IsStrictlySortedBy}
use Rattle.std.specs.Map.{keys_of}
use Rattle.std.specs.Ordering.{eq_by_cmp}
use Rattle.std.proofs.lemmas.Bool.{true≢false}
use Rattle.zot_digest.specs.ByteMap.{ByteMap, byte_cmp}
use Rattle.zot_manifests.proofs.TableLemmas.{get_plain}
use Rattle.zot_manifests.specs.Table.{is_referred as is_kept_referred, plain_manifest, plain_manifests}
use Rattle.zot_manifests.specs.declared.kept.Kept.{Kept}
use Rattle.zot_maps.proofs.Entries.{AllFound, all_found, any_found, entries_of_map, keys_ordered}
use Rattle.zot_maps.proofs.Maps.{byte_order, same_key, tied_keys}
use Rattle.zot_media.specs.References.{refers}
use Rattle.zot_media.specs.Referrers.{Pushed}
use Rattle.zot_media.specs.declared.reading.Reading.{Reading}
use Rattle.zot_model.proofs.KeptLemmas.{found_any}
use Rattle.zot_model.specs.Manifests.{is_needed, is_referred, reading_at, reading_by}
use Rattle.zot_model.specs.PlainReferrers.{pushed_in, size_at as plain_size}
use Rattle.zot_model.specs.State.{RepoState, StoredManifest}
use Rattle.zot_referrers.specs.Listing.{all_pushed, pushed_as}
use Rattle.zot_table.proofs.EntryLemmas.{at_each}
use Rattle.zot_table.proofs.StandingLemmas.{as_read, get_blob, read_elsewhere, read_here, reread_elsewhere, reread_is, size_held, sizes_are, slots_read}
use Rattle.zot_table.specs.Changes.{learned}
use Rattle.zot_table.specs.Repository.{rereads}
use Rattle.zot_table.specs.Standing.{Agrees, AllRead, FitsEntry, Holds, IsReadOf, as_stored, repo_of, stored_by}
use Rattle.zot_table.specs.Tables.{RepoTable, entry_at, is_needed_in, is_unread, size_at, unread_in}
use Rattle.zot_table.specs.declared.blob_entry.BlobEntry.{BlobEntry}

-- ---- where all are read

same_reading : (kept : Kept) (entry : Option BlobEntry) (found : Option (List ℕ)) → FitsEntry entry found → reading_by (plain_manifest kept) (as_stored found) ≡ reading_by (plain_manifest kept) (stored_by entry found)
same_reading kept None found h = ap (λ o. reading_by (plain_manifest kept) (as_stored o)) h
same_reading kept (Some entry) None h = absurd h
same_reading kept (Some entry) (Some bytes) h = refl

reading_of : (kept : Kept) (entry : Option BlobEntry) (found : Option (List ℕ)) → FitsEntry entry found → IsReadOf kept entry found → (is_unread entry ≡ true → ⊥) → kept.reading ≡ reading_by (plain_manifest kept) (stored_by entry found)
reading_of kept entry found fits (inl unread) isnt = absurd (isnt unread)
reading_of kept entry found fits (inr is) isnt = is ∙ same_reading kept entry found fits

same_test : (a b : Bool) → (a ≡ true → b ≡ true) → (b ≡ true → a ≡ true) → a ≡ b
same_test true b f g = sym (f refl)
same_test false true f g = g refl
same_test false false f g = refl

contains_plain : (manifests : ByteMap Kept) (digest : List ℕ) → finite.contains_key (plain_manifests manifests) digest ≡ finite.contains_key manifests digest
contains_plain manifests digest = ap is_some (get_plain manifests digest) ∙ mapped (finite.get manifests digest) where
  mapped : (o : Option Kept) → is_some (option_map plain_manifest o) ≡ is_some o
  mapped None = refl
  mapped (Some kept) = refl

same_keys : (es : List (List ℕ × Kept)) → keys_of (map (λ entry. (entry.0, plain_manifest entry.1)) es) ≡ keys_of es
same_keys [] = refl
same_keys (e ∷ es) = ap (λ (keys : List (List ℕ)). e.0 ∷ keys) (same_keys es)

plain_entries : (manifests : ByteMap Kept) → finite.entries (plain_manifests manifests) ≡ map (λ entry. (entry.0, plain_manifest entry.1)) (finite.entries manifests)
plain_entries manifests = entries_of_map byte_order (map (λ entry. (entry.0, plain_manifest entry.1)) (finite.entries manifests))
    (subst (λ keys. IsStrictlySortedBy byte_cmp keys) (sym (same_keys (finite.entries manifests))) (keys_ordered byte_cmp manifests))

module _ (table : RepoTable) (holds : Holds) (agrees : Agrees table holds) (all : AllRead table) where
  -- what is kept of a manifest is what the plain registry says of it
  pub reading_is : (digest : List ℕ) (kept : Kept) → finite.get table.table.manifests digest ≡ Some kept → kept.reading ≡ reading_at (repo_of table holds) digest (plain_manifest kept)
  reading_is digest kept has =
      reading_of kept (entry_at table.slots digest) (holds digest) (agrees.fits digest) (agrees.read digest kept has) (all digest kept has)
      ∙ ap (reading_by (plain_manifest kept)) (sym (get_blob table.slots holds digest))

  -- the kept manifest of a plain one
  kept_of : (digest : List ℕ) (manifest : StoredManifest) → finite.get (plain_manifests table.table.manifests) digest ≡ Some manifest
      → (kept : Kept) × (finite.get table.table.manifests digest ≡ Some kept) × (plain_manifest kept ≡ manifest)
  kept_of digest manifest has = split (finite.get table.table.manifests digest) refl (sym (get_plain table.table.manifests digest) ∙ has) where
    split : (found : Option Kept) → finite.get table.table.manifests digest ≡ found → option_map plain_manifest found ≡ Some manifest → (kept : Kept) × (finite.get table.table.manifests digest ≡ Some kept) × (plain_manifest kept ≡ manifest)
    split None e h = cc h
    split (Some kept) e h = (kept, e, ap (λ o. unwrap_or o (plain_manifest kept)) h)

  pub referred_is : (digest : List ℕ) → is_referred (repo_of table holds) digest ≡ is_kept_referred table.table.manifests digest
  referred_is digest = same_test (is_referred (repo_of table holds) digest) (is_kept_referred table.table.manifests digest) there back where
    there : is_referred (repo_of table holds) digest ≡ true → is_kept_referred table.table.manifests digest ≡ true
    there h =
        let found = any_found byte_order (λ (entry : List ℕ × StoredManifest). refers (reading_at (repo_of table holds) entry.0 entry.1) digest) (plain_manifests table.table.manifests) h in
        let kept = kept_of found.0 found.1 found.2 in
        found_any (λ (entry : List ℕ × Kept). refers entry.1.reading digest) table.table.manifests found.0 kept.0 kept.1
        (ap (λ (r : Reading). refers r digest) (reading_is found.0 kept.0 kept.1 ∙ ap (reading_at (repo_of table holds) found.0) kept.2) ∙ found.3)

    back : is_kept_referred table.table.manifests digest ≡ true → is_referred (repo_of table holds) digest ≡ true
    back h =
        let found = any_found byte_order (λ (entry : List ℕ × Kept). refers entry.1.reading digest) table.table.manifests h in
        found_any (λ (entry : List ℕ × StoredManifest). refers (reading_at (repo_of table holds) entry.0 entry.1) digest) (plain_manifests table.table.manifests) found.0 (plain_manifest found.1)
        (get_plain table.table.manifests found.0 ∙ ap (option_map plain_manifest) found.2)
        (ap (λ (r : Reading). refers r digest) (sym (reading_is found.0 found.1 found.2)) ∙ found.3)

  -- whether a blob has to stay
  pub needed_is : (digest : List ℕ) → is_needed (repo_of table holds) digest ≡ is_needed_in table digest
  needed_is digest =
      ap (λ b. b || is_referred (repo_of table holds) digest) (contains_plain table.table.manifests digest)
      ∙ ap (λ b. finite.contains_key table.table.manifests digest || b) (referred_is digest)

  abbrev plain_entry : List ℕ × Kept → List ℕ × StoredManifest
  plain_entry entry = (entry.0, plain_manifest entry.1)

  abbrev pushed_plain : List ℕ × StoredManifest → Pushed
  pushed_plain entry = record { digest = entry.0; size = unwrap_or (plain_size (repo_of table holds) entry.0) 0; media = entry.1.media; reading = reading_at (repo_of table holds) entry.0 entry.1 }

  abbrev pushed_kept : List ℕ × Kept → Pushed
  pushed_kept entry = pushed_as entry.0 (unwrap_or (plain_size (repo_of table holds) entry.0) 0) entry.1

  pushed_each : (es : List (List ℕ × Kept)) → AllFound byte_order (finite.entries table.table.manifests) es → map pushed_kept es ≡ map pushed_plain (map plain_entry es)
  pushed_each [] h = refl
  pushed_each (e ∷ es) h =
      ap (λ (reading : Reading). record { digest = e.0; size = unwrap_or (plain_size (repo_of table holds) e.0) 0; media = e.1.media; reading = reading } ∷ map pushed_kept es)
      (reading_is e.0 e.1 (get-entries table.table.manifests e.0 ∙ h.0))
      ∙ ap (λ (rest : List Pushed). pushed_plain (plain_entry e) ∷ rest) (pushed_each es h.1)

  -- the manifests with what is kept of them are those of the plain repository
  pub pushed_is : all_pushed (size_at table.slots) table.table.manifests ≡ pushed_in (repo_of table holds)
  pushed_is =
      ap (λ sizes. all_pushed sizes table.table.manifests) (sizes_are table holds agrees)
      ∙ pushed_each (finite.entries table.table.manifests) (all_found byte_order (finite.entries table.table.manifests) (keys_ordered byte_cmp table.table.manifests))
      ∙ ap (map pushed_plain) (sym (plain_entries table.table.manifests))

-- what isn't needed is no manifest
pub not_needed : (table : RepoTable) (digest : List ℕ) → is_needed_in table digest ≡ false → finite.get table.table.manifests digest ≡ None
not_needed table digest h = split (finite.get table.table.manifests digest) h where
  split : (found : Option Kept) → (is_some found || is_kept_referred table.table.manifests digest) ≡ false → found ≡ None
  split None e = refl
  split (Some kept) e = cc e

-- what is a manifest is needed, whatever the others say
pub manifest_needed : (table : RepoTable) (holds : Holds) (digest : List ℕ) → finite.contains_key table.table.manifests digest ≡ true → is_needed (repo_of table holds) digest ≡ true
manifest_needed table holds digest has = ap (λ b. b || is_referred (repo_of table holds) digest) (contains_plain table.table.manifests digest ∙ has)

-- ---- what a list contains

module _ {X : Type 0} where
  contains_first : (x : X) (xs : List X) → Contains (x ∷ xs) x
  contains_first x xs = (zero, omega arith, refl)

  contains_later : (x : X) (xs : List X) (y : X) → Contains xs y → Contains (x ∷ xs) y
  contains_later x xs y h = (suc h.0, omega (arith, h.1), h.2)

  contains_none : (y : X) → Contains [] y → ⊥
  contains_none y h = omega (arith, h.1)

  contains_cases : (x : X) (xs : List X) (y : X) → Contains (x ∷ xs) y → (y ≡ x) ⊎ Contains xs y
  contains_cases x xs y (zero, below, is) = inl (sym is)
  contains_cases x xs y (suc k, below, is) = inr (k, omega (arith, below), is)

  kept_or : (test : X → Bool) (x y : X) (xs : List X) → test y ≡ true → (Contains xs y → Contains (filter test xs) y) → (y ≡ x) ⊎ Contains xs y → Contains (filter test (x ∷ xs)) y
  kept_or test x y xs passes rest (inl same) =
      subst (λ b. Contains (cond b (x ∷ filter test xs) (filter test xs)) y) (sym passes ∙ ap test same) (subst (λ z. Contains (z ∷ filter test xs) y) same (contains_first y (filter test xs)))
  kept_or test x y xs passes rest (inr later) = elim (test x) as (λ b. Contains (cond b (x ∷ filter test xs) (filter test xs)) y) [
    | true ↦ contains_later x (filter test xs) y (rest later)
    | false ↦ rest later
  ]

  -- a filter keeps what passes
  pub filter_contains : (test : X → Bool) (xs : List X) (y : X) → Contains xs y → test y ≡ true → Contains (filter test xs) y
  filter_contains test [] y h passes = absurd (contains_none y h)
  filter_contains test (x ∷ xs) y h passes = kept_or test x y xs passes (λ later. filter_contains test xs y later passes) (contains_cases x xs y h)

  later_or : (test : X → Bool) (x y : X) (xs : List X) → test x ≡ true → (Contains (filter test xs) y → Contains xs y × (test y ≡ true)) → (y ≡ x) ⊎ Contains (filter test xs) y → Contains (x ∷ xs) y × (test y ≡ true)
  later_or test x y xs is rest (inl same) = (subst (λ z. Contains (z ∷ xs) y) same (contains_first y xs), ap test same ∙ is)
  later_or test x y xs is rest (inr later) = let found = rest later in (contains_later x xs y found.0, found.1)

  -- and nothing else
  pub contains_filter : (test : X → Bool) (xs : List X) (y : X) → Contains (filter test xs) y → Contains xs y × (test y ≡ true)
  contains_filter test [] y h = absurd (contains_none y h)
  contains_filter test (x ∷ xs) y h = elim (test x) as (λ b. test x ≡ b → Contains (cond b (x ∷ filter test xs) (filter test xs)) y → Contains (x ∷ xs) y × (test y ≡ true)) [
    | true ↦ λ is k. later_or test x y xs is (contains_filter test xs y) (contains_cases x (filter test xs) y k)
    | false ↦ λ is k. let found = contains_filter test xs y k in (contains_later x xs y found.0, found.1)
  ] refl h

  -- a stricter test keeps no more
  no_more : (wide strict : X → Bool) → ((y : X) → strict y ≡ true → wide y ≡ true) → (xs : List X) → length (filter strict xs) ≤ length (filter wide xs)
  no_more wide strict narrows [] = omega arith
  no_more wide strict narrows (x ∷ xs) =
      let rest = no_more wide strict narrows xs in
      elim (strict x) as (λ b. strict x ≡ b → length (cond b (x ∷ filter strict xs) (filter strict xs)) ≤ length (filter wide (x ∷ xs))) [
        | true ↦ λ is. subst (λ b. suc (length (filter strict xs)) ≤ length (cond b (x ∷ filter wide xs) (filter wide xs))) (sym (narrows x is)) (omega (arith, rest))
        | false ↦ λ is. elim (wide x) as (λ b. length (filter strict xs) ≤ length (cond b (x ∷ filter wide xs) (filter wide xs))) [
          | true ↦ omega (arith, rest)
          | false ↦ rest
        ]
      ] refl

  fewer_or : (wide strict : X → Bool) → ((y : X) → strict y ≡ true → wide y ≡ true) → (x y : X) (ys : List X) → wide x ≡ true → strict x ≡ false
      → (Contains ys x → length (filter strict ys) < length (filter wide ys)) → (x ≡ y) ⊎ Contains ys x → length (filter strict (y ∷ ys)) < length (filter wide (y ∷ ys))
  fewer_or wide strict narrows x y ys passes fails rest (inl same) =
      subst (λ b. length (cond b (y ∷ filter strict ys) (filter strict ys)) < length (filter wide (y ∷ ys))) (sym fails ∙ ap strict same)
      (subst (λ b. length (filter strict ys) < length (cond b (y ∷ filter wide ys) (filter wide ys))) (sym passes ∙ ap wide same) (omega (arith, no_more wide strict narrows ys)))
  fewer_or wide strict narrows x y ys passes fails rest (inr later) =
      elim (strict y) as (λ b. strict y ≡ b → length (cond b (y ∷ filter strict ys) (filter strict ys)) < length (filter wide (y ∷ ys))) [
        | true ↦ λ is. subst (λ b. suc (length (filter strict ys)) < length (cond b (y ∷ filter wide ys) (filter wide ys))) (sym (narrows y is)) (omega (arith, rest later))
        | false ↦ λ is. elim (wide y) as (λ b. length (filter strict ys) < length (cond b (y ∷ filter wide ys) (filter wide ys))) [
          | true ↦ omega (arith, rest later)
          | false ↦ rest later
        ]
      ] refl

  -- and fewer, where something passes the other one alone
  fewer : (wide strict : X → Bool) → ((y : X) → strict y ≡ true → wide y ≡ true) → (xs : List X) (x : X) → Contains xs x → wide x ≡ true → strict x ≡ false → length (filter strict xs) < length (filter wide xs)
  fewer wide strict narrows [] x h passes fails = absurd (contains_none x h)
  fewer wide strict narrows (y ∷ ys) x h passes fails =
      fewer_or wide strict narrows x y ys passes fails (λ later. fewer wide strict narrows ys x later passes fails) (contains_cases y ys x h)

any_or : (q key : List ℕ) (keys : List (List ℕ)) → (Contains keys q → list_any (eq_by_cmp byte_cmp q) keys ≡ true) → (q ≡ key) ⊎ Contains keys q → (eq_by_cmp byte_cmp q key || list_any (eq_by_cmp byte_cmp q) keys) ≡ true
any_or q key keys rest (inl same) = ap (λ b. b || list_any (eq_by_cmp byte_cmp q) keys) (ap (eq_by_cmp byte_cmp q) (sym same) ∙ same_key byte_order q)
any_or q key keys rest (inr later) = elim (eq_by_cmp byte_cmp q key) as (λ b. (b || list_any (eq_by_cmp byte_cmp q) keys) ≡ true) [ true ↦ refl | false ↦ rest later ]

contains_any : (q : List ℕ) (keys : List (List ℕ)) → Contains keys q → list_any (eq_by_cmp byte_cmp q) keys ≡ true
contains_any q [] h = absurd (contains_none q h)
contains_any q (key ∷ keys) h = any_or q key keys (contains_any q keys) (contains_cases key keys q h)

module _ {X : Type 0} where
  find_contains : (q : List ℕ) (x : X) (es : List (List ℕ × X)) → find byte_cmp q es ≡ Some x → Contains (map (λ e. e.0) es) q
  find_contains q x [] h = cc h
  find_contains q x (e ∷ es) h = elim (eq_by_cmp byte_cmp q e.0) as (λ b. eq_by_cmp byte_cmp q e.0 ≡ b → cond b (Some e.1) (find byte_cmp q es) ≡ Some x → Contains (map (λ e. e.0) (e ∷ es)) q) [
    | true ↦ λ tied k. subst (λ key. Contains (key ∷ map (λ e. e.0) es) q) (tied_keys byte_order q e.0 tied) (contains_first q (map (λ e. e.0) es))
    | false ↦ λ free k. contains_later e.0 (map (λ e. e.0) es) q (find_contains q x es k)
  ] refl h

  -- a key under which there is something
  pub keys_contain : (m : ByteMap X) (q : List ℕ) (x : X) → finite.get m q ≡ Some x → Contains (finite.keys m) q
  keys_contain m q x h = find_contains q x (finite.entries m) (sym (get-entries m q) ∙ h)

  pub contained_key : (m : ByteMap X) (q : List ℕ) → Contains (finite.keys m) q → finite.contains_key m q ≡ true
  contained_key m q h = contains_key-keys m q ∙ contains_any q (finite.keys m) h

-- ---- those that are left

-- all that are left to be read are among these
abbrev pub HasUnread : RepoTable → List (List ℕ) → Type 0
HasUnread table left = (digest : List ℕ) (kept : Kept) → finite.get table.table.manifests digest ≡ Some kept → is_unread (entry_at table.slots digest) ≡ true → Contains left digest

pub none_left : (table : RepoTable) → HasUnread table [] → AllRead table
none_left table left digest kept has unread = contains_none digest (left digest kept has unread)

pub unread_left : (table : RepoTable) → HasUnread table (unread_in table)
unread_left table digest kept has unread =
    filter_contains (λ key. is_unread (entry_at table.slots key)) (finite.keys table.table.manifests) digest (keys_contain table.table.manifests digest kept has) unread

pub all_read : (table : RepoTable) → unread_in table ≡ [] → AllRead table
all_read table none = none_left table (subst (HasUnread table) none (unread_left table))

is_read : (entry : Option BlobEntry) → is_unread (option_map as_read entry) ≡ false
is_read None = refl
is_read (Some entry) = refl

-- the entry of a digest whose bytes were read
pub read_entry : (table : RepoTable) (digest : List ℕ) → is_unread (entry_at (slots_read table.slots digest) digest) ≡ false
read_entry table digest = ap is_unread (read_here table.slots digest) ∙ is_read (entry_at table.slots digest)

other_left : (digest q : List ℕ) (left : List (List ℕ)) → Contains (digest ∷ left) q → q ≢ digest → Contains left q
other_left digest q left h apart = by (contains_cases digest left q h) where
  by : (q ≡ digest) ⊎ Contains left q → Contains left q
  by (inl same) = absurd (apart same)
  by (inr later) = later

-- one that was read isn't left
pub learned_left : (table : RepoTable) (digest bytes : List ℕ) (left : List (List ℕ)) → HasUnread table (digest ∷ left) → HasUnread (learned table digest bytes) left
learned_left table digest bytes left all =
    at_each (λ q. (kept : Kept) → finite.get (rereads table.table digest bytes).manifests q ≡ Some kept → is_unread (entry_at (slots_read table.slots digest) q) ≡ true → Contains left q) digest
    (λ kept has unread. absurd (true≢false (sym unread ∙ read_entry table digest)))
    (λ q apart kept has unread. other_left digest q left
    (all q kept (sym (reread_elsewhere table.table digest bytes q apart) ∙ has) (ap is_unread (sym (read_elsewhere table.slots digest q apart)) ∙ unread)) apart)

not_unread : (entry : Option BlobEntry) (found : Option (List ℕ)) → FitsEntry entry found → found ≡ None → is_unread entry ≡ false
not_unread None found h none = refl
not_unread (Some entry) None h none = absurd h
not_unread (Some entry) (Some bytes) h none = cc none

-- nor is one of which nothing is held
pub missing_left : (table : RepoTable) (holds : Holds) (digest : List ℕ) (left : List (List ℕ)) → Agrees table holds → holds digest ≡ None → HasUnread table (digest ∷ left) → HasUnread table left
missing_left table holds digest left agrees none all =
    at_each (λ q. (kept : Kept) → finite.get table.table.manifests q ≡ Some kept → is_unread (entry_at table.slots q) ≡ true → Contains left q) digest
    (λ kept has unread. absurd (true≢false (sym unread ∙ not_unread (entry_at table.slots digest) (holds digest) (agrees.fits digest) none)))
    (λ q apart kept has unread. other_left digest q left (all q kept has unread) apart)

-- what is left is a manifest, and its blob is unread
pub unread_manifest : (table : RepoTable) (digest : List ℕ) → Contains (unread_in table) digest → (finite.contains_key table.table.manifests digest ≡ true) × (is_unread (entry_at table.slots digest) ≡ true)
unread_manifest table digest h =
    let found = contains_filter (λ key. is_unread (entry_at table.slots key)) (finite.keys table.table.manifests) digest h in
    (contained_key table.table.manifests digest found.0, found.1)

is_some_of : (entry : Option BlobEntry) → is_unread entry ≡ true → is_some (option_map (λ (e : BlobEntry). e.size) entry) ≡ true
is_some_of None h = cc h
is_some_of (Some entry) h = refl

-- so its bytes are held
pub unread_held : (table : RepoTable) (holds : Holds) (digest : List ℕ) → Agrees table holds → Contains (unread_in table) digest → is_some (holds digest) ≡ true
unread_held table holds digest agrees h =
    some_length (holds digest) (ap is_some (sym (size_held table holds agrees digest)) ∙ is_some_of (entry_at table.slots digest) (unread_manifest table digest h).1) where
      some_length : (found : Option (List ℕ)) → is_some (option_map length found) ≡ true → is_some found ≡ true
      some_length None k = k
      some_length (Some bytes) k = refl

keys_plain : (manifests : ByteMap Kept) → finite.keys (plain_manifests manifests) ≡ finite.keys manifests
keys_plain manifests = ap (map (λ e. e.0)) (plain_entries manifests) ∙ same_keys (finite.entries manifests)

-- the manifests are of the same digests
pub learned_keys : (table : RepoTable) (digest bytes : List ℕ) → finite.keys (learned table digest bytes).table.manifests ≡ finite.keys table.table.manifests
learned_keys table digest bytes =
    sym (keys_plain (rereads table.table digest bytes).manifests)
    ∙ ap (λ (r : RepoState). finite.keys r.manifests) (reread_is table.table digest bytes true finite.empty table.sessions)
    ∙ keys_plain table.table.manifests

-- fewer are left after one was read
pub fewer_left : (table : RepoTable) (digest bytes : List ℕ) → Contains (unread_in table) digest → length (unread_in (learned table digest bytes)) < length (unread_in table)
fewer_left table digest bytes h =
    subst (λ keys. length (filter (λ key. is_unread (entry_at (slots_read table.slots digest) key)) keys) < length (unread_in table)) (sym (learned_keys table digest bytes))
    (fewer (λ key. is_unread (entry_at table.slots key)) (λ key. is_unread (entry_at (slots_read table.slots digest) key))
    (at_each (λ q. is_unread (entry_at (slots_read table.slots digest) q) ≡ true → is_unread (entry_at table.slots q) ≡ true) digest
    (λ unread. absurd (true≢false (sym unread ∙ read_entry table digest)))
    (λ q apart unread. ap is_unread (sym (read_elsewhere table.slots digest q apart)) ∙ unread))
    (finite.keys table.table.manifests) digest
    (contains_filter (λ key. is_unread (entry_at table.slots key)) (finite.keys table.table.manifests) digest h).0
    (unread_manifest table digest h).1 (read_entry table digest))
