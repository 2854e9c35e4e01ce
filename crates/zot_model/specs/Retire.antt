-- Which manifests a collection removes from a repository, where untagged ones go: rules of this project.
use Rattle.std.specs.Prelude.{◌≡◌, ℕ, Bool, true, false, not, ◌||◌, List, [], map, is_some}
use Rattle.std.specs.List.{All, filter, list_any}
use Rattle.std.specs.Str.{bytes_eq}
use Rattle.zot_media.specs.References.{has_digest}
use Rattle.zot_model.specs.Ages.{is_aged}
use Rattle.zot_model.specs.declared.manifest_row.ManifestRow.{ManifestRow}

-- a manifest stays by itself where it has a kept tag, is younger than the delay, or has a subject
abbrev pub is_root : (List ℕ → Bool) → ℕ → ℕ → ManifestRow → Bool
is_root tagged moment delay row = tagged row.digest || (not (is_aged moment delay row.arrived) || is_some row.reading.subject)

-- one manifest is a child of another
abbrev pub is_child : ManifestRow → ManifestRow → Bool
is_child parent row = has_digest row.digest parent.reading.children

-- a set of digests has the manifests that stay by themselves, and each manifest that is a child of one that it has
pub record IsClosed (root : ManifestRow → Bool) (manifests : List ManifestRow) (chosen : List ℕ → Bool) : Type 0 where
  pub roots : All (λ row. root row ≡ true → chosen row.digest ≡ true) manifests
  pub children : All (λ parent. chosen parent.digest ≡ true → All (λ row. is_child parent row ≡ true → chosen row.digest ≡ true) manifests) manifests

-- the least such set: each of them has the manifests that it has
pub record IsLeast (root : ManifestRow → Bool) (manifests : List ManifestRow) (chosen : List ℕ → Bool) : Type 0 where
  pub closed : IsClosed root manifests chosen
  pub least : (other : List ℕ → Bool) → IsClosed root manifests other → All (λ row. chosen row.digest ≡ true → other row.digest ≡ true) manifests

-- the digests of manifests
abbrev pub digests : List ManifestRow → List (List ℕ)
digests manifests = map (λ row. row.digest) manifests

-- the manifests that don't pass a test, in their order
abbrev pub manifests_without : (ManifestRow → Bool) → List ManifestRow → List (List ℕ)
manifests_without test manifests = digests (filter (λ row. not (test row)) manifests)

-- the manifests that go are those that the least set doesn't have
pub record AreOutside (root : ManifestRow → Bool) (manifests : List ManifestRow) (gone : List (List ℕ)) : Type 0 where
  pub chosen : List ℕ → Bool
  pub least : IsLeast root manifests chosen
  pub others : gone ≡ manifests_without (λ row. chosen row.digest) manifests

-- they go only where untagged ones are deleted
abbrev pub GoWhere : Bool → (ManifestRow → Bool) → List ManifestRow → List (List ℕ) → Type 0
GoWhere false root manifests gone = gone ≡ []
GoWhere true root manifests gone = AreOutside root manifests gone

-- the manifests that are left
abbrev pub left_manifests : List (List ℕ) → List ManifestRow → List ManifestRow
left_manifests gone manifests = filter (λ row. not (list_any (λ digest. bytes_eq digest row.digest) gone)) manifests
