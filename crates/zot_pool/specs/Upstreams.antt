-- What an upstream holds, and what its calls answer, where it tells.
use Rattle.std.specs.Prelude.{◌≡◌, ◌≢◌, ℕ, List, [], length, take, drop, min, Option, Some, None, IfSome, IsSome, MatchOption, option_map, ⊤}
use Rattle.std.specs.FinMap as map
use Rattle.std.specs.declared.cmp.Ordering.TheVariants.{Less}
use Rattle.zot_digest.specs.ByteMap.{ByteMap, byte_cmp}
use Rattle.zot_media.specs.declared.kind.Kind.{Kind}
use Rattle.zot_media.specs.declared.kind.Kind.TheVariants as kinds
use Rattle.zot_media.specs.declared.media.Media.{Media}
use Rattle.zot_media.specs.declared.reference.Reference.{Reference}
use Rattle.zot_media.specs.declared.reference.Reference.TheVariants as by
use Rattle.zot_pool.specs.declared.opened.Opened.{Opened}
use Rattle.zot_pool.specs.declared.opened.Opened.TheVariants as opens
use Rattle.zot_pool.specs.declared.resolved.Resolved.{Resolved}
use Rattle.zot_pool.specs.declared.resolved.Resolved.TheVariants as finds

-- ---- what it holds

-- a manifest: its media, or none where they aren't accepted, and its bytes
pub record UpManifest : Type 0 where
  pub media : Option Media
  pub bytes : List ℕ

-- a repository: the digests of its tags, and its manifests and blobs by their digests
pub record UpRepo : Type 0 where
  pub tags : ByteMap (List ℕ)
  pub manifests : ByteMap UpManifest
  pub blobs : ByteMap (List ℕ)

-- a repository without any
abbrev pub empty_repo : UpRepo
empty_repo = record { tags = map.empty; manifests = map.empty; blobs = map.empty }

-- an upstream: the repositories of each registry by their names, and what is left to be read of the content under each number
pub record UpState : Type 0 where
  pub repos : ℕ → List ℕ → UpRepo
  pub left : ℕ → List ℕ

-- an upstream that holds nothing, of which nothing is opened
abbrev pub empty_state : UpState
empty_state = record { repos = λ registry name. empty_repo; left = λ number. [] }

-- ---- what a reference stands for

-- the digest that a reference names, if it does
abbrev pub digest_at : UpRepo → Reference → Option (List ℕ)
digest_at repo (by.Tag tag) = map.get repo.tags tag
digest_at repo (by.Digest digest) = Some digest

-- the answer for a manifest of this digest and of these media
abbrev pub found_as : List ℕ → Option Media → Resolved
found_as digest (Some media) = finds.Found digest media
found_as digest None = finds.Foreign digest

-- the answer for a digest, with the manifest that there is under it
abbrev pub found_under : List ℕ → Option UpManifest → Resolved
found_under digest None = finds.Absent
found_under digest (Some manifest) = found_as digest manifest.media

-- the answer for the digest that a reference names
abbrev pub found_at : UpRepo → Option (List ℕ) → Resolved
found_at repo None = finds.Absent
found_at repo (Some digest) = found_under digest (map.get repo.manifests digest)

-- the answer for a reference
abbrev pub resolved : UpRepo → Reference → Resolved
resolved repo what = found_at repo (digest_at repo what)

-- an answer is none, or one with this digest
abbrev pub IsOfDigest : Resolved → List ℕ → Type 0
IsOfDigest finds.Absent digest = ⊤
IsOfDigest (finds.Found found media) digest = found ≡ digest
IsOfDigest (finds.Foreign found) digest = found ≡ digest

-- the answer for a digest is one with that digest
abbrev pub KeepsDigest : Reference → Resolved → Type 0
KeepsDigest (by.Tag tag) answer = ⊤
KeepsDigest (by.Digest digest) answer = IsOfDigest answer digest

-- ---- its tags

-- a text comes after another one, if there is one
abbrev pub IsAfter : Option (List ℕ) → List ℕ → Type 0
IsAfter before text = IfSome before (λ first. byte_cmp first text ≡ Less)

-- a tag is there and comes after a text, and is the least such one
pub record IsNextTag (repo : UpRepo) (before : Option (List ℕ)) (tag : List ℕ) : Type 0 where
  pub there : IsSome (map.get repo.tags tag)
  pub above : IsAfter before tag
  pub least : (other : List ℕ) → IsSome (map.get repo.tags other) → IsAfter before other → byte_cmp other tag ≢ Less

-- no tag comes after a text
abbrev pub HasNoTagAfter : UpRepo → Option (List ℕ) → Type 0
HasNoTagAfter repo before = (other : List ℕ) → IsSome (map.get repo.tags other) → ¬ IsAfter before other

-- the next tag, or none
abbrev pub IsTagAfter : UpRepo → Option (List ℕ) → Option (List ℕ) → Type 0
IsTagAfter repo before found = MatchOption found (HasNoTagAfter repo before) (λ tag. IsNextTag repo before tag)

-- ---- its contents

-- the bytes of a digest that are held as such a content, or none
abbrev pub content_at : UpRepo → Kind → List ℕ → Option (List ℕ)
content_at repo kinds.Manifest digest = option_map (λ manifest. manifest.bytes) (map.get repo.manifests digest)
content_at repo kinds.Blob digest = map.get repo.blobs digest

-- these bytes are left under one number now, and all else is as before
pub record Leaves (old : UpState) (number : ℕ) (bytes : List ℕ) (new : UpState) : Type 0 where
  pub repos : new.repos ≡ old.repos
  pub here : new.left number ≡ bytes
  pub others : (other : ℕ) → other ≢ number → new.left other ≡ old.left other

-- a content was opened under a number, or there is none and nothing changed
abbrev pub Opens : UpState → ℕ → Option (List ℕ) → Opened → UpState → Type 0
Opens old number None opened new = (opened ≡ opens.Absent) × (new ≡ old)
Opens old number (Some bytes) opened new = (opened ≡ opens.Open) × Leaves old number bytes new

-- n bytes that were left under a number are in the front of a buffer now, as many as are left and as it has room for
pub record ReadsUp (old : UpState) (number room : ℕ) (buffer : List ℕ) (n : ℕ) (new : UpState) : Type 0 where
  pub many : n ≡ min room (length (old.left number))
  pub piece : take n buffer ≡ take n (old.left number)
  pub rest : Leaves old number (drop n (old.left number)) new

-- ---- upstreams that tell

-- a fact of what an upstream holds before and after, where it tells; it tells after as it did before
abbrev pub UpTold : Option UpState → Option UpState → (UpState → UpState → Type 0) → Type 0
UpTold None after P = after ≡ None
UpTold (Some old) None P = ⊥
UpTold (Some old) (Some new) P = P old new
