-- What a call on a repository waits for, and which calls do.
use Rattle.std.specs.Prelude.{◌≡◌, ℕ, ◌+◌, List, length, Option, Some, None, IsSomeAnd}
use Rattle.zot_digest.specs.Digest.{IsSound}
use Rattle.zot_media.specs.declared.media.Media.{Media}
use Rattle.zot_media.specs.declared.reference.Reference.{Reference}
use Rattle.zot_model.specs.declared.call.Call.{Call}
use Rattle.zot_model.specs.declared.call.Call.TheVariants as calls
use Rattle.zot_model.specs.declared.mount.Mount.{Mount}
use Rattle.zot_model.specs.declared.span.Span.{Span}
use Rattle.zot_row.specs.declared.stage.Attaching.{Attaching}
use Rattle.zot_row.specs.declared.stage.Attaching.TheVariants as attaching
use Rattle.zot_row.specs.declared.stage.Learning.{Learning}
use Rattle.zot_row.specs.declared.stage.Learning.TheVariants as learning
use Rattle.zot_row.specs.declared.stage.Rest.{Rest}
use Rattle.zot_row.specs.declared.stage.Rest.TheVariants as rests
use Rattle.zot_row.specs.declared.stage.Stage.{Stage}
use Rattle.zot_row.specs.declared.stage.Stage.TheVariants as stages

-- how often the pool is asked from here on, at most
abbrev pub pending : Stage → ℕ
pending (stages.Blob digest) = 1
pending (stages.Manifest digest media reference) = 1
pending (stages.Attach digest size purpose) = 1
pending (stages.Mount digest made rest) = 2
pending (stages.Detach digest) = 1
pending (stages.Learn digest left purpose) = length left.items + 2

-- ---- of which calls they are

-- a POST of a blob with its digest
pub record PostsBlob (digest : List ℕ) (call : Call) : Type 0 where
  pub mount : Option Mount
  pub body : List ℕ
  pub is : call ≡ calls.Post mount (Some digest) body

-- the last piece of an upload, with the digest of all its bytes
pub record Finishes (id : ℕ) (digest : List ℕ) (call : Call) : Type 0 where
  pub range : Option Span
  pub body : List ℕ
  pub is : call ≡ calls.Finish (Some id) range digest body

-- a PUT of a manifest
pub record PutsManifest (call : Call) : Type 0 where
  pub reference : Reference
  pub media : Option Media
  pub body : List ℕ
  pub is : call ≡ calls.PutManifest reference media body

-- bytes under the digest are attached for it
abbrev pub Attaches : Attaching → List ℕ → Call → Type 0
Attaches attaching.Blob digest call = PostsBlob digest call
Attaches (attaching.Upload id) digest call = Finishes id digest call
Attaches (attaching.Manifest checked) digest call = PutsManifest call

-- what a POST is without its mount, by its digest and its body
abbrev pub IsRest : Rest → Option (List ℕ) → List ℕ → Type 0
IsRest rests.Upload digest body = digest ≡ None
IsRest (rests.Blob digest copy) given body = (given ≡ Some digest) × (copy ≡ body) × IsSound digest body
IsRest rests.Unsound digest body = IsSomeAnd digest (λ d. ¬ IsSound d body)

-- a POST that mounts, and what it is without that
pub record Mounts (digest from : List ℕ) (rest : Rest) (call : Call) : Type 0 where
  pub other : Option (List ℕ)
  pub body : List ℕ
  pub is : call ≡ calls.Post (Some (record { digest = digest; from = Some from })) other body
  pub rest_is : IsRest rest other body

-- manifests are read for it
abbrev pub Learns : Learning → Call → Type 0
Learns (learning.Delete digest) call = call ≡ calls.DeleteBlob digest
Learns (learning.List digest filter) call = call ≡ calls.Referrers digest filter

-- the call may wait so
abbrev pub IsFor : Stage → Call → Type 0
IsFor (stages.Blob digest) call = call ≡ calls.GetBlob digest
IsFor (stages.Manifest digest media reference) call = call ≡ calls.GetManifest reference
IsFor (stages.Attach digest size purpose) call = Attaches purpose digest call
IsFor (stages.Mount digest made rest) call = (from : List ℕ) × Mounts digest from rest call
IsFor (stages.Detach digest) call = call ≡ calls.DeleteBlob digest
IsFor (stages.Learn digest left purpose) call = Learns purpose call
