-- What is so while a call waits for the pool: what it asked, what it has done to the repository so far, and what it will lead to.
use Rattle.std.specs.Prelude.{◌≡◌, ℕ, Bool, true, false, not, List, ◌∷◌, length, Option, Some, IsSome, IsSomeAnd}
use Rattle.std.specs.FinMap as finite
use Rattle.std.specs.List.{Contains}
use Rattle.zot_contents.specs.declared.pool_call.PoolCall.{PoolCall}
use Rattle.zot_contents.specs.declared.pool_call.PoolCall.TheVariants as pool
use Rattle.zot_manifests.specs.declared.checked.Checked.{Checked}
use Rattle.zot_manifests.specs.declared.kept.Kept.{Kept}
use Rattle.zot_media.specs.declared.media.Media.{Media}
use Rattle.zot_media.specs.declared.reference.Reference.{Reference}
use Rattle.zot_model.specs.Outcomes.{with_blob}
use Rattle.zot_model.specs.PlainUploads.{with_sessions}
use Rattle.zot_model.specs.State.{RepoState, made_known}
use Rattle.zot_model.specs.Uploads.{without}
use Rattle.zot_model.specs.declared.call.Call.{Call}
use Rattle.zot_model.specs.declared.call.Call.TheVariants as calls
use Rattle.zot_model.specs.declared.reply.Reply.TheVariants as replies
use Rattle.zot_row.specs.Stages.{Learns, Mounts}
use Rattle.zot_row.specs.declared.stage.Attaching.{Attaching}
use Rattle.zot_row.specs.declared.stage.Attaching.TheVariants as attaching
use Rattle.zot_row.specs.declared.stage.Learning.{Learning}
use Rattle.zot_row.specs.declared.stage.Rest.{Rest}
use Rattle.zot_row.specs.declared.stage.Stage.{Stage}
use Rattle.zot_row.specs.declared.stage.Stage.TheVariants as stages
use Rattle.zot_table.specs.Replies.{MayGive, made_reply, with_checked}
use Rattle.zot_table.specs.Repository.{IsOf}
use Rattle.zot_table.specs.Standing.{AllRead, Holds, repo_of}
use Rattle.zot_table.specs.Tables.{RepoTable, entry_at, found_in, is_needed_in, is_unread, size_at}

-- ---- reading

-- a GET of a blob asked for its bytes, and the repository is as it was
pub record GetsBlob (digest name : List ℕ) (old : RepoState) (call : Call) (asked : PoolCall) (new : RepoTable) (holds : Holds) : Type 0 where
  pub call_is : call ≡ calls.GetBlob digest
  pub asked_is : asked ≡ pool.Read name digest
  pub same : repo_of new holds ≡ old

-- a GET of a manifest asked for the bytes of what its reference finds
pub record GetsManifest (digest : List ℕ) (media : Media) (reference : Reference) (name : List ℕ) (old : RepoState) (call : Call) (asked : PoolCall) (new : RepoTable) (holds : Holds) : Type 0 where
  pub call_is : call ≡ calls.GetManifest reference
  pub asked_is : asked ≡ pool.Read name digest
  pub same : repo_of new holds ≡ old
  pub found : IsSomeAnd (found_in new reference) (λ found. (found.digest ≡ digest) × (found.media ≡ media))

-- what the bytes of manifests say is known, but of these
abbrev pub HasUnread : RepoTable → List (List ℕ) → Type 0
HasUnread repo left = (digest : List ℕ) (kept : Kept) → finite.get repo.table.manifests digest ≡ Some kept → is_unread (entry_at repo.slots digest) ≡ true → Contains left digest

-- a call that has to know what manifests say asked for the bytes of one of them, and the repository is as it was
pub record ReadsManifests (digest : List ℕ) (left : List (List ℕ)) (purpose : Learning) (name : List ℕ) (old : RepoState) (call : Call) (asked : PoolCall) (new : RepoTable) (holds : Holds) : Type 0 where
  pub learns : Learns purpose call
  pub asked_is : asked ≡ pool.Read name digest
  pub same : repo_of new holds ≡ old
  pub left_is : HasUnread new (digest ∷ left)

-- ---- storing

-- the manifest of a PUT was checked, and is that of these bytes
pub record ChecksManifest (checked : Checked) (digest bytes : List ℕ) (old : RepoState) (call : Call) (moment : ℕ) : Type 0 where
  pub reference : Reference
  pub media : Option Media
  pub call_is : call ≡ calls.PutManifest reference media bytes
  pub digest_is : digest ≡ checked.digest
  pub of : IsOf checked bytes
  pub ends : MayGive moment old call (made_reply checked) (with_checked moment (with_blob moment old checked.digest bytes) checked)

-- how a call may be answered once its bytes are held, and what it leads to
abbrev pub EndsWith : Attaching → List ℕ → List ℕ → RepoState → Call → ℕ → Type 0
EndsWith attaching.Blob digest bytes old call moment = MayGive moment old call (replies.BlobMade digest) (with_blob moment old digest bytes)
EndsWith (attaching.Upload id) digest bytes old call moment = MayGive moment old call (replies.BlobMade digest) (with_blob moment (with_sessions old (without old.sessions id)) digest bytes)
EndsWith (attaching.Manifest checked) digest bytes old call moment = ChecksManifest checked digest bytes old call moment

-- a call asked for these bytes to be held. The repository is known by now and has room for them
pub record StoresBytes (digest : List ℕ) (size : ℕ) (purpose : Attaching) (name : List ℕ) (old : RepoState) (call : Call) (moment : ℕ) (asked : PoolCall) (new : RepoTable) (holds : Holds) : Type 0 where
  pub bytes : List ℕ
  pub asked_is : asked ≡ pool.Attach name digest bytes
  pub long : length bytes ≡ size
  pub since : repo_of new holds ≡ made_known old
  pub room : IsSome (finite.get new.slots digest)
  pub ends : EndsWith purpose digest bytes old call moment

-- a POST asked for what another repository holds. The repository is known by now, made so or not, and has room for it
pub record MountsBlob (digest : List ℕ) (made : Bool) (rest : Rest) (name : List ℕ) (old : RepoState) (call : Call) (asked : PoolCall) (new : RepoTable) (holds : Holds) : Type 0 where
  pub from : List ℕ
  pub mounts : Mounts digest from rest call
  pub asked_is : asked ≡ pool.Mount name from digest
  pub since : repo_of new holds ≡ made_known old
  pub room : IsSome (finite.get new.slots digest)
  pub made_is : made ≡ not old.known

-- ---- deleting

-- a DELETE asked that a blob is held no more. All manifests are read, and none needs it; the repository is as it was
pub record DeletesBlob (digest name : List ℕ) (old : RepoState) (call : Call) (asked : PoolCall) (new : RepoTable) (holds : Holds) : Type 0 where
  pub call_is : call ≡ calls.DeleteBlob digest
  pub asked_is : asked ≡ pool.Detach name digest
  pub same : repo_of new holds ≡ old
  pub there : IsSome (size_at new.slots digest)
  pub all : AllRead new
  pub free : is_needed_in new digest ≡ false

-- ---- any call

-- a call on the repository of a name, which began with this state, waits at the stage for an answer to what it asked; this is kept of the repository, and this is held for it
abbrev pub Doing : List ℕ → Stage → RepoState → Call → ℕ → PoolCall → RepoTable → Holds → Type 0
Doing name (stages.Blob digest) old call moment asked new holds = GetsBlob digest name old call asked new holds
Doing name (stages.Manifest digest media reference) old call moment asked new holds = GetsManifest digest media reference name old call asked new holds
Doing name (stages.Attach digest size purpose) old call moment asked new holds = StoresBytes digest size purpose name old call moment asked new holds
Doing name (stages.Mount digest made rest) old call moment asked new holds = MountsBlob digest made rest name old call asked new holds
Doing name (stages.Detach digest) old call moment asked new holds = DeletesBlob digest name old call asked new holds
Doing name (stages.Learn digest left purpose) old call moment asked new holds = ReadsManifests digest left.items purpose name old call asked new holds
