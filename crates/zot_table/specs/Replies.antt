-- How a call may be answered, and what the parts of some answers say.
use Rattle.std.specs.Prelude.{◌⊎◌, ℕ, length, Option, Some, None}
use Rattle.std.specs.FinMap as map
use Rattle.zot_manifests.specs.declared.checked.Checked.{Checked}
use Rattle.zot_media.specs.References.{subject_digest}
use Rattle.zot_model.specs.Manifests.{with_tag}
use Rattle.zot_model.specs.Plain.{IsPlain, LacksMemory}
use Rattle.zot_model.specs.Refusals.{refusal}
use Rattle.zot_model.specs.State.{RepoState}
use Rattle.zot_model.specs.Uploads.{OpenUpload, UploadTable}
use Rattle.zot_model.specs.declared.call.Call.{Call}
use Rattle.zot_model.specs.declared.code.Code.TheVariants.{BlobUploadUnknown}
use Rattle.zot_model.specs.declared.reply.Reply.{Reply}
use Rattle.zot_model.specs.declared.reply.Reply.TheVariants.{ManifestMade, Session}

-- the call may be answered so on a repository, without a storage fault
abbrev pub MayGive : ℕ → RepoState → Call → Reply → RepoState → Type 0
MayGive moment old call reply new = IsPlain moment old call reply new ⊎ LacksMemory moment old call reply new

-- the reply to a GET of the upload found under an id, where there is one
abbrev pub found_reply : ℕ → Option OpenUpload → Reply
found_reply id None = refusal BlobUploadUnknown
found_reply id (Some upload) = Session id (length upload.bytes) 204

-- the reply to a GET of the upload of an id; a text that is no id names none
abbrev pub state_reply : Option ℕ → UploadTable → Reply
state_reply None sessions = refusal BlobUploadUnknown
state_reply (Some id) sessions = found_reply id (map.get sessions.uploads id)

-- ---- manifests

-- the repository with a manifest that was checked, whose bytes are a blob already
abbrev pub with_checked : ℕ → RepoState → Checked → RepoState
with_checked moment repo checked = record {
  known = repo.known;
  blobs = repo.blobs;
  manifests = map.insert repo.manifests checked.digest (record { media = checked.media; arrived = moment });
  tags = with_tag moment repo.tags checked.tag checked.digest;
  sessions = repo.sessions;
}

-- the reply to a manifest that was stored
abbrev pub made_reply : Checked → Reply
made_reply checked = ManifestMade checked.digest (subject_digest checked.reading.subject)
