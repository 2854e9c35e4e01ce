-- Whether a manifest may be put: the first case that fits, in the order of the errors (OCI Distribution Specification, "Pushing Manifests").
use Rattle.std.specs.Prelude.{◌≡◌, ◌⊎◌, ℕ, List, length, is_some, Option, Some, None, Result, Ok, Err, if◌then◌else◌}
use Rattle.sha2.specs.Sha256.{sha256}
use Rattle.zot_manifests.specs.declared.check_error.CheckError.{CheckError}
use Rattle.zot_manifests.specs.declared.check_error.CheckError.TheVariants as errors
use Rattle.zot_manifests.specs.declared.checked.Checked.{Checked}
use Rattle.zot_media.specs.Manifest.{reading}
use Rattle.zot_media.specs.References.{needed}
use Rattle.zot_media.specs.declared.media.Media.{Media}
use Rattle.zot_media.specs.declared.reading.Reading.{Reading}
use Rattle.zot_media.specs.declared.reference.Reference.{Reference}
use Rattle.zot_model.specs.Manifests.{first_missing, tag_in}
use Rattle.zot_model.specs.PlainManifests.{is_other}

-- a manifest whose references were looked at
abbrev pub check_needed : Reference → Media → List ℕ → Reading → Option (List ℕ) → Result Checked CheckError
check_needed reference media body reading (Some missing) = Err (errors.Missing missing)
check_needed reference media body reading None = Ok (record { digest = sha256 body; media = media; tag = tag_in reference; reading = reading; size = length body })

-- one that was read: it isn't where the reference is another digest
abbrev pub check_read : (List ℕ → Option ℕ) → Reference → Media → List ℕ → Option Reading → Result Checked CheckError
check_read sizes reference media body None = Err errors.Unread
check_read sizes reference media body (Some reading) =
    if is_other reference (sha256 body) then Err (errors.Digest (sha256 body))
    else check_needed reference media body reading (first_missing (λ digest. is_some (sizes digest)) (needed reading))

-- one that was pushed as of some media
abbrev pub check_of : (List ℕ → Option ℕ) → Reference → Option Media → List ℕ → Result Checked CheckError
check_of sizes reference None body = Err errors.Media
check_of sizes reference (Some media) body = check_read sizes reference media body (reading media body)

-- the answer is that of the first case that fits, or memory ran out
abbrev pub Answers : Result Checked CheckError → Result Checked CheckError → Type 0
Answers result answer = (result ≡ answer) ⊎ (result ≡ Err errors.NoMemory)
