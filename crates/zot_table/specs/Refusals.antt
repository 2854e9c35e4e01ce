-- How a request on an upload or a manifest is refused.
use Rattle.std.specs.Prelude.{ℕ}
use Rattle.zot_manifests.specs.declared.check_error.CheckError.{CheckError}
use Rattle.zot_manifests.specs.declared.check_error.CheckError.TheVariants as checks
use Rattle.zot_model.specs.Refusals.{no_memory, refusal, refusal_with, upload_invalid}
use Rattle.zot_model.specs.declared.code.Code.TheVariants.{BlobUploadUnknown, DigestInvalid, ManifestBlobUnknown, ManifestInvalid, SizeInvalid, TooManyRequests}
use Rattle.zot_model.specs.declared.detail.Detail.TheVariants.{Missing}
use Rattle.zot_model.specs.declared.reply.Reply.{Reply}
use Rattle.zot_uploads.specs.declared.upload_error.UploadError.{UploadError}
use Rattle.zot_uploads.specs.declared.upload_error.UploadError.TheVariants as errors

-- the refusal of a request on the upload of an id (OCI Distribution Specification, "Error Codes")
abbrev pub upload_refusal : ℕ → UploadError → Reply
upload_refusal id errors.Full = refusal TooManyRequests
upload_refusal id errors.Unknown = refusal BlobUploadUnknown
upload_refusal id (errors.Range length) = upload_invalid id length
upload_refusal id errors.TooLarge = refusal SizeInvalid
upload_refusal id (errors.Differ other) = refusal DigestInvalid
upload_refusal id errors.NoMemory = no_memory

-- the refusal of a new upload: memory ran out, or there is no room
abbrev pub new_refusal : UploadError → Reply
new_refusal errors.NoMemory = no_memory
new_refusal _ = refusal TooManyRequests

-- the refusal of a manifest
abbrev pub put_refusal : CheckError → Reply
put_refusal checks.Media = refusal ManifestInvalid
put_refusal checks.Unread = refusal ManifestInvalid
put_refusal (checks.Digest digest) = refusal DigestInvalid
put_refusal (checks.Missing digest) = refusal_with ManifestBlobUnknown (Missing digest)
put_refusal checks.NoMemory = no_memory
