-- What is known of a call by its kind.
use Rattle.std.specs.Prelude.{Bool, true, false}
use Rattle.zot_model.specs.declared.call.Call.{Call}
use Rattle.zot_model.specs.declared.call.Call.TheVariants.{Base, DeleteBlob, DeleteManifest, Finish, GetBlob, GetManifest, HeadBlob, HeadManifest, Patch, Post, PutManifest, Referrers, Tags, UploadState}

-- whether the call is asked with HEAD, whose reply shows no body (RFC 9110, section 9.3.2)
abbrev pub is_head : Call → Bool
is_head Base = false
is_head (GetBlob digest) = false
is_head (HeadBlob digest) = true
is_head (DeleteBlob digest) = false
is_head (Post mount digest body) = false
is_head (Patch id range body) = false
is_head (Finish id range digest body) = false
is_head (UploadState id) = false
is_head (PutManifest reference media body) = false
is_head (GetManifest reference) = false
is_head (HeadManifest reference) = true
is_head (DeleteManifest reference) = false
is_head (Tags n last) = false
is_head (Referrers digest filter) = false
