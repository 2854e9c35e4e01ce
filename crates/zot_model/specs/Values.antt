-- What the values of a request and of a reply are, by their types.
use Rattle.std.specs.Prelude.{ℕ, ◌<◌, ◌^◌, IfSome, IsUtf8, ⊤}
use Rattle.std.specs.List.{AllByRecursion}
use Rattle.zot_digest.specs.Digest.{IsDigest}
use Rattle.zot_media.specs.declared.reference.Reference.{Reference}
use Rattle.zot_media.specs.declared.reference.Reference.TheVariants as references
use Rattle.zot_model.specs.declared.call.Call.{Call}
use Rattle.zot_model.specs.declared.call.Call.TheVariants as calls
use Rattle.zot_model.specs.declared.detail.Detail.{Detail}
use Rattle.zot_model.specs.declared.detail.Detail.TheVariants as details
use Rattle.zot_model.specs.declared.mount.Mount.{Mount}
use Rattle.zot_model.specs.declared.reply.Reply.{Reply}
use Rattle.zot_model.specs.declared.reply.Reply.TheVariants as replies
use Rattle.zot_model.specs.declared.request.Request.{Request}
use Rattle.zot_names.specs.Name.{IsName}
use Rattle.zot_names.specs.Tag.{IsTag}

-- a reference is a tag or a digest
abbrev pub IsRef : Reference → Type 0
IsRef (references.Tag tag) = IsTag tag
IsRef (references.Digest digest) = IsDigest digest

-- an id is a number of 64 bits, and so is a size
abbrev pub IsWord : ℕ → Type 0
IsWord n = n < 2 ^ 64

-- a blob to be taken over has a digest, and may have a name
pub record IsMount (mount : Mount) : Type 0 where
  pub digest : IsDigest mount.digest
  pub from : IfSome mount.from IsName

-- digests, tags, names, ids and texts are such
abbrev pub HasCallValues : Call → Type 0
HasCallValues calls.Base = ⊤
HasCallValues (calls.GetBlob digest) = IsDigest digest
HasCallValues (calls.HeadBlob digest) = IsDigest digest
HasCallValues (calls.DeleteBlob digest) = IsDigest digest
HasCallValues (calls.Post mount digest body) = IfSome mount IsMount × IfSome digest IsDigest
HasCallValues (calls.Patch id range body) = IfSome id IsWord
HasCallValues (calls.Finish id range digest body) = IfSome id IsWord × IsDigest digest
HasCallValues (calls.UploadState id) = IfSome id IsWord
HasCallValues (calls.PutManifest reference media body) = IsRef reference
HasCallValues (calls.GetManifest reference) = IsRef reference
HasCallValues (calls.HeadManifest reference) = IsRef reference
HasCallValues (calls.DeleteManifest reference) = IsRef reference
HasCallValues (calls.Tags n last) = IfSome last IsUtf8
HasCallValues (calls.Referrers digest filter) = IsDigest digest × IfSome filter IsUtf8

-- the values of a request are those that its types have
pub record HasValues (request : Request) : Type 0 where
  pub name : IfSome request.name IsName
  pub call : HasCallValues request.call

-- the values of a detail are those that its type has
abbrev pub IsRealDetail : Detail → Type 0
IsRealDetail details.None = ⊤
IsRealDetail (details.Missing digest) = IsDigest digest
IsRealDetail (details.Differ wanted found) = IsDigest wanted × IsDigest found
IsRealDetail (details.Session id size) = IsWord id × IsWord size
IsRealDetail (details.Allow which) = ⊤

-- the values of a reply are those that its type has
abbrev pub IsReal : Reply → Type 0
IsReal replies.Base = ⊤
IsReal (replies.Blob digest bytes) = IsDigest digest
IsReal (replies.BlobHead digest size) = IsDigest digest × IsWord size
IsReal (replies.BlobMade digest) = IsDigest digest
IsReal (replies.Session id size status) = IsWord id × IsWord size
IsReal (replies.ManifestMade digest subject) = IsDigest digest × IfSome subject IsDigest
IsReal (replies.Manifest digest media bytes) = IsDigest digest
IsReal (replies.ManifestHead digest media size) = IsDigest digest × IsWord size
IsReal (replies.Tags tags next n) = AllByRecursion IsTag tags × IfSome next IsTag × IsWord n
IsReal (replies.Referrers text filtered) = ⊤
IsReal replies.Deleted = ⊤
IsReal (replies.Refused status code detail) = IsRealDetail detail
