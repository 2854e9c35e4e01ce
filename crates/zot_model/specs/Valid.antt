-- Which requests there are.
use Rattle.std.specs.Prelude.{◌≡◌, ◌↔◌, ℕ, ◌^◌, ◌<◌, ◌≤◌, length, None, IfSome, ⊤}
use Rattle.zot_model.specs.declared.limits.TheConstants.{BODY_LIMIT, MANIFEST_LIMIT}
use Rattle.zot_model.specs.declared.call.Call.{Call}
use Rattle.zot_model.specs.declared.call.Call.TheVariants.{Base, DeleteBlob, DeleteManifest, Finish, GetBlob, GetManifest, HeadBlob, HeadManifest, Patch, Post, PutManifest, Referrers, Tags, UploadState}
use Rattle.zot_model.specs.declared.request.Request.{Request}
use Rattle.zot_model.specs.declared.span.Span.{Span}

-- the most bytes that a body has
unfoldable pub body_limit : ℕ
body_limit = BODY_LIMIT

-- the most bytes that a manifest has
unfoldable pub manifest_limit : ℕ
manifest_limit = MANIFEST_LIMIT

-- a number of at most 18 decimal digits
abbrev pub IsShort : ℕ → Type 0
IsShort n = n < 10 ^ 18

-- a range whose numbers have at most 18 digits, and whose start isn't above its end
pub record IsSpan (span : Span) : Type 0 where
  pub end : IsShort span.end
  pub ordered : span.start ≤ span.end

-- the numbers have at most 18 digits, and the body keeps its limit
abbrev pub IsValidCall : Call → Type 0
IsValidCall Base = ⊤
IsValidCall (GetBlob digest) = ⊤
IsValidCall (HeadBlob digest) = ⊤
IsValidCall (DeleteBlob digest) = ⊤
IsValidCall (Post mount digest body) = length body ≤ body_limit
IsValidCall (Patch id range body) = IfSome range IsSpan × (length body ≤ body_limit)
IsValidCall (Finish id range digest body) = IfSome range IsSpan × (length body ≤ body_limit)
IsValidCall (UploadState id) = ⊤
IsValidCall (PutManifest reference media body) = length body ≤ manifest_limit
IsValidCall (GetManifest reference) = ⊤
IsValidCall (HeadManifest reference) = ⊤
IsValidCall (DeleteManifest reference) = ⊤
IsValidCall (Tags n last) = IfSome n IsShort
IsValidCall (Referrers digest filter) = ⊤

-- a request that a message can ask: of no repository exactly where it asks for the base route, and with a valid call
pub record IsValid (request : Request) : Type 0 where
  pub named : (request.name ≡ None) ↔ (request.call ≡ Base)
  pub call : IsValidCall request.call
