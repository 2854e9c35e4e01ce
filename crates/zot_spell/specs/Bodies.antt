-- The JSON texts that replies have as bodies: compact, with the keys of objects in byte order, as `serde_json` writes them.
use Rattle.std.specs.Prelude.{ℕ, List, [], ◌∷◌, ◌++◌, map, Option, Some, None, codes}
use Rattle.serde_json.specs.Data.{Data, string, array, object, Members, no_members, member}
use Rattle.serde_json.specs.View.{items_of}
use Rattle.serde_json.specs.Written.{compact_text}
use Rattle.zot_digest.specs.Digest.{digest_text}
use Rattle.zot_model.specs.declared.code.Code.{Code}
use Rattle.zot_model.specs.declared.detail.Detail.{Detail}
use Rattle.zot_model.specs.declared.detail.Detail.TheVariants as details
use Rattle.zot_model.specs.Codes.{code_text, message_text}

-- what a refusal's body says beside its code: the digest of what is missing or unreadable, or the digest that was wanted and the one that was found
unfoldable pub detail_text : Detail → Option (List ℕ)
detail_text (details.Missing digest) = Some (digest_text digest)
detail_text (details.Differ wanted found) = Some (codes "expected " ++ digest_text wanted ++ codes " found " ++ digest_text found)
detail_text _ = None

-- the members of an error: its code, a detail where there is one, and the message
abbrev pub error_members : List ℕ → Option (List ℕ) → List ℕ → Members
error_members code None message = member (codes "code") (string code) (member (codes "message") (string message) no_members)
error_members code (Some detail) message = member (codes "code") (string code) (member (codes "detail") (string detail) (member (codes "message") (string message) no_members))

-- the object of one error (OCI Distribution Specification 1.1, "Error Codes")
unfoldable pub errors_value : List ℕ → Option (List ℕ) → List ℕ → Data
errors_value code detail message = object (member (codes "errors") (array (items_of (object (error_members code detail message) ∷ []))) no_members)

-- the body of a refusal
unfoldable pub error_body : Code → Detail → List ℕ
error_body code detail = compact_text (errors_value (code_text code) (detail_text detail) (message_text code))

-- the object of a page of tags (OCI Distribution Specification 1.1, "Listing Tags")
unfoldable pub page_value : List ℕ → List (List ℕ) → Data
page_value name tags = object (member (codes "name") (string name) (member (codes "tags") (array (items_of (map string tags))) no_members))

-- the body of a page of tags
unfoldable pub page_body : List ℕ → List (List ℕ) → List ℕ
page_body name tags = compact_text (page_value name tags)
