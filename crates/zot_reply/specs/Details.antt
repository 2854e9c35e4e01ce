-- The bodies of refusals with a detail.
use Rattle.std.specs.Prelude.{◌≡◌, ℕ, List, ◌++◌, length, codes, ⊤}
use Rattle.zot_digest.specs.Digest.{IsDigest, digest_text}
use Rattle.zot_model.specs.Codes.{code_text}
use Rattle.zot_model.specs.declared.code.Code.{Code}
use Rattle.zot_model.specs.declared.detail.Detail.{Detail}
use Rattle.zot_model.specs.declared.detail.Detail.TheVariants as details
use Rattle.zot_reply.specs.Reading.{FindsId, FindsSize, Seen}

-- the body of a refusal up to its detail's text
unfoldable pub detail_front : Code → List ℕ
detail_front code = codes "{\"errors\":[{\"code\":\"" ++ (code_text code ++ codes "\",\"detail\":\"")

-- the digest at this place of the detail is this one
abbrev pub FindsDigest : Code → List ℕ → ℕ → List ℕ → Type 0
FindsDigest code body place found = (front digest rest : List ℕ) → length front ≡ place → IsDigest digest
    → body ≡ detail_front code ++ (front ++ (digest_text digest ++ rest)) → digest ≡ found

-- the values of a detail beside this code are those that are seen
abbrev pub IsDetailFrom : Code → Seen → Detail → Type 0
IsDetailFrom code seen (details.Missing digest) = FindsDigest code seen.body 0 digest
IsDetailFrom code seen (details.Differ wanted found) = FindsDigest code seen.body 9 wanted × FindsDigest code seen.body 87 found
IsDetailFrom code seen (details.Session id size) = FindsId seen id × FindsSize seen size
IsDetailFrom code seen _ = ⊤
