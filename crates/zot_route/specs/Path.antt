-- The paths of a registry (OCI Distribution Specification 1.1, "Endpoints"; RFC 3986, sections 2.1 and 3.3), on lists of bytes.
use Rattle.std.specs.Prelude.{◌≡◌, ◌≢◌, ◌⊎◌, ℕ, ◌==◌, List, [], ◌∷◌, ◌++◌, map, codes}
use Rattle.std.specs.List.{after_first, before_first, slice_split}
use Rattle.percent_encoding.specs.Percent.{percent_decode}
use Rattle.zot_names.specs.Name.{slash}
use Rattle.zot_route.specs.declared.form.Form.{Form}
use Rattle.zot_route.specs.declared.form.Form.TheVariants as forms

-- the byte between a path and its query, `?`
abbrev pub question : ℕ
question = 63

-- the segments of a path between its slashes, each with its escapes decoded once; a wrong escape stands as it is
abbrev pub decoded : List ℕ → List (List ℕ)
decoded path = map percent_decode (slice_split (λ b. b == slash) path)

-- the segments of a target's path
unfoldable pub segments_of : List ℕ → List (List ℕ)
segments_of target = decoded (before_first (λ b. b == question) target)

-- the query of a target, or no bytes where it has none
unfoldable pub query_of : List ℕ → List ℕ
query_of target = after_first (λ b. b == question) target

-- the last segments of a path of that form, after the segments of a name, and the text that they have
abbrev pub IsEnding : Form → List (List ℕ) → List ℕ → List (List ℕ) → Type 0
IsEnding forms.Base name text ending = (name ≡ []) × (text ≡ []) × ((ending ≡ []) ⊎ (ending ≡ [] ∷ []))
IsEnding forms.Tags name text ending = (text ≡ []) × (ending ≡ codes "tags" ∷ codes "list" ∷ [])
IsEnding forms.Referrers name text ending = ending ≡ codes "referrers" ∷ text ∷ []
IsEnding forms.Manifest name text ending = ending ≡ codes "manifests" ∷ text ∷ []
IsEnding forms.Uploads name text ending = (text ≡ []) × ((ending ≡ codes "blobs" ∷ codes "uploads" ∷ []) ⊎ (ending ≡ codes "blobs" ∷ codes "uploads" ∷ [] ∷ []))
IsEnding forms.Upload name text ending = (text ≢ []) × (ending ≡ codes "blobs" ∷ codes "uploads" ∷ text ∷ [])
IsEnding forms.Blob name text ending = (text ≢ codes "uploads") × (ending ≡ codes "blobs" ∷ text ∷ [])

-- the segments are those of a name, and after them the last ones of that form
pub record IsAfterVersion (segments : List (List ℕ)) (form : Form) (name : List (List ℕ)) (text : List ℕ) : Type 0 where
  pub ending : List (List ℕ)
  pub ends : IsEnding form name text ending
  pub spelled : segments ≡ name ++ ending

-- the segments are those of a path of that form: `/v2/`, the segments of a name, and the last ones
pub record IsPath (segments : List (List ℕ)) (form : Form) (name : List (List ℕ)) (text : List ℕ) : Type 0 where
  pub after : List (List ℕ)
  pub spelled : segments ≡ [] ∷ codes "v2" ∷ after
  pub is : IsAfterVersion after form name text
