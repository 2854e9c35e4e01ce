-- The parts of a request's path.
use Rattle.std.proofs.Common.{◌≡◌, ◌≢◌, ℕ, ◌<◌, ◌==◌, Bool, true, false, cond, List, [], ◌∷◌, ◌++◌, All, IsUtf8, codes, map, length, refl, ap, ◌∙◌, arith, inr}
use Rattle.std.specs.List.{AllByRecursion, onto_first, slice_split}
use Rattle.std.proofs.lemmas.Bool.{cond_both, ne_eqb}
use Rattle.std.proofs.lemmas.List.Elements.{All-cons, All-head, All-nil, All-tail, All-weaker}
use Rattle.std.proofs.lemmas.List.Splits.{length-slice_split, slice_split_none}
use Rattle.percent_encoding.specs.Percent.{percent_decode}
use Rattle.percent_encoding.proofs.PercentLemmas.{percent_decode-nil, percent_decode_not_percent}
use Rattle.zot_route.specs.declared.form.Form.{Form}
use Rattle.zot_route.specs.declared.form.Form.TheVariants as forms
use Rattle.zot_route.specs.Path.{IsEnding, IsPath, decoded}
use Rattle.zot_delivery.proofs.ByteLemmas.{IsPartByte, IsPathByte, path_visible, visible_text}

-- the parts between slashes
abbrev pub split : List ℕ → List (List ℕ)
split text = slice_split (λ b. b == 47) text

-- ---- decoding leaves a path's parts as they are

module _ (P : ℕ → Type 0) where
  onto_all : (b : ℕ) (parts : List (List ℕ)) → P b → AllByRecursion (All P) parts → AllByRecursion (All P) (onto_first b parts)
  onto_all b [] h all = (All-cons P b [] h (All-nil P), tt)
  onto_all b (part ∷ parts) h all = (All-cons P b part h all.0, all.1)

  split_all : (text : List ℕ) → All P text → AllByRecursion (All P) (split text)
  split_all [] all = (All-nil P, tt)
  split_all (b ∷ text) all =
      let rest = split_all text (All-tail P b text all) in
      cond_both (b == 47) ([] ∷ split text) (onto_first b (split text)) (AllByRecursion (All P))
      (λ _. (All-nil P, rest)) (λ _. onto_all b (split text) (All-head P b text all) rest)

decoded_part : (part : List ℕ) → All IsPathByte part → percent_decode part ≡ part
decoded_part [] all = percent_decode-nil
decoded_part (b ∷ part) all =
    percent_decode_not_percent b part (All-head IsPathByte b part all).percent ∙ ap (λ t. b ∷ t) (decoded_part part (All-tail IsPathByte b part all))

decoded_parts : (parts : List (List ℕ)) → AllByRecursion (All IsPathByte) parts → map percent_decode parts ≡ parts
decoded_parts [] all = refl
decoded_parts (part ∷ parts) all = λ i. decoded_part part all.0 i ∷ decoded_parts parts all.1 i

text_parts : (parts : List (List ℕ)) → AllByRecursion (All IsPathByte) parts → AllByRecursion IsUtf8 parts
text_parts [] all = tt
text_parts (part ∷ parts) all = (visible_text part (path_visible part all.0), text_parts parts all.1)

pub decoded-path : (path : List ℕ) → All IsPathByte path → decoded path ≡ split path
decoded-path path all = decoded_parts (split path) (split_all IsPathByte path all)

pub path_texts : (path : List ℕ) → All IsPathByte path → AllByRecursion IsUtf8 (split path)
path_texts path all = text_parts (split path) (split_all IsPathByte path all)

-- ---- the parts of a name and those after it

onto-append : (b : ℕ) (parts more : List (List ℕ)) → 0 < length parts → onto_first b (parts ++ more) ≡ onto_first b parts ++ more
onto-append b [] more some = absurd (omega arith)
onto-append b (part ∷ parts) more some = refl

-- where two texts are joined by a slash, so are their parts
pub split-join : (text rest : List ℕ) → split (text ++ 47 ∷ rest) ≡ split text ++ split rest
split-join [] rest = refl
split-join (b ∷ text) rest =
    step (b == 47) (split (text ++ 47 ∷ rest)) (split text) (split rest) (split-join text rest) (omega (arith, length-slice_split (λ c. c == 47) text))
  where
    step : (t : Bool) (whole parts more : List (List ℕ)) → whole ≡ parts ++ more → 0 < length parts
        → cond t ([] ∷ whole) (onto_first b whole) ≡ cond t ([] ∷ parts) (onto_first b parts) ++ more
    step true whole parts more e some = ap (λ (w : List (List ℕ)). [] ∷ w) e
    step false whole parts more e some = ap (onto_first b) e ∙ onto-append b parts more some

-- a text without slashes is one part
pub split_part : (text : List ℕ) → All IsPartByte text → split text ≡ text ∷ []
split_part text all =
    slice_split_none (λ b. b == 47) text (All-weaker IsPartByte (λ b. (b == 47) ≡ false) (λ b h. ne_eqb b 47 h.slash) text all)

-- the path of a repository's name and an ending
pub named_path : (parts : List (List ℕ)) (name rest : List ℕ) (form : Form) (text : List ℕ) (ending : List (List ℕ)) → parts ≡ split (codes "/v2/" ++ name ++ 47 ∷ rest)
    → split rest ≡ ending → IsEnding form (split name) text ending → IsPath parts form (split name) text
named_path parts name rest form text ending e f ends =
    record {
      after = split name ++ ending;
      spelled = e ∙ ap (λ (p : List (List ℕ)). [] ∷ codes "v2" ∷ p) (split-join name rest ∙ ap (λ (p : List (List ℕ)). split name ++ p) f);
      is = record { ending = ending; ends = ends; spelled = refl };
    }

-- ---- a path of each form

pub base_path : (parts : List (List ℕ)) → parts ≡ split (codes "/v2/") → IsPath parts forms.Base [] []
base_path parts e = record { after = [] ∷ []; spelled = e; is = record { ending = [] ∷ []; ends = (refl, refl, inr refl); spelled = refl } }

module _ (parts : List (List ℕ)) (name text : List ℕ) where
  pub blob_path : parts ≡ split (codes "/v2/" ++ name ++ (codes "/blobs/" ++ text)) → All IsPartByte text → text ≢ codes "uploads" → IsPath parts forms.Blob (split name) text
  blob_path e all other =
      named_path parts name (codes "blobs/" ++ text) forms.Blob text (codes "blobs" ∷ text ∷ []) e (ap (λ (p : List (List ℕ)). codes "blobs" ∷ p) (split_part text all)) (other, refl)

  pub upload_path : parts ≡ split (codes "/v2/" ++ name ++ (codes "/blobs/uploads/" ++ text)) → All IsPartByte text → text ≢ [] → IsPath parts forms.Upload (split name) text
  upload_path e all some =
      named_path parts name (codes "blobs/uploads/" ++ text) forms.Upload text (codes "blobs" ∷ codes "uploads" ∷ text ∷ []) e
      (ap (λ (p : List (List ℕ)). codes "blobs" ∷ codes "uploads" ∷ p) (split_part text all)) (some, refl)

  pub manifest_path : parts ≡ split (codes "/v2/" ++ name ++ (codes "/manifests/" ++ text)) → All IsPartByte text → IsPath parts forms.Manifest (split name) text
  manifest_path e all =
      named_path parts name (codes "manifests/" ++ text) forms.Manifest text (codes "manifests" ∷ text ∷ []) e (ap (λ (p : List (List ℕ)). codes "manifests" ∷ p) (split_part text all)) refl

  pub referrers_path : parts ≡ split (codes "/v2/" ++ name ++ (codes "/referrers/" ++ text)) → All IsPartByte text → IsPath parts forms.Referrers (split name) text
  referrers_path e all =
      named_path parts name (codes "referrers/" ++ text) forms.Referrers text (codes "referrers" ∷ text ∷ []) e (ap (λ (p : List (List ℕ)). codes "referrers" ∷ p) (split_part text all)) refl

module _ (parts : List (List ℕ)) (name : List ℕ) where
  pub uploads_path : parts ≡ split (codes "/v2/" ++ name ++ codes "/blobs/uploads/") → IsPath parts forms.Uploads (split name) []
  uploads_path e = named_path parts name (codes "blobs/uploads/") forms.Uploads [] (codes "blobs" ∷ codes "uploads" ∷ [] ∷ []) e refl (refl, inr refl)

  pub tags_path : parts ≡ split (codes "/v2/" ++ name ++ codes "/tags/list") → IsPath parts forms.Tags (split name) []
  tags_path e = named_path parts name (codes "tags/list") forms.Tags [] (codes "tags" ∷ codes "list" ∷ []) e refl (refl, refl)
