-- A page of tags is written without floats, and the link to the next one is its parts, one after the other.
use Rattle.std.proofs.Common.{◌≡◌, ℕ, false, List, [], ◌∷◌, map, ◌++◌, append_assoc, codes, decimal, refl}
use Rattle.serde_json.specs.Data.{string}
use Rattle.serde_json.specs.View.{items_of}
use Rattle.serde_json.specs.Written.{has_float, items_have_float}
use Rattle.zot_spell.specs.Bodies.{page_value}
use Rattle.zot_spell.specs.Fields.{link_text, page_place}

texts_plain : (tags : List (List ℕ)) → items_have_float (items_of (map string tags)) ≡ false
texts_plain [] = refl
texts_plain (tag ∷ tags) = texts_plain tags

pub page_plain : (name : List ℕ) (tags : List (List ℕ)) → has_float (page_value name tags) ≡ false
unfolding page_value
page_plain name tags = rw (texts_plain tags)

pub link_of : (name : List ℕ) (n : ℕ) (most last tag link : List ℕ) → most ≡ decimal n → last ≡ tag
    → link ≡ codes "</v2/" ++ (name ++ (codes "/tags/list?n=" ++ (most ++ (codes "&last=" ++ (last ++ (codes ">; rel=\"next\"" ++ [])))))) → link ≡ link_text name n tag
unfolding link_text page_place
link_of name n most last tag link m t e = rw (e, m, t) (simp append_assoc refl)
