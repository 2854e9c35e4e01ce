-- The bodies of pages of tags, and the links to the next ones.
use Rattle.std.specs.Prelude.{ℕ, Bool, true, List, [], ◌∷◌, ◌++◌, codes}
use Rattle.std.specs.Fmt.{decimal}
use Rattle.serde_json.specs.Written.{comma_if}

-- the tags of a page, through its end; a comma stands before those that are later
abbrev pub tags_text : Bool → List (List ℕ) → List ℕ
tags_text later [] = 93 ∷ (125 ∷ [])
tags_text later (tag ∷ tags) = comma_if later ++ (34 ∷ (tag ++ (34 ∷ tags_text true tags)))

-- a link from its number on
abbrev pub link_rest : ℕ → List ℕ → List ℕ
link_rest n tag = decimal n ++ (38 ∷ (codes "last" ++ (61 ∷ (tag ++ (62 ∷ codes "; rel=\"next\"")))))
