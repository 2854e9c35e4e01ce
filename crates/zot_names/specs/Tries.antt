-- What the parts of a glob's match say of the rest that they leave.
use Rattle.std.specs.Prelude.{◌≡◌, ◌≢◌, ◌⊎◌, ℕ, ◌+◌, ◌<◌, Bool, true, false, List, [], ◌∷◌, ◌++◌, length, map, ◌↔◌}
use Rattle.zot_names.specs.declared.passed.Passed.{Passed}
use Rattle.zot_names.specs.declared.passed.Passed.TheVariants as passed
use Rattle.zot_names.specs.declared.piece.Piece.{Piece}
use Rattle.zot_names.specs.declared.piece.Piece.TheVariants.{Byte, Within, Across}
use Rattle.zot_names.specs.declared.reached.Reached.{Reached}
use Rattle.zot_names.specs.declared.reached.Reached.TheVariants as reached
use Rattle.zot_names.specs.Glob.{StandFor, pieces_of}
use Rattle.zot_names.specs.Name.{slash}

-- the glob and the text begin with the same bytes, after which these are left
pub record IsAfterBytes (glob text after rest : List ℕ) : Type 0 where
  pub bytes : List ℕ
  pub glob_is : pieces_of glob ≡ map Byte bytes ++ pieces_of after
  pub text_is : text ≡ bytes ++ rest

-- the same, where a star stands between the bytes and what is left of the glob
pub record IsAfterStar (star : Piece) (glob text after rest : List ℕ) : Type 0 where
  pub bytes : List ℕ
  pub glob_is : pieces_of glob ≡ map Byte bytes ++ (star ∷ pieces_of after)
  pub text_is : text ≡ bytes ++ rest
  pub shorter : length after < length glob

-- how far the bytes at a glob's front go in a text
abbrev pub Reaches : List ℕ → List ℕ → Reached → Type 0
Reaches glob text reached.Whole = StandFor (pieces_of glob) text
Reaches glob text (reached.Within after rest) = IsAfterStar Within glob text after.now rest.now
Reaches glob text (reached.Across after rest) = IsAfterStar Across glob text after.now rest.now
Reaches glob text reached.Failed = ¬ StandFor (pieces_of glob) text

-- the pieces, after this star where there is one
abbrev pub after_star : Bool → Piece → List Piece → List Piece
after_star true star pieces = star ∷ pieces
after_star false star pieces = pieces

-- the whole glob stands for the text where what is left of it, after this star, stands for what is left of the text;
-- and where the glob stands for an end of the text, what is left of it does for an end of what is left
pub record IsLeft (star : Piece) (starred : Bool) (glob text after rest : List ℕ) : Type 0 where
  pub same : StandFor (pieces_of glob) text ↔ StandFor (after_star starred star (pieces_of after)) rest
  pub later : StandFor (Across ∷ pieces_of glob) text → StandFor (Across ∷ pieces_of after) rest

-- the text begins with a byte other than a slash, after which this is left
abbrev pub BeginsWithOther : List ℕ → List ℕ → Type 0
BeginsWithOther text rest = (first : ℕ) × (first ≢ slash) × (text ≡ first ∷ rest)

-- the text begins with no such byte
abbrev pub BeginsWithNone : List ℕ → Type 0
BeginsWithNone text = (text ≡ []) ⊎ ((rest : List ℕ) × (text ≡ slash ∷ rest))

-- how far the pieces before a glob's next `**` go in a text
abbrev pub Passes : List ℕ → List ℕ → Passed → Type 0
Passes glob text passed.Whole = StandFor (pieces_of glob) text
Passes glob text (passed.Across after rest) =
    IsLeft Across true glob text after.now rest.now × (length after.now + length rest.now < length glob + length text)
Passes glob text passed.Failed = ¬ StandFor (pieces_of glob) text
