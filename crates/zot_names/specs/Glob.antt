-- Globs, on lists of bytes: rules of this project.
use Rattle.std.specs.Prelude.{◌≡◌, ◌≢◌, ℕ, ◌==◌, ◌&&◌, if◌then◌else◌, List, [], ◌∷◌, ◌++◌}
use Rattle.std.specs.List.{All}
use Rattle.zot_names.specs.Name.{slash}
use Rattle.zot_names.specs.declared.piece.Piece.{Piece}
use Rattle.zot_names.specs.declared.piece.Piece.TheVariants.{Byte, Within, Across}

-- the byte `*`
abbrev pub star : ℕ
star = 42

-- the pieces of a glob: pairs of stars are taken from the left, then each other star, and each other byte
abbrev pub pieces_of : List ℕ → List Piece
pieces_of [] = []
pieces_of (c ∷ []) = (if c == star then Within else Byte c) ∷ []
pieces_of (c ∷ d ∷ rest) =
    if c == star && d == star then Across ∷ pieces_of rest
    else (if c == star then Within else Byte c) ∷ pieces_of (d ∷ rest)

-- no byte is a slash
abbrev pub HasNoSlash : List ℕ → Type 0
HasNoSlash text = All (λ c. c ≢ slash) text

-- pieces stand for a text: a byte for itself, `*` for any run without a slash, `**` for any run
abbrev pub StandFor : List Piece → List ℕ → Type 0
StandFor [] text = text ≡ []
StandFor (Byte c ∷ pieces) text = (rest : List ℕ) × (text ≡ c ∷ rest) × StandFor pieces rest
StandFor (Within ∷ pieces) text = (run : List ℕ) × (rest : List ℕ) × (text ≡ run ++ rest) × HasNoSlash run × StandFor pieces rest
StandFor (Across ∷ pieces) text = (run : List ℕ) × (rest : List ℕ) × (text ≡ run ++ rest) × StandFor pieces rest

-- the glob matches the name
abbrev pub Matches : List ℕ → List ℕ → Type 0
Matches glob name = StandFor (pieces_of glob) name
