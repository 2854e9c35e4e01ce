-- Holders one by one, in their order: the least link to one, and what they are after that link became whole.
use Rattle.std.specs.Prelude.{ℕ, Bool, false, if◌then◌else◌, List, [], ◌∷◌, Option, Some, None, option_map}
use Rattle.std.specs.Str.{bytes_eq}
use Rattle.zot_links.specs.declared.record_line.RecordLine.{RecordLine}

-- an origin, which is another one where it is this one
abbrev pub redirect : List ℕ → List ℕ → Option (List ℕ) → Option (List ℕ)
redirect from to None = None
redirect from to (Some origin) = if bytes_eq origin from then Some to else Some origin

-- what a holder is after the link `least` of `name` became whole, and `name` and its other links became links to it
abbrev pub promote : List ℕ → List ℕ → List ℕ → Option (Option (List ℕ)) → Option (Option (List ℕ))
promote name least other holder =
    if bytes_eq other least then Some None else if bytes_eq other name then Some (Some least) else option_map (redirect name least) holder

-- whether a holder is a link to a repository
abbrev pub is_link_to : List ℕ → Option (List ℕ) → Bool
is_link_to name None = false
is_link_to name (Some origin) = bytes_eq origin name

-- the first link to a repository
abbrev pub first_link : List ℕ → List (List ℕ × Option (List ℕ)) → Option (List ℕ)
first_link name [] = None
first_link name (e ∷ es) = if is_link_to name e.1 then Some e.0 else first_link name es

-- the line of a holder
abbrev pub line_of_entry : List ℕ × Option (List ℕ) → RecordLine
line_of_entry e = record { name = e.0; origin = e.1 }
