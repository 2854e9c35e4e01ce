-- What a reader of names has seen, byte by byte and part by part. The contracts for other crates say `IsName`.
use Rattle.std.specs.Prelude.{ℕ, ◌==◌, ◌&&◌, ◌||◌, not, Bool, true, false, if◌then◌else◌, List, [], ◌∷◌, Option, Some, None, codes}
use Rattle.std.specs.Str.{bytes_eq}
use Rattle.zot_names.specs.declared.component.Place.{Place}
use Rattle.zot_names.specs.declared.component.Place.TheVariants.{Start, Run, Underscore, Dashes}
use Rattle.zot_names.specs.Name.{is_alphanumeric}

-- the place after a byte of a separator, or none where it can't stand
abbrev pub after_separator : Place → ℕ → Option Place
after_separator Start c = None
after_separator Run c = if c == 46 then Some Start else if c == 95 then Some Underscore else if c == 45 then Some Dashes else None
after_separator Underscore c = if c == 95 then Some Start else None
after_separator Dashes c = if c == 45 then Some Dashes else None

-- the place after a byte
abbrev pub place_after : Place → ℕ → Option Place
place_after place c = if is_alphanumeric c then Some Run else after_separator place c

-- whether a component may end here
abbrev pub may_end : Place → Bool
may_end Start = false
may_end Run = true
may_end Underscore = false
may_end Dashes = false

-- whether these bytes complete a component from the place on
abbrev pub completes : Option Place → List ℕ → Bool
completes None bytes = false
completes (Some place) [] = may_end place
completes (Some place) (c ∷ bytes) = completes (place_after place c) bytes

-- whether a part is reserved, after the one before it
unfoldable pub is_reserved : List ℕ → List ℕ → Bool
is_reserved previous part =
    bytes_eq part (codes "index.json") || (bytes_eq part (codes "oci-layout")
    || (bytes_eq previous (codes "blobs") && (bytes_eq part (codes "sha256") || bytes_eq part (codes "sha512"))))

-- whether a part may stand after the one before it
abbrev pub may_follow : List ℕ → List ℕ → Bool
may_follow previous part = completes (Some Start) part && not (is_reserved previous part)

-- whether each of these parts may stand after the one before it, the first after this one
abbrev pub may_all_follow : List ℕ → List (List ℕ) → Bool
may_all_follow previous [] = true
may_all_follow previous (part ∷ parts) = may_follow previous part && may_all_follow part parts
