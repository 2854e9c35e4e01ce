-- Cache records: which objects of a digest are whole, and which are links to another repository's.
use Rattle.std.specs.Prelude.{ℕ, ◌==◌, ◌&&◌, nat_le, Bool, true, if◌then◌else◌, List, [], ◌∷◌, ◌++◌, length, take, drop, map, reverse, Option, Some, None, IfSome, codes}
use Rattle.std.specs.FinMap.Entries.{find}
use Rattle.std.specs.List.{AllByRecursion, after_first, before_first, flat_map, slice_split}
use Rattle.std.specs.List.Sorted.{IsStrictlySortedBy}
use Rattle.std.specs.Ordering.{is_lt}
use Rattle.std.specs.Str.{bytes_eq}
use Rattle.zot_digest.specs.ByteMap.{byte_cmp}
use Rattle.zot_names.specs.Name.{IsName, components_of}
use Rattle.zot_names.specs.Reading.{may_all_follow}
use Rattle.zot_links.specs.declared.record_line.RecordLine.{RecordLine}

-- ---- lines and their text

-- the text of a line without its line feed: `W`, a space and the name of a whole object's repository, or `L`, the name of a link's, and that of its origin
abbrev pub line_by : List ℕ → Option (List ℕ) → List ℕ
line_by name None = codes "W " ++ name
line_by name (Some origin) = codes "L " ++ (name ++ (codes " " ++ origin))

abbrev pub line_text : RecordLine → List ℕ
line_text line = line_by line.name line.origin

-- a text with a line and its line feed behind it
abbrev pub add_text : List ℕ → RecordLine → List ℕ
add_text text line = text ++ (line_text line ++ codes "\n")

-- the text of a record: its lines, each with a line feed
abbrev pub record_text : List RecordLine → List ℕ
record_text lines = flat_map (λ line. line_text line ++ codes "\n") lines

-- a line names repositories
abbrev pub NamesRepos : RecordLine → Type 0
NamesRepos line = IsName line.name × IfSome line.origin IsName

-- lines in order: in byte order of their repositories, of which each is named at most once
pub record AreLines (lines : List RecordLine) : Type 0 where
  pub names : AllByRecursion NamesRepos lines
  pub ascend : IsStrictlySortedBy byte_cmp (map (λ line. line.name) lines)

-- what the line of a repository says of its origin, where it has a line
abbrev pub pair_of : RecordLine → List ℕ × Option (List ℕ)
pair_of line = (line.name, line.origin)

abbrev pub line_in : List RecordLine → List ℕ → Option (Option (List ℕ))
line_in lines name = find byte_cmp name (map pair_of lines)

-- ---- reading

abbrev pub is_feed : ℕ → Bool
is_feed c = c == 10

abbrev pub is_space : ℕ → Bool
is_space c = c == 32

abbrev pub is_less : List ℕ → List ℕ → Bool
is_less bytes other = is_lt (byte_cmp bytes other)

-- whether a text is a repository's name
unfoldable pub is_name : List ℕ → Bool
is_name text = nat_le (length text) 255 && may_all_follow [] (components_of text)

abbrev pub whole_line : List ℕ → Option RecordLine
whole_line name = if is_name name then Some (record { name = name; origin = None }) else None

abbrev pub link_by : List ℕ → List ℕ → Option RecordLine
link_by name origin = if is_name name && is_name origin then Some (record { name = name; origin = Some origin }) else None

abbrev pub link_line : List ℕ → Option RecordLine
link_line rest = link_by (before_first is_space rest) (after_first is_space rest)

-- the line that a part of a record is, without its line feed
unfoldable pub line_of : List ℕ → Option RecordLine
line_of part =
    if bytes_eq (take 2 part) (codes "W ") then whole_line (drop 2 part)
    else if bytes_eq (take 2 part) (codes "L ") then link_line (drop 2 part) else None

abbrev pub join_line : Option RecordLine → Option (List RecordLine) → Option (List RecordLine)
join_line None lines = None
join_line (Some line) None = None
join_line (Some line) (Some lines) = Some (line ∷ lines)

-- the lines of all parts
abbrev pub each_line : List (List ℕ) → Option (List RecordLine)
each_line [] = Some []
each_line (part ∷ parts) = join_line (line_of part) (each_line parts)

-- whether each line's repository is greater than that of the line before it, the first than this one
abbrev pub in_order : List ℕ → List RecordLine → Bool
in_order previous [] = true
in_order previous (line ∷ lines) = is_less previous line.name && in_order line.name lines

abbrev pub if_in_order : Option (List RecordLine) → Option (List RecordLine)
if_in_order None = None
if_in_order (Some lines) = if in_order [] lines then Some lines else None

-- the lines of a text whose last byte is this, and the others these
abbrev pub record_by : List ℕ → Option (List RecordLine)
record_by [] = Some []
record_by (last ∷ before) = if is_feed last then if_in_order (each_line (slice_split is_feed (reverse before))) else None

-- the lines of a record, or none where the bytes are no record
unfoldable pub record_of : List ℕ → Option (List RecordLine)
record_of bytes = record_by (reverse bytes)
