-- Lines of a message and where they end (RFC 9112, sections 2.1 and 2.2): a line ends with LF, and one
-- that has nothing before its LF, or CR alone, is empty.
use Rattle.std.specs.Prelude.{ℕ, suc, ◌+◌, Bool, true, false, ◌&&◌, List, [], ◌∷◌, length, take, drop, if◌then◌else◌, ◌==◌, nat_le, Option, Some, None, option_map, count_by}
use Rattle.httparse.specs.Ascii.{line_feed, carriage_return}

-- whether an LF stands at the front
abbrev pub begins_feed : List ℕ → Bool
begins_feed [] = false
begins_feed (b ∷ bytes) = b == line_feed

-- the bytes through the first LF
abbrev pub line_end : List ℕ → Option ℕ
line_end [] = None
line_end (b ∷ bytes) = if b == line_feed then Some 1 else option_map suc (line_end bytes)

-- the bytes through the first empty line, from a line's start (true) or from within a line
abbrev pub section_end : Bool → List ℕ → Option ℕ
section_end starts [] = None
section_end true (b ∷ bytes) =
    if b == line_feed then Some 1
    else (if b == carriage_return && begins_feed bytes then Some 2 else option_map suc (section_end false bytes))
section_end false (b ∷ bytes) = option_map suc (section_end (b == line_feed) bytes)

-- how many bytes the empty lines in front have
abbrev pub blank_len : List ℕ → ℕ
blank_len [] = 0
blank_len (a ∷ []) = if a == line_feed then 1 else 0
blank_len (a ∷ b ∷ bytes) =
    if a == line_feed then suc (blank_len (b ∷ bytes))
    else (if a == carriage_return && b == line_feed then suc (suc (blank_len bytes)) else 0)

-- the bytes through the first empty line after a line that isn't empty
abbrev pub head_end : List ℕ → Option ℕ
head_end bytes = option_map (λ n. blank_len bytes + n) (section_end false (drop (blank_len bytes) bytes))

-- how many lines end in the bytes, without the empty ones in front
abbrev pub lines_in : List ℕ → ℕ
lines_in bytes = count_by (λ b. b == line_feed) (drop (blank_len bytes) bytes)

-- How far a part of a message goes that may have so many bytes: it ends after its first bytes, it is
-- longer than that, or it isn't over yet.
pub data Extent : Type 0 where
  Ends : ℕ → Extent
  Passes : Extent
  Goes : Extent

-- where it doesn't end within the limit: whether so many bytes have come
abbrev pub extent_of : Option ℕ → Bool → Extent
extent_of (Some n) come = Ends n
extent_of None true = Passes
extent_of None false = Goes

-- how far the part at the front goes, where so many bytes are looked at
abbrev pub extent : (List ℕ → Option ℕ) → ℕ → List ℕ → Extent
extent part_end limit bytes = extent_of (part_end (take limit bytes)) (nat_le limit (length bytes))
