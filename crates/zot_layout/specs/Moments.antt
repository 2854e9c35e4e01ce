-- Moments in annotations, in seconds: rules of this project.
use Rattle.std.specs.Prelude.{ℕ, ◌^◌, ◌&&◌, nat_lt, nat_le, Bool, true, false, if◌then◌else◌, List, length, Option, Some, None}
use Rattle.std.specs.Char.{is_ascii_digit}
use Rattle.std.specs.List.{list_all}
use Rattle.std.specs.Str.Parse.{digits_value}
use Rattle.serde_json.specs.Data.{Data}
use Rattle.serde_json.specs.Find.{as_str}
use Rattle.zot_media.specs.Fields.{◌>>=◌}
use Rattle.zot_layout.specs.declared.moment.Moment.{Moment}
use Rattle.zot_layout.specs.declared.moment.Moment.TheVariants.{At, Missing, Wrong}

-- whether a text is 1 to 20 decimal digits
abbrev pub are_digits : List ℕ → Bool
are_digits text = nat_lt 0 (length text) && (nat_le (length text) 20 && list_all is_ascii_digit text)

-- a number that 64 bits hold
abbrev pub moment_within : ℕ → Option ℕ
moment_within moment = if nat_lt moment (2 ^ 64) then Some moment else None

-- the moment that a text writes: 1 to 20 decimal digits of a number that 64 bits hold
unfoldable pub moment_named : List ℕ → Option ℕ
moment_named text = if are_digits text then moment_within (digits_value 10 text) else None

abbrev pub moment_by : Option ℕ → Moment
moment_by None = Wrong
moment_by (Some moment) = At moment

-- what an annotation says of a moment: it may be missing, and else is a text that writes one
abbrev pub moment_of : Option Data → Moment
moment_of None = Missing
moment_of (Some field) = moment_by (as_str field >>= moment_named)

-- the moment, or the given one where it is missing
abbrev pub moment_or : ℕ → Moment → ℕ
moment_or moment Missing = moment
moment_or moment (At said) = said
moment_or moment Wrong = moment

-- whether it is missing or a moment
abbrev pub is_moment : Moment → Bool
is_moment Missing = true
is_moment (At moment) = true
is_moment Wrong = false
