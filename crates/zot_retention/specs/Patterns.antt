-- Patterns of tags: regular expressions with the syntax and the answers of the crate `regex`, on lists of bytes.
use Rattle.std.specs.Prelude.{◌≡◌, ◌≢◌, ◌≤◌, ℕ, Bool, false, List, IsSomeAnd, is_some, option_map, unwrap_or}
use Rattle.std.specs.Str.{chars}
use Rattle.regex.specs.Patterns.{Re, find_str, default_config}
use Rattle.regex.specs.Strings.{IsDefaultFailure}
use Rattle.regex.specs.declared.error.Error.{Error}
use Rattle.regex.specs.declared.error.Error.TheVariants.{OutOfMemory}
use Rattle.regex_syntax.specs.Grammar.{read}
use Rattle.zot_names.specs.Tag.{IsTag}

-- the text is a pattern: the grammar of `regex` reads it, nested no deeper than its limit
unfoldable pub IsPattern : List ℕ → Type 0
IsPattern text = IsSomeAnd (read default_config (chars text)) (λ (re, _). re.depth ≤ default_config.nest_limit)

-- a pattern finds a tag where what it is read as matches somewhere in it; a text that isn't read finds none
unfoldable pub finds : List ℕ → List ℕ → Bool
finds pattern tag = unwrap_or (option_map (λ (re, _). is_some (find_str re.value tag 0)) (read default_config (chars pattern))) false

-- a search for the expression finds what the pattern does, in each tag
abbrev pub FindsAs : Re → List ℕ → Type 0
FindsAs re pattern = (tag : List ℕ) → IsTag tag → is_some (find_str re tag 0) ≡ finds pattern tag

-- `regex` refused the text for another cause than memory: by an error of syntax, or as too large
abbrev pub IsRefused : List ℕ → Type 0
IsRefused text = (error : Error) × (error ≢ OutOfMemory) × IsDefaultFailure text error
