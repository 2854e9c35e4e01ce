-- The program's words, what a command did, its exit status and its note.
use Rattle.std.specs.Prelude.{◌≡◌, ◌≢◌, ℕ, ◌||◌, Bool, false, List, [], ◌∷◌, Option, Some, None, ◌⊎◌, codes}
use Rattle.std.specs.Borrow.{Bor}
use Rattle.std.specs.Fmt.{decimal}
use Rattle.std.specs.List.{concat, flat_map}
use Rattle.std.specs.Str.{bytes_eq}
use Rattle.std.specs.declared.io.ErrorKind.{ErrorKind}
use Rattle.std.specs.declared.io.ErrorKind.TheVariants.{OutOfMemory}
use Rattle.zot_head.specs.Fields.{length_of}
use Rattle.zot_session.specs.declared.end.End.{End}
use Rattle.zot_session.specs.declared.end.End.TheVariants as ends
use Rattle.zot_outside.specs.Faults.{Rose}
use Rattle.zot_outside.specs.Streams.{Appends}
use Rattle.zot_session.specs.Sending.{WritesPart}

-- the words of `pipe`
unfoldable pub pipe_words : List (List ℕ)
pipe_words = codes "pipe" ∷ []

-- the words of `pipe` for the path of a configuration and the digits of a member's number
unfoldable pub pipe_at_words : List ℕ → List ℕ → List (List ℕ)
pipe_at_words path digits = codes "pipe" ∷ path ∷ digits ∷ []

-- these are such words, for the member with this number, which is written in 1 to 18 decimal digits
pub record ArePipeAt (words : List (List ℕ)) (path : List ℕ) (member : ℕ) : Type 0 where
  pub digits : List ℕ
  pub words_are : words ≡ pipe_at_words path digits
  pub number_is : length_of digits ≡ Some member

-- the first words of the commands that may wait
unfoldable pub is_waiting_word : List ℕ → Bool
is_waiting_word word = bytes_eq word (codes "pipe") || (bytes_eq word (codes "serve") || bytes_eq word (codes "load"))

-- these words begin with such a word
abbrev pub is_waiting : List (List ℕ) → Bool
is_waiting [] = false
is_waiting (word ∷ words) = is_waiting_word word

-- the exit status for words that fit no command
abbrev pub words_status : ℕ
words_status = 2

-- a command's status: that of words that fit no command, or that of some way to end
abbrev pub IsStatusOf : {A : Type 0} → (A → ℕ) → ℕ → Type 0
IsStatusOf {A = A} status_of code = (code ≡ words_status) ⊎ ((ending : A) × (code ≡ status_of ending))

-- the exit status for an end of the connection of `pipe`
abbrev pub exit_status : End → ℕ
exit_status ends.Closed = 0
exit_status (ends.Refused status) = 3
exit_status (ends.Torn n) = 4
exit_status ends.ReadFault = 5
exit_status ends.WriteFault = 6
exit_status ends.Budget = 7
exit_status ends.NoMemory = 8

-- some texts one after another
abbrev pub joined : List (Bor (List ℕ)) → List ℕ
joined texts = flat_map (λ text. text.now) texts

-- a line of these words and of a number, where there is one
unfoldable pub line : List ℕ → Option ℕ → List ℕ
line words None = concat (words ∷ codes "\n" ∷ [])
line words (Some n) = concat (words ∷ codes " " ∷ decimal n ∷ codes "\n" ∷ [])

-- the line for words that fit no command
unfoldable pub words_line : List ℕ
words_line = line (codes "zotd: words") None

-- the lines for a failed write to the output, for want of memory, and for a failed call on the host
unfoldable pub write_fault_line : List ℕ
write_fault_line = line (codes "zotd: write fault") None

unfoldable pub no_memory_line : List ℕ
no_memory_line = line (codes "zotd: no memory") None

unfoldable pub host_fault_line : List ℕ
host_fault_line = line (codes "zotd: host fault") None

-- the line for a configuration's wrong field, by its path, and what was found there
unfoldable pub config_line : List ℕ → List ℕ → List ℕ
config_line field found = concat (codes "zotd: config " ∷ field ∷ codes ": " ∷ found ∷ codes "\n" ∷ [])

-- the line for a file that isn't there
unfoldable pub missing_line : List ℕ → List ℕ
missing_line path = concat (codes "zotd: missing " ∷ path ∷ codes "\n" ∷ [])

-- the line for an end of the connection of `pipe`, if it has one
unfoldable pub line_of : End → List ℕ
line_of ends.Closed = []
line_of (ends.Refused status) = line (codes "zotd: refused") (Some status)
line_of (ends.Torn n) = line (codes "zotd: torn") (Some n)
line_of ends.ReadFault = line (codes "zotd: read fault") None
line_of ends.WriteFault = write_fault_line
line_of ends.Budget = line (codes "zotd: budget") None
line_of ends.NoMemory = no_memory_line

-- a text was written, and the sink's count of faults stayed; or a part of it was, and the count rose
abbrev pub Notes : List ℕ → Option (List ℕ) → Option (List ℕ) → ℕ → ℕ → Type 0
Notes text before after faults_before faults_after =
    (Appends before text after × (faults_after ≡ faults_before)) ⊎ (WritesPart before text after × Rose faults_before faults_after)

-- these are the words of `pipe` in neither of its forms
pub record AreNoPipe (words : List (List ℕ)) : Type 0 where
  pub alone : words ≢ pipe_words
  pub at : (path : List ℕ) (member : ℕ) → ¬ ArePipeAt words path member

-- where these words fit no command, they were refused, and nothing but the note was touched
abbrev pub RefusesWords : List (List ℕ) → ℕ → Type 0 → (List ℕ → Type 0) → Type 0
RefusesWords words code Untouched Noted = AreNoPipe words → (code ≡ words_status) × Untouched × Noted words_line

-- words that couldn't be read, for an error of this kind, were refused, and nothing but the note was touched. Where memory didn't run out they weren't text, and so fit no command
pub record RefusesUnread (kind : ErrorKind) (code : ℕ) (Untouched : Type 0) (Noted : List ℕ → Type 0) : Type 0 where
  pub memory : kind ≡ OutOfMemory → (code ≡ exit_status ends.NoMemory) × Noted (line_of ends.NoMemory)
  pub text : kind ≢ OutOfMemory → (code ≡ words_status) × Noted words_line
  pub untouched : Untouched
