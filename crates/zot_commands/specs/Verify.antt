-- What `verify` does: the words, the line that it writes, how it ends, its exit status and its note.
use Rattle.std.specs.Prelude.{◌≡◌, ◌≢◌, ℕ, List, [], ◌∷◌, length, Option, Ok, Err, codes}
use Rattle.std.specs.Fmt.{decimal}
use Rattle.std.specs.List.{concat}
use Rattle.zot_config.specs.Settings.{Settings}
use Rattle.zot_host.specs.Configured.{Gives}
use Rattle.zot_outside.specs.Objects.{IsMissing, Objects}
use Rattle.zot_commands.specs.Program.{AreNoPipe, config_line, host_fault_line, missing_line, no_memory_line, words_line, words_status, write_fault_line}
use Rattle.zot_commands.specs.declared.ending.Ending.{Ending}
use Rattle.zot_commands.specs.declared.ending.Ending.TheVariants as endings

-- the words of `verify` for a path
unfoldable pub verify_words : List ℕ → List (List ℕ)
verify_words path = codes "verify" ∷ path ∷ []

-- the line for a configuration of so many members
unfoldable pub members_line : ℕ → List ℕ
members_line count = concat (codes "ok " ∷ decimal count ∷ codes " members\n" ∷ [])

-- the exit status for an ending
abbrev pub ending_status : Ending → ℕ
ending_status endings.Done = 0
ending_status endings.WriteFault = 6
ending_status endings.NoMemory = 8
ending_status (endings.Wrong field found) = 9
ending_status endings.HostFault = 12
ending_status endings.Missing = 14

-- the line for an ending, if it has one; the path is that of the configuration
abbrev pub ending_line : List ℕ → Ending → List ℕ
ending_line path endings.Done = []
ending_line path endings.WriteFault = write_fault_line
ending_line path endings.NoMemory = no_memory_line
ending_line path (endings.Wrong field found) = config_line field found
ending_line path endings.HostFault = host_fault_line
ending_line path endings.Missing = missing_line path

-- the file of the path has a right configuration, and this holds of the line for its members
abbrev pub IsRight : Option Objects → List ℕ → (List ℕ → Type 0) → Type 0
IsRight files path P = (settings : Settings) × Gives files path (Ok settings) × P (members_line (length settings.members))

-- `verify` may end so over these files: the line was written, or a part of it where a write failed, or nothing was
abbrev pub Verifies : Option Objects → List ℕ → Ending → (List ℕ → Type 0) → (List ℕ → Type 0) → Type 0 → Type 0
Verifies files path endings.Done Wrote WrotePart Silent = IsRight files path Wrote
Verifies files path endings.WriteFault Wrote WrotePart Silent = IsRight files path WrotePart
Verifies files path endings.NoMemory Wrote WrotePart Silent = Silent
Verifies files path (endings.Wrong field found) Wrote WrotePart Silent = Gives files path (Err (record { field = field; found = found })) × Silent
Verifies files path endings.HostFault Wrote WrotePart Silent = Silent
Verifies files path endings.Missing Wrote WrotePart Silent = IsMissing files path × Silent

-- where these are the words of `verify`, it ended so, and the status and the note are those of its ending
abbrev pub RunsVerify : List (List ℕ) → Option Objects → ℕ → (List ℕ → Type 0) → (List ℕ → Type 0) → Type 0 → (List ℕ → Type 0) → Type 0
RunsVerify words files code Wrote WrotePart Silent Noted =
    (path : List ℕ) → words ≡ verify_words path → (ending : Ending) × Verifies files path ending Wrote WrotePart Silent × (code ≡ ending_status ending) × Noted (ending_line path ending)

-- where these are no words of `verify`, they were refused, and nothing but the note was touched
abbrev pub RefusesOthers : List (List ℕ) → ℕ → Type 0 → (List ℕ → Type 0) → Type 0
RefusesOthers words code Untouched Noted = ((path : List ℕ) → words ≢ verify_words path) → (code ≡ words_status) × Untouched × Noted words_line

-- where these are the words of no command, they were refused, and nothing but the note was touched
abbrev pub RefusesAll : List (List ℕ) → ℕ → Type 0 → (List ℕ → Type 0) → Type 0
RefusesAll words code Untouched Noted = AreNoPipe words → RefusesOthers words code Untouched Noted
