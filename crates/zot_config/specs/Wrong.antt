-- What a refused configuration says, and what is read after a part that isn't refused.
use Rattle.std.specs.Prelude.{◌≡◌, Option, Some, None, Result, Ok, Err, ⊤}
use Rattle.zot_config.specs.declared.config_error.ConfigError.{ConfigError}
use Rattle.zot_config.specs.declared.config_error.ConfigError.TheVariants.{Field, NoMemory}
use Rattle.zot_config.specs.declared.wrong.Wrong.{Wrong}

-- a part that is right, or the first wrong field
abbrev pub Read : Type 0 → Type 0
Read A = Result A Wrong

-- what is read after a part that is right
abbrev pub after : {A B : Type 0} → Read A → (A → Read B) → Read B
after (Ok a) next = next a
after (Err wrong) next = Err wrong

-- a part, where no field is wrong
abbrev pub unless : {A : Type 0} → Option Wrong → A → Read A
unless None a = Ok a
unless (Some wrong) a = Err wrong

-- the error is that of this wrong field, or memory ran out
abbrev pub Names : ConfigError → Wrong → Type 0
Names (Field field found) wrong = wrong ≡ record { field = field; found = found }
Names NoMemory wrong = ⊤

-- the error is that of the first wrong field, or memory ran out
abbrev pub Refuses : {A : Type 0} → Read A → ConfigError → Type 0
Refuses read (Field field found) = read ≡ Err (record { field = field; found = found })
Refuses read NoMemory = ⊤

-- unless memory ran out, this was read
abbrev pub Reads : {A : Type 0} → Result A ConfigError → Read A → Type 0
Reads (Ok a) read = read ≡ Ok a
Reads (Err error) read = Refuses read error

-- unless memory ran out, one of these was read
abbrev pub IfTold : {A : Type 0} → Result A ConfigError → (Read A → Type 0) → Type 0
IfTold (Ok a) P = P (Ok a)
IfTold (Err (Field field found)) P = P (Err (record { field = field; found = found }))
IfTold (Err NoMemory) P = ⊤
