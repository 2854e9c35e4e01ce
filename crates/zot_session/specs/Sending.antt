-- What was written of a text.
use Rattle.std.specs.Prelude.{◌≡◌, ℕ, List, ◌++◌, Option, Result, Ok, Err}
use Rattle.zot_outside.specs.Streams.{Appends}
use Rattle.zot_session.specs.declared.end.End.{End}
use Rattle.zot_session.specs.declared.end.End.TheVariants as ends
use Rattle.zot_session.specs.declared.send_error.SendError.{SendError}
use Rattle.zot_session.specs.declared.send_error.SendError.TheVariants as errors

-- a part is the front of the whole
abbrev pub IsPart : List ℕ → List ℕ → Type 0
IsPart part whole = (lost : List ℕ) × (whole ≡ part ++ lost)

-- the text was written up to some place
pub record WritesPart (before : Option (List ℕ)) (text : List ℕ) (after : Option (List ℕ)) : Type 0 where
  pub part : List ℕ
  pub lost : List ℕ
  pub whole : text ≡ part ++ lost
  pub written : Appends before part after

-- what was written of a text that wasn't sent whole for this cause
abbrev pub StopsWriting : SendError → Option (List ℕ) → List ℕ → Option (List ℕ) → Type 0
StopsWriting errors.Fault before text after = WritesPart before text after
StopsWriting errors.NoMemory before text after = after ≡ before

-- what was written of a text that was to be sent
abbrev pub Sends : {T : Type 0} → Result T SendError → Option (List ℕ) → List ℕ → Option (List ℕ) → Type 0
Sends (Ok x) before text after = Appends before text after
Sends (Err error) before text after = StopsWriting error before text after

-- the end of a connection for the same cause
abbrev pub end_unsent : SendError → End
end_unsent errors.Fault = ends.WriteFault
end_unsent errors.NoMemory = ends.NoMemory
