-- The bytes of a connection that were taken and belong to no message yet.
use Rattle.std.specs.Prelude.{◌≡◌, ℕ, ◌+◌, ◌<◌, ◌≤◌, max, List, [], ◌++◌, length, Option}
use Rattle.zot_outside.specs.Streams.{Takes}
use Rattle.zot_session.specs.declared.cut.Cut.{Cut}
use Rattle.zot_session.specs.declared.inbox.TheConstants.{PIECE}
use Rattle.zot_session.specs.Cuts.{HasCut, budget}

-- the bytes that wait, how many that were passed over are still held, and how many were taken in all
pub record Waiting : Type 0 where
  pub bytes : List ℕ
  pub spent : ℕ
  pub taken : ℕ

-- how many bytes are held: those that were passed over and not let go, and those that wait
abbrev pub held : Waiting → ℕ
held waits = waits.spent + length waits.bytes

-- the most bytes of a piece
abbrev pub piece : ℕ
piece = PIECE

-- what an inbox keeps: what it has passed over, its buffer's size, and how much it has taken, which is no less than what waits
pub record IsInbox (size start room taken : ℕ) : Type 0 where
  pub passed : start ≤ size
  pub buffer : room ≡ piece
  pub within : taken ≤ budget
  pub counted : size ≤ start + taken

-- what was passed over was let go, and a piece that isn't empty was taken and waits after the others
pub record TakesPiece (old new : Waiting) (before after : Option (List ℕ)) : Type 0 where
  pub more : List ℕ
  pub some : 0 < length more
  pub size : length more ≤ piece
  pub reads : Takes before more after
  pub bytes : new.bytes ≡ old.bytes ++ more
  pub spent : new.spent ≡ 0
  pub taken : new.taken ≡ old.taken + length more
  pub within : new.taken ≤ budget

-- what was passed over was let go, and no piece was taken, for this cause
pub record CutShort (cut : Cut) (old new : Waiting) (before after : Option (List ℕ)) : Type 0 where
  pub kept : new ≡ record old { spent = 0 }
  pub reads : Takes before [] after
  pub cause : HasCut cut new.taken after

-- a message of so many bytes was passed over: at most one piece waits after it, and no more is held than it and a piece
pub record HoldsMessage (size : ℕ) (is : Waiting) : Type 0 where
  pub waits : length is.bytes ≤ piece
  pub within : held is ≤ size + piece

-- no more waits and no more is held than before or than one piece
pub record KeepsRoom (was is : Waiting) : Type 0 where
  pub waits : length is.bytes ≤ max (length was.bytes) piece
  pub within : held is ≤ max (held was) piece
