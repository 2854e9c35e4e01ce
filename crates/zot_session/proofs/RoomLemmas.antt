-- What an inbox holds, piece by piece.
use Rattle.std.proofs.Common.{◌≡◌, ℕ, ◌≤◌, List, [], ◌++◌, length, drop, Option, ap, subst, arith}
use Rattle.std.proofs.lemmas.List.{length-append, length-drop}
use Rattle.zot_head.specs.Limits.{head_limit}
use Rattle.zot_head.specs.Lines.{Ends, Goes, extent, head_end}
use Rattle.zot_session.specs.declared.cut.Cut.{Cut}
use Rattle.zot_session.specs.Waiting.{CutShort, HoldsMessage, KeepsRoom, TakesPiece, Waiting, held, piece}
use Rattle.zot_session.proofs.HeadingLemmas.{ends_beyond}

-- ---- while a head comes

-- an inbox holds no more than a piece, or bytes in which no head ends, and a piece
pub data HoldsHead (is : Waiting) : Type 0 where
  settled : held is ≤ piece → HoldsHead is
  grown : (before more : List ℕ) → is.spent ≡ 0 → is.bytes ≡ before ++ more → extent head_end head_limit before ≡ Goes → length more ≤ piece → HoldsHead is

-- a piece more
pub holds_piece : {mid is : Waiting} {left left' : Option (List ℕ)} → extent head_end head_limit mid.bytes ≡ Goes → TakesPiece mid is left left' → HoldsHead is
holds_piece {mid} goes p = grown mid.bytes p.more p.spent p.bytes goes p.size

-- the head ended and was passed over
pub holds_heading : (mid is : Waiting) (text : List ℕ) → HoldsHead mid → extent head_end head_limit mid.bytes ≡ Ends (length text) → mid.bytes ≡ text ++ is.bytes → held is ≡ held mid → HoldsMessage (length text) is
holds_heading mid is text (settled h) ends split same =
    let sizes = ap length split in
    let longer = length-append text is.bytes in
    record { waits = omega arith; within = omega arith }
holds_heading mid is text (grown before more none grew goes short) ends split same =
    let sizes = ap length split in
    let longer = length-append text is.bytes in
    let grown_by = ap length grew in
    let with_more = length-append before more in
    let beyond = ends_beyond before more (length text) goes (subst (λ b. extent head_end head_limit b ≡ Ends (length text)) grew ends) in
    record { waits = omega arith; within = omega arith }

-- ---- while a body comes

pub room_none : (was : Waiting) → KeepsRoom was was
room_none was = record { waits = omega arith; within = omega arith }

-- some of what waits was passed over
pub room_pass : {was mid : Waiting} (is : Waiting) (n : ℕ) → KeepsRoom was mid → is.bytes ≡ drop n mid.bytes → held is ≡ held mid → KeepsRoom was is
room_pass {was} {mid} is n k rest same =
    let shorter = length-drop n mid.bytes in
    let sizes = ap length rest in
    let waits = k.waits in
    let within = k.within in
    record { waits = omega arith; within = omega arith }

-- a piece came where nothing waited
pub room_piece : {was mid is : Waiting} {left left' : Option (List ℕ)} → KeepsRoom was mid → mid.bytes ≡ [] → TakesPiece mid is left left' → KeepsRoom was is
room_piece {was} {mid} {is} k none p =
    let sizes = ap length p.bytes in
    let longer = length-append mid.bytes p.more in
    let nothing = ap length none in
    let size = p.size in
    let spent = p.spent in
    record { waits = omega arith; within = omega arith }

-- none came
pub room_cut : {cut : Cut} {was mid is : Waiting} {left left' : Option (List ℕ)} → KeepsRoom was mid → CutShort cut mid is left left' → KeepsRoom was is
room_cut {was = was} {mid = mid} {is = is} k c =
    let sizes = ap (λ (w : Waiting). length w.bytes) c.kept in
    let spent = ap (λ (w : Waiting). w.spent) c.kept in
    let waits = k.waits in
    let within = k.within in
    record { waits = omega arith; within = omega arith }
