-- What stands at the front of a list of bytes: a whole message, a refusal, or less than either (RFC 9112,
-- section 2.1). Departing from section 3.2, a head's `Host` fields aren't looked at.
use Rattle.std.specs.Prelude.{◌≡◌, ℕ, ◌+◌, ◌<◌, ◌≤◌, List, [], ◌++◌, length, map, take, drop, if◌then◌else◌, nat_lt, Some}
use Rattle.httparse.specs.Grammar.{Field as FieldLine, field_value, RequestHead, ReadsRequest}
use Rattle.zot_head.specs.declared.chunk_error.ChunkError.{ChunkError}
use Rattle.zot_head.specs.declared.chunk_error.ChunkError.TheVariants as errors
use Rattle.zot_head.specs.declared.field.Field.{Field}
use Rattle.zot_head.specs.declared.framing.Framing.{Framing}
use Rattle.zot_head.specs.declared.framing.Framing.TheVariants as framings
use Rattle.zot_head.specs.declared.head.Head.{Head}
use Rattle.zot_head.specs.Chunked.{Body, Whole, Unfinished, Broken, chunked}
use Rattle.zot_head.specs.Fields.{framing_of, expects_of, closes_of}
use Rattle.zot_head.specs.Limits.{head_limit, line_limit}
use Rattle.zot_head.specs.Lines.{head_end, lines_in, Extent, Ends, Passes, Goes, extent}

-- a head has more lines between its first line and its empty line than are allowed
abbrev pub IsCrowded : List ℕ → Type 0
IsCrowded bytes = (n : ℕ) × (head_end bytes ≡ Some n) × (line_limit + 2 < lines_in (take n bytes))

-- the field of a field line (RFC 9112, section 5)
abbrev pub field_of : FieldLine → Field
field_of line = record { name = line.name; value = field_value line }

-- the head has the method, the target and the fields of that request, and what these fields say
pub record IsHeadOf (h : RequestHead) (head : Head) : Type 0 where
  pub method : head.method ≡ h.method
  pub target : head.target ≡ h.target
  pub fields : head.fields ≡ map field_of h.fields
  pub framing : framing_of head.fields ≡ Some head.framing
  pub expects : head.expects ≡ expects_of h.minor head.fields head.framing
  pub closes : head.closes ≡ closes_of h.minor head.fields

-- these bytes, all of them, are that head
pub record IsHead (text : List ℕ) (head : Head) : Type 0 where
  pub few_lines : ¬ (IsCrowded text)
  pub request : RequestHead
  pub reads : ReadsRequest text request []
  pub head_is : IsHeadOf request head

-- these bytes are no head: they have few enough lines, and aren't one for another cause
pub record IsNoHead (text : List ℕ) : Type 0 where
  pub few_lines : ¬ (IsCrowded text)
  pub none : (head : Head) → ¬ (IsHead text head)

-- why a message is refused: 400 HEAD_INVALID, 413 SIZE_INVALID, 431 HEAD_TOO_LONG
pub data Refusal : Type 0 where
  HeadInvalid : Refusal
  SizeInvalid : Refusal
  HeadTooLong : Refusal

-- A whole message: its head, its body and the bytes after it. A refused one. Or less than a whole one.
pub data Front : Type 0 where
  Message : Head → List ℕ → List ℕ → Front
  Refused : Refusal → Front
  Partial : Front

-- The refusal of a body in chunks. Bytes are never refused because memory ran out, so the last case stands for
-- nothing (`refused_for_its_bytes`): a message has no refusal for it, and the readers' errors have it.
abbrev pub refusal_of : ChunkError → Refusal
refusal_of errors.Bad = HeadInvalid
refusal_of errors.TooLong = HeadTooLong
refusal_of errors.TooLarge = SizeInvalid
refusal_of errors.NoMemory = HeadInvalid

-- a message whose body is that one in chunks
abbrev pub with_chunks : Head → Body → Front
with_chunks head (Whole body rest) = Message head body rest
with_chunks head (Unfinished body) = Partial
with_chunks head (Broken body error) = Refused (refusal_of error)

-- the message of a head that has these bytes after it, where a body has at most so many bytes
abbrev pub with_body : ℕ → Head → Framing → List ℕ → Front
with_body limit head framings.None bytes = Message head [] bytes
with_body limit head (framings.Length n) bytes =
    if nat_lt limit n then Refused SizeInvalid
    else (if nat_lt (length bytes) n then Partial else Message head (take n bytes) (drop n bytes))
with_body limit head framings.Chunked bytes = with_chunks head (chunked limit bytes)

-- What a message is whose head ends: these bytes are its head, and those stand after it. The number of its
-- lines comes first, then its form and its framing, then its body.
pub data IsMessage (limit : ℕ) (text bytes : List ℕ) (front : Front) : Type 0 where
  crowded : IsCrowded text → front ≡ Refused HeadTooLong → IsMessage limit text bytes front
  invalid : IsNoHead text → front ≡ Refused HeadInvalid → IsMessage limit text bytes front
  headed : (head : Head) → IsHead text head → front ≡ with_body limit head head.framing bytes → IsMessage limit text bytes front

-- the same, by how far the head goes
abbrev pub IsFrontBy : ℕ → List ℕ → Extent → Front → Type 0
IsFrontBy limit bytes Goes front = front ≡ Partial
IsFrontBy limit bytes Passes front = front ≡ Refused HeadTooLong
IsFrontBy limit bytes (Ends n) front = IsMessage limit (take n bytes) (drop n bytes) front

-- That stands at the front of the bytes, where a body has at most `limit` bytes. How far the head goes comes
-- before all that it holds.
abbrev pub IsFront : ℕ → List ℕ → Front → Type 0
IsFront limit bytes front = IsFrontBy limit bytes (extent head_end head_limit bytes) front

-- the front is a whole message, or refused
abbrev pub IsDecided : Front → Type 0
IsDecided (Message head body rest) = Unit {0}
IsDecided (Refused refusal) = Unit {0}
IsDecided Partial = ⊥

-- the same front with more bytes after
abbrev pub with_more : List ℕ → Front → Front
with_more more (Message head body rest) = Message head body (rest ++ more)
with_more more (Refused refusal) = Refused refusal
with_more more Partial = Partial

-- the rest is what stands after some of the bytes, at least one and at most all
pub record IsRestOf (bytes rest : List ℕ) : Type 0 where
  pub taken : ℕ
  pub some : 0 < taken
  pub within : taken ≤ length bytes
  pub rest_is : rest ≡ drop taken bytes
