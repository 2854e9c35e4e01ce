-- How the next message of a connection is received, piece by piece: its head, and then its body.
use Rattle.std.specs.Prelude.{◌≡◌, ℕ, ◌+◌, ◌-◌, ◌≤◌, List, [], ◌++◌, length, Option, Some, None, Result, Ok, Err}
use Rattle.zot_head.specs.declared.chunk_error.ChunkError.{ChunkError}
use Rattle.zot_head.specs.declared.chunk_error.ChunkError.TheVariants as errors
use Rattle.zot_head.specs.declared.framing.Framing.{Framing}
use Rattle.zot_head.specs.declared.head.Head.{Head}
use Rattle.zot_head.specs.Front.{Front, IsHead, Refusal, with_body}
use Rattle.zot_head.specs.Front as fronts
use Rattle.zot_head.specs.Limits.{head_limit}
use Rattle.zot_head.specs.Lines.{Ends, extent, head_end}
use Rattle.zot_model.specs.declared.reply.Reply.{Reply}
use Rattle.zot_model.specs.Valid.{body_limit}
use Rattle.zot_outside.specs.Streams.{Appends, Takes}
use Rattle.zot_session.specs.declared.body.Body.{Body}
use Rattle.zot_session.specs.declared.body.Body.TheVariants as bodies
use Rattle.zot_session.specs.declared.cut.Cut.{Cut}
use Rattle.zot_session.specs.declared.cut.Cut.TheVariants as cuts
use Rattle.zot_session.specs.declared.end.End.{End}
use Rattle.zot_session.specs.declared.heading.Heading.{Heading}
use Rattle.zot_session.specs.declared.heading.Heading.TheVariants as headings
use Rattle.zot_session.specs.declared.receiving.Received.{Received}
use Rattle.zot_session.specs.declared.receiving.Received.TheVariants as received
use Rattle.zot_session.specs.Cuts.{HasCut, budget}
use Rattle.zot_session.specs.Ending.{EndsAfter}
use Rattle.zot_session.specs.Messages.{IsPartial, IsRefused, Owes, Stands, continue_of, refused_as}
use Rattle.zot_session.specs.Waiting.{HoldsMessage, Waiting, held}

-- bytes were taken from the source
pub record Took (was is : Waiting) (came : List ℕ) (left left' : Option (List ℕ)) : Type 0 where
  pub reads : Takes left came left'
  pub taken : is.taken ≡ was.taken + length came
  pub within : was.taken ≤ budget → is.taken ≤ budget

-- bytes were taken, and wait after what waited, of which these were passed over
pub record Came (was is : Waiting) (passed came : List ℕ) (left left' : Option (List ℕ)) : Type 0 where
  pub took : Took was is came left left'
  pub bytes : was.bytes ++ came ≡ passed ++ is.bytes

-- a connection is cut in a part of a message that isn't whole: memory ran out, or no more bytes came
pub data IsCut (cut : Cut) (partial : Type 0) (taken : ℕ) (left : Option (List ℕ)) : Type 0 where
  no_memory : cut ≡ cuts.NoMemory → IsCut cut partial taken left
  no_piece : partial → HasCut cut taken left → IsCut cut partial taken left

-- the text is a head, all of it
pub record IsHeading (text : List ℕ) (head : Head) : Type 0 where
  pub ends : extent head_end head_limit text ≡ Ends (length text)
  pub is : IsHead text head

-- a head came whole and was passed over
pub record HeadCame (head : Head) (was is : Waiting) (left left' : Option (List ℕ)) : Type 0 where
  pub text : List ℕ
  pub came : List ℕ
  pub pieces : Came was is text came left left'
  pub heading : IsHeading text head
  pub holds : HoldsMessage (length text) is

-- what waits is refused for its head, before anything is owed
pub record HeadDeclined (reply : Reply) (bytes : List ℕ) : Type 0 where
  pub why : Refusal
  pub refused : IsRefused bytes why
  pub owed : Owes bytes []
  pub reply_is : reply ≡ refused_as why

-- a message was refused for its head
pub record HeadRefused (reply : Reply) (was is : Waiting) (left left' : Option (List ℕ)) : Type 0 where
  pub came : List ℕ
  pub pieces : Came was is [] came left left'
  pub declined : HeadDeclined reply is.bytes

-- what came of a message's head
abbrev pub Heads : Heading → Waiting → Waiting → Option (List ℕ) → Option (List ℕ) → Type 0
Heads (headings.Whole head) was is left left' = HeadCame head was is left left'
Heads (headings.Refused reply) was is left left' = HeadRefused reply was is left left'

-- a connection is cut before a head is whole
pub record HeadCut (cut : Cut) (was is : Waiting) (left left' : Option (List ℕ)) : Type 0 where
  pub came : List ℕ
  pub pieces : Came was is [] came left left'
  pub cause : IsCut cut (IsPartial is.bytes × Owes is.bytes []) is.taken left'

-- the first bytes that waited are a head, and were passed over
pub record HeadPassed (head : Head) (was is : Waiting) : Type 0 where
  pub text : List ℕ
  pub heading : IsHeading text head
  pub bytes : was.bytes ≡ text ++ is.bytes
  pub taken : is.taken ≡ was.taken
  pub held : held is ≡ held was

-- what the first bytes that wait are read as, where a head ends after them
abbrev pub HeadIs : {E : Type 0} → Result Heading E → Waiting → Waiting → Type 0
HeadIs (Ok (headings.Whole head)) was is = HeadPassed head was is
HeadIs (Ok (headings.Refused reply)) was is = (is ≡ was) × HeadDeclined reply was.bytes
HeadIs (Err e) was is = is ≡ was

-- what the bytes after a head that frames a body so make of it
abbrev pub BodyIs : Framing → List ℕ → (Head → Front) → Type 0
BodyIs framing bytes front = (head : Head) → with_body body_limit head framing bytes ≡ front head

-- a body came whole and was passed over
pub record BodyCame (body : List ℕ) (framing : Framing) (was is : Waiting) (left left' : Option (List ℕ)) : Type 0 where
  pub passed : List ℕ
  pub came : List ℕ
  pub pieces : Came was is passed came left left'
  pub whole : BodyIs framing (was.bytes ++ came) (λ head. fronts.Message head body is.bytes)

-- a message was refused for its body
pub record BodyRefused (reply : Reply) (framing : Framing) (was is : Waiting) (left left' : Option (List ℕ)) : Type 0 where
  pub passed : List ℕ
  pub came : List ℕ
  pub pieces : Came was is passed came left left'
  pub why : Refusal
  pub refused : BodyIs framing (was.bytes ++ came) (λ head. fronts.Refused why)
  pub reply_is : reply ≡ refused_as why

-- what came of a message's body
abbrev pub Bodies : Body → Framing → Waiting → Waiting → Option (List ℕ) → Option (List ℕ) → Type 0
Bodies (bodies.Whole body) framing was is left left' = BodyCame body.items framing was is left left'
Bodies (bodies.Refused reply) framing was is left left' = BodyRefused reply framing was is left left'

-- a connection is cut before a body is whole
pub record BodyCut (cut : Cut) (framing : Framing) (was is : Waiting) (left left' : Option (List ℕ)) : Type 0 where
  pub passed : List ℕ
  pub came : List ℕ
  pub pieces : Came was is passed came left left'
  pub cause : IsCut cut (BodyIs framing (was.bytes ++ came) (λ head. fronts.Partial)) is.taken left'

-- the refusal of a message whose body in chunks isn't read for this cause, or none where memory ran out
abbrev pub broken_as : ChunkError → Option Reply
broken_as errors.Bad = Some (refused_as fronts.HeadInvalid)
broken_as errors.TooLong = Some (refused_as fronts.HeadTooLong)
broken_as errors.TooLarge = Some (refused_as fronts.SizeInvalid)
broken_as errors.NoMemory = None

-- a message came whole and was passed over, and what it is owed before its body was written
pub record MessageCame (head : Head) (body : List ℕ) (was is : Waiting) (left left' held held' : Option (List ℕ)) : Type 0 where
  pub came : List ℕ
  pub took : Took was is came left left'
  pub stands : Stands (was.bytes ++ came) (record { head = head; body = body }) is.bytes
  pub owed : Owes (was.bytes ++ came) (continue_of head)
  pub writes : Appends held (continue_of head) held'
  pub holds : HoldsMessage (length (was.bytes ++ came) - length is.bytes) is

-- a message was refused, and what it is owed before its body was written
pub record MessageRefused (reply : Reply) (was is : Waiting) (left left' held held' : Option (List ℕ)) : Type 0 where
  pub came : List ℕ
  pub took : Took was is came left left'
  pub why : Refusal
  pub refused : IsRefused (was.bytes ++ came) why
  pub reply_is : reply ≡ refused_as why
  pub text : List ℕ
  pub owed : Owes (was.bytes ++ came) text
  pub writes : Appends held text held'

-- what came of a message
abbrev pub Receives : Received → Waiting → Waiting → Option (List ℕ) → Option (List ℕ) → Option (List ℕ) → Option (List ℕ) → Type 0
Receives (received.Whole head body) was is left left' held held' = MessageCame head body.items was is left left' held held'
Receives (received.Refused reply) was is left left' held held' = MessageRefused reply was is left left' held held'

-- how a connection ends before a message is whole
pub record ReceiveEnds (end : End) (was is : Waiting) (left left' held held' : Option (List ℕ)) : Type 0 where
  pub came : List ℕ
  pub text : List ℕ
  pub took : Took was is came left left'
  pub writes : Appends held text held'
  pub ends : EndsAfter end is.taken (was.bytes ++ came) left' text
