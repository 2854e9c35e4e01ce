-- One turn of a connection: a message is received and answered, or the connection ends.
use Rattle.std.specs.Prelude.{◌≡◌, ℕ, ◌-◌, true, false, List, [], ◌∷◌, ◌++◌, length, Option, None, Some, Result, Ok, Err}
use Rattle.zot_model.specs.declared.reply.Reply.{Reply}
use Rattle.zot_model.specs.declared.reply.Reply.TheVariants.{Refused}
use Rattle.zot_model.specs.declared.request.Request.{Request}
use Rattle.zot_outside.specs.Streams.{Appends}
use Rattle.zot_session.specs.declared.end.End.{End}
use Rattle.zot_session.specs.declared.end.End.TheVariants as ends
use Rattle.zot_session.specs.declared.send_error.SendError.{SendError}
use Rattle.zot_session.specs.declared.send_error.SendError.TheVariants as errors
use Rattle.zot_session.specs.Ending.{EndsAfter, EndsWith}
use Rattle.zot_session.specs.Exchanges.{Conducts, Exchange, IsRouted, closes, message_of, reply_of, spelled}
use Rattle.zot_session.specs.Messages.{Message, Stands}
use Rattle.zot_session.specs.Receiving.{Took}
use Rattle.zot_session.specs.Sending.{StopsWriting, end_unsent}
use Rattle.zot_session.specs.Waiting.{HoldsMessage, Waiting}
use Rattle.zot_spell.specs.Spelling.{reply_bytes}

-- a message was answered
pub record Replies {A : Type 0} (answers : A → Request → Reply → A → Type 0) (old new : A) (message : Message) : Type 0 where
  pub exchange : Exchange
  pub message_is : message_of exchange ≡ message
  pub routed : IsRouted exchange
  pub conducts : Conducts answers old (exchange ∷ []) new

-- and its reply was written
pub record Replied {A : Type 0} (answers : A → Request → Reply → A → Type 0) (old new : A) (message : Message) (before after : Option (List ℕ)) : Type 0 where
  pub replies : Replies answers old new message
  pub writes : Appends before (reply_of replies.exchange) after

-- and its reply wasn't written whole; or memory ran out before anything was asked
pub data Unreplied {A : Type 0} (answers : A → Request → Reply → A → Type 0) (error : SendError) (old new : A) (message : Message) (before after : Option (List ℕ)) : Type 0 where
  reply_unsent : (replies : Replies answers old new message) → StopsWriting error before (reply_of replies.exchange) after → Unreplied answers error old new message before after
  unasked : error ≡ errors.NoMemory → new ≡ old → after ≡ before → Unreplied answers error old new message before after

-- what came of a whole message: it asks something, or is declined
abbrev pub Exchanged : {A T : Type 0} → (A → Request → Reply → A → Type 0) → Result T SendError → A → A → Message → Option (List ℕ) → Option (List ℕ) → Type 0
Exchanged answers (Ok x) old new message before after = Replied answers old new message before after
Exchanged answers (Err error) old new message before after = Unreplied answers error old new message before after

-- the connection ends with the exchange: it closes after the reply, or the reply wasn't written whole
pub data EndsExchange {A : Type 0} (answers : A → Request → Reply → A → Type 0) (end : End) (old new : A) (message : Message) (before after : Option (List ℕ)) : Type 0 where
  replied_last : message.head.closes ≡ true → end ≡ ends.Closed → Replied answers old new message before after → EndsExchange answers end old new message before after
  unreplied_last : (error : SendError) → end ≡ end_unsent error → Unreplied answers error old new message before after → EndsExchange answers end old new message before after

-- how a whole message leaves the connection: open after its reply, or ended
abbrev pub Responds : {A : Type 0} → (A → Request → Reply → A → Type 0) → Option End → A → A → Message → Option (List ℕ) → Option (List ℕ) → Type 0
Responds answers None old new message before after = (message.head.closes ≡ false) × Replied answers old new message before after
Responds answers (Some end) old new message before after = EndsExchange answers end old new message before after

-- the status of a refusal
abbrev pub reply_status : Reply → ℕ
reply_status (Refused status code detail) = status
reply_status _ = 0

-- how the refusal of a message ends a connection
pub data RefusalEnds (end : End) (reply : Reply) (before after : Option (List ℕ)) : Type 0 where
  written : end ≡ ends.Refused (reply_status reply) → Appends before (reply_bytes None reply false true) after → RefusalEnds end reply before after
  stopped : (error : SendError) → end ≡ end_unsent error → StopsWriting error before (reply_bytes None reply false true) after → RefusalEnds end reply before after

-- a message stood at the front, after which these bytes came, and was answered
pub record AnswersFront {A : Type 0} (answers : A → Request → Reply → A → Type 0) (old new : A) (was : Waiting) (came rest : List ℕ) : Type 0 where
  pub exchange : Exchange
  pub front : Stands (was.bytes ++ came) (message_of exchange) rest
  pub routed : IsRouted exchange
  pub conducts : Conducts answers old (exchange ∷ []) new

-- a turn that doesn't end the connection: a message was answered that leaves it open, and besides it at most one piece is held
pub record GoesOn {A : Type 0} (answers : A → Request → Reply → A → Type 0) (old new : A) (left left' held held' : Option (List ℕ)) (was is : Waiting) : Type 0 where
  pub came : List ℕ
  pub took : Took was is came left left'
  pub answer : AnswersFront answers old new was came is.bytes
  pub stays : closes answer.exchange ≡ false
  pub writes : Appends held (spelled answer.exchange) held'
  pub holds : HoldsMessage (length (was.bytes ++ came) - length is.bytes) is

-- a connection ends after its exchanges, or with one more
pub data TurnEnds {A : Type 0} (answers : A → Request → Reply → A → Type 0) (end : End) (old new : A) (left' : Option (List ℕ)) (was is : Waiting) (came text : List ℕ) : Type 0 where
  receiving : new ≡ old → EndsAfter end is.taken (was.bytes ++ came) left' text → TurnEnds answers end old new left' was is came text
  replying : (rest : List ℕ) (answer : AnswersFront answers old new was came rest) → EndsWith end answer.exchange text → TurnEnds answers end old new left' was is came text

-- a turn that ends the connection: what was taken and written in it, and how
pub record Stops {A : Type 0} (answers : A → Request → Reply → A → Type 0) (end : End) (old new : A) (left left' held held' : Option (List ℕ)) (was is : Waiting) : Type 0 where
  pub came : List ℕ
  pub text : List ℕ
  pub took : Took was is came left left'
  pub writes : Appends held text held'
  pub ends : TurnEnds answers end old new left' was is came text
