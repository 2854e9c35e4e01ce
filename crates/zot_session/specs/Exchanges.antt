-- The messages of a connection with their replies, and what is written for them.
use Rattle.std.specs.Prelude.{◌≡◌, ℕ, Bool, false, List, [], ◌∷◌, ◌++◌, Some, None}
use Rattle.std.specs.List.{AllByRecursion}
use Rattle.zot_model.specs.declared.reply.Reply.{Reply}
use Rattle.zot_model.specs.declared.request.Request.{Request}
use Rattle.zot_model.specs.Fits.{Fits}
use Rattle.zot_route.specs.declared.routed.Routed.TheVariants as routes
use Rattle.zot_route.specs.Methods.{hides_body, method_of}
use Rattle.zot_route.specs.Routes.{Routes}
use Rattle.zot_session.specs.Messages.{Message, continue_of}
use Rattle.zot_spell.specs.Spelling.{reply_bytes}

-- a message with its reply: a request that was answered, or one that was declined because it asks for nothing
pub data Exchange : Type 0 where
  answered : Message → Request → Reply → Exchange
  declined : Message → Reply → Exchange

-- the message
abbrev pub message_of : Exchange → Message
message_of (answered message request reply) = message
message_of (declined message reply) = message

-- the connection closes after it
abbrev pub closes : Exchange → Bool
closes exchange = (message_of exchange).head.closes

-- the request is the one that the message asks, and the reply fits it; or the reply is the refusal that the message gets
abbrev pub IsRouted : Exchange → Type 0
IsRouted (answered message request reply) = Routes message.head message.body (routes.Request request) × Fits request reply
IsRouted (declined message reply) = Routes message.head message.body (routes.Refused reply)

-- the bytes of the reply alone, which shows no body where the message's method is HEAD
abbrev pub reply_of : Exchange → List ℕ
reply_of (answered message request reply) = reply_bytes (Some request) reply (hides_body (method_of message.head.method)) message.head.closes
reply_of (declined message reply) = reply_bytes None reply (hides_body (method_of message.head.method)) message.head.closes

-- all that is written for a message: what is owed before its body is read, and the reply
abbrev pub spelled : Exchange → List ℕ
spelled exchange = continue_of (message_of exchange).head ++ reply_of exchange

-- what is written for all, in order
abbrev pub output : List Exchange → List ℕ
output [] = []
output (exchange ∷ exchanges) = spelled exchange ++ output exchanges

-- none of them closes the connection
abbrev pub StayOpen : List Exchange → Type 0
StayOpen exchanges = AllByRecursion (λ exchange. closes exchange ≡ false) exchanges

-- what answers was asked each request that was answered, once and in order, and nothing else, and went from the old state to the new one
abbrev pub Conducts : {A : Type 0} → (A → Request → Reply → A → Type 0) → A → List Exchange → A → Type 0
Conducts answers old [] new = new ≡ old
Conducts {A} answers old (answered message request reply ∷ exchanges) new = (mid : A) × answers old request reply mid × Conducts answers mid exchanges new
Conducts answers old (declined message reply ∷ exchanges) new = Conducts answers old exchanges new
