-- The messages of a connection: what stands at the front of its bytes, one after another (RFC 9112, sections 2.1 and 9.3).
use Rattle.std.specs.Prelude.{◌≡◌, ⊤, ℕ, ◌≤◌, ◌==◌, Bool, if◌then◌else◌, List, [], ◌∷◌, length, take, codes}
use Rattle.zot_head.specs.declared.framing.Framing.{Framing}
use Rattle.zot_head.specs.declared.framing.Framing.TheVariants as framings
use Rattle.zot_head.specs.declared.head.Head.{Head}
use Rattle.zot_head.specs.Front.{IsFront, IsHead, Refusal}
use Rattle.zot_head.specs.Front as fronts
use Rattle.zot_head.specs.Limits.{head_limit}
use Rattle.zot_head.specs.Lines.{Ends, blank_len, extent, head_end}
use Rattle.zot_model.specs.declared.code.Code.{Code}
use Rattle.zot_model.specs.declared.code.Code.TheVariants as reasons
use Rattle.zot_model.specs.declared.reply.Reply.{Reply}
use Rattle.zot_model.specs.declared.request.Request.{Request}
use Rattle.zot_model.specs.Codes.{status_of}
use Rattle.zot_model.specs.Refusals.{refusal}
use Rattle.zot_model.specs.Valid.{body_limit}
use Rattle.zot_route.specs.declared.routed.Routed.TheVariants as routes
use Rattle.zot_route.specs.Routes.{Routes}

-- a message: its head and its body
pub record Message : Type 0 where
  pub head : Head
  pub body : List ℕ

-- a message stands at the front of the bytes, and the rest after it
abbrev pub Stands : List ℕ → Message → List ℕ → Type 0
Stands bytes message rest = IsFront body_limit bytes (fronts.Message message.head message.body rest)

-- less than a message stands at the front
abbrev pub IsPartial : List ℕ → Type 0
IsPartial bytes = IsFront body_limit bytes fronts.Partial

-- what stands at the front is refused
abbrev pub IsRefused : List ℕ → Refusal → Type 0
IsRefused bytes why = IsFront body_limit bytes (fronts.Refused why)

-- the messages of a list of bytes, one after another, and what is left after them
abbrev pub Messages : List ℕ → List Message → List ℕ → Type 0
Messages bytes [] rest = bytes ≡ rest
Messages bytes (message ∷ messages) rest = (next : List ℕ) × Stands bytes message next × Messages next messages rest

-- a message is routed to that request
abbrev pub RoutesTo : Message → Request → Type 0
RoutesTo message request = Routes message.head message.body (routes.Request request)

-- the code of a message that is refused for its head or for the form of its body
abbrev pub code_of : Refusal → Code
code_of fronts.HeadInvalid = reasons.HeadInvalid
code_of fronts.SizeInvalid = reasons.SizeInvalid
code_of fronts.HeadTooLong = reasons.HeadTooLong

-- its status (RFC 9110, section 15.5; RFC 6585, section 5)
abbrev pub refusal_status : Refusal → ℕ
refusal_status why = status_of (code_of why)

-- the reply to it, after which the connection closes
abbrev pub refused_as : Refusal → Reply
refused_as why = refusal (code_of why)

-- nothing but empty lines, of LF or CR LF
abbrev pub is_blank : List ℕ → Bool
is_blank bytes = blank_len bytes == length bytes

-- what is written before a body is read that the sender holds back (RFC 9110, section 15.2.1)
unfoldable pub continue_text : List ℕ
continue_text = codes "HTTP/1.1 100 Continue\r\n\r\n"

-- the same where the head asks for it
abbrev pub continue_of : Head → List ℕ
continue_of head = if head.expects then continue_text else []

-- a body that is framed so is read
abbrev pub IsRead : Framing → Type 0
IsRead framings.None = ⊤
IsRead (framings.Length n) = n ≤ body_limit
IsRead framings.Chunked = ⊤

-- a whole head stands at the front of the bytes, whose body is read
pub record HasHead (bytes : List ℕ) (head : Head) : Type 0 where
  pub size : ℕ
  pub ends : extent head_end head_limit bytes ≡ Ends size
  pub is : IsHead (take size bytes) head
  pub reads : IsRead head.framing

-- what is owed of the message at the front before its reply: a `100 Continue` where its head asks for one (RFC 9110, section 10.1.1)
pub data Owes (bytes text : List ℕ) : Type 0 where
  to_head : (head : Head) → HasHead bytes head → text ≡ continue_of head → Owes bytes text
  to_none : ((head : Head) → ¬ HasHead bytes head) → text ≡ [] → Owes bytes text
