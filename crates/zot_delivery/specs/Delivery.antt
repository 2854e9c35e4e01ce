-- A request's bytes as they are read (RFC 9112, section 2.1).
use Rattle.std.specs.Prelude.{◌≡◌, ◌≤◌, ℕ, List, ◌++◌, length, Some}
use Rattle.zot_head.specs.declared.head.Head.{Head}
use Rattle.zot_head.specs.Front.{IsFront, IsHead, Message, with_body}
use Rattle.zot_head.specs.Limits.{head_limit}
use Rattle.zot_head.specs.Lines.{head_end}
use Rattle.zot_model.specs.declared.request.Request.{Request}
use Rattle.zot_model.specs.Valid.{IsValid}
use Rattle.zot_route.specs.declared.routed.Routed.TheVariants as routes
use Rattle.zot_route.specs.Routes.{Routes}
use Rattle.zot_spell.specs.Wire.{body_of, head_of, request_bytes}
use Rattle.zot_model.specs.Values.{HasValues}

-- What is read of a request's bytes, however long its head is. Whatever follows them, the head ends where the body
-- begins. The head is one that is read. Whatever it is read as: it frames the body, whatever follows, under every limit
-- that the body keeps; it and the body ask the request; and where it keeps the limit of a connection, they are the
-- message at the front of whatever bytes the request's begin.
pub record IsDelivered (request : Request) : Type 0 where
  pub ends : (more : List ℕ) → head_end (request_bytes request ++ more) ≡ Some (length (head_of request))
  pub reads : (head : Head) × IsHead (head_of request) head
  pub framed : (head : Head) (limit : ℕ) (more : List ℕ) → IsHead (head_of request) head → length (body_of request) ≤ limit
      → with_body limit head head.framing (body_of request ++ more) ≡ Message head (body_of request) more
  pub asks : (head : Head) → IsHead (head_of request) head → Routes head (body_of request) (routes.Request request)
  pub front : (head : Head) (limit : ℕ) (more : List ℕ) → IsHead (head_of request) head → length (head_of request) ≤ head_limit
      → length (body_of request) ≤ limit → IsFront limit (request_bytes request ++ more) (Message head (body_of request) more)

-- a valid request whose head keeps the limit of a connection
pub record IsReadable (request : Request) : Type 0 where
  pub values : HasValues request
  pub valid : IsValid request
  pub short : length (head_of request) ≤ head_limit
