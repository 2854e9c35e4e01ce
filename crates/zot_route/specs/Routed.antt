-- What holds of what becomes of a message.
use Rattle.std.specs.Prelude.{⊤}
use Rattle.zot_model.specs.declared.reply.Reply.{Reply}
use Rattle.zot_model.specs.declared.request.Request.{Request}
use Rattle.zot_route.specs.declared.routed.Routed.{Routed}
use Rattle.zot_route.specs.declared.routed.Routed.TheVariants as routes

-- the request is one of these, where there is one
abbrev pub IfRequest : Routed → (Request → Type 0) → Type 0
IfRequest (routes.Request request) P = P request
IfRequest (routes.Refused reply) P = ⊤

-- the refusal is one of these, where there is one
abbrev pub IfRefused : Routed → (Reply → Type 0) → Type 0
IfRefused (routes.Request request) P = ⊤
IfRefused (routes.Refused reply) P = P reply
