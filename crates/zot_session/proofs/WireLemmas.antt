-- Requests that are spelled one after another are as many messages.
use Rattle.std.proofs.Common.{◌≡◌, ℕ, List, [], ◌∷◌, ◌++◌, refl, sym, subst, append_assoc}
use Rattle.std.specs.List.{AllByRecursion, AllZip, flat_map}
use Rattle.zot_model.specs.declared.request.Request.{Request}
use Rattle.zot_model.specs.Valid.{body_limit}
use Rattle.zot_session.specs.Messages.{Message, Messages, RoutesTo}
use Rattle.zot_spell.specs.Wire.{body_of, request_bytes}
use Rattle.zot_delivery.specs.Delivery.{IsReadable}
use Rattle.zot_delivery.proofs.DeliveryLemmas.{delivered}
use Rattle.zot_delivery.proofs.WrittenLemmas.{body_fits}

pub requests_read : (requests : List Request) (more : List ℕ) → AllByRecursion IsReadable requests
    → (messages : List Message) × Messages (flat_map request_bytes requests ++ more) messages more × AllZip RoutesTo messages requests
requests_read [] more all = ([], refl, tt)
requests_read (request ∷ requests) more all =
    let is = all.0 in
    let sent = delivered request is.values is.valid in
    let head = sent.reads.0 in
    let read = sent.reads.1 in
    let next = flat_map request_bytes requests ++ more in
    let rest = requests_read requests more all.1 in
    let apart : (request_bytes request ++ flat_map request_bytes requests) ++ more ≡ request_bytes request ++ next = append_assoc (request_bytes request) (flat_map request_bytes requests) more in
    let message : Message = record { head = head; body = body_of request } in (
      message ∷ rest.0,
      subst (λ (bytes : List ℕ). Messages bytes (message ∷ rest.0) more) (sym apart)
          (next, sent.front head body_limit next read is.short (body_fits request is.values is.valid), rest.1),
      (sent.asks head read, rest.2),
    )
