-- A request that is handed on is read with its hop.
use Rattle.std.proofs.Common.{◌≡◌, ℕ, List, ◌++◌, length, true, refl, sym, ap, subst, ◌∙◌}
use Rattle.zot_delivery.proofs.DeliveryLemmas.{delivered}
use Rattle.zot_delivery.specs.Delivery.{IsDelivered}
use Rattle.zot_model.specs.declared.request.Request.{Request}
use Rattle.zot_model.specs.Valid.{IsValid}
use Rattle.zot_model.specs.Values.{HasValues}
use Rattle.zot_proxy.specs.Forwarding.{IsReadAs}
use Rattle.zot_spell.specs.Wire.{body_of, head_of, request_bytes, request_head, with_hop}

-- the hop is no part of the body
pub same_body : (request : Request) → body_of (with_hop request true) ≡ body_of request
unfolding body_of
same_body request = refl

-- the head that is spelled before that body, and the body, are the request's bytes
pub joined : (request : Request) (head body : List ℕ) → head ≡ request_head (with_hop request true) (length body) → body ≡ body_of request → head ++ body ≡ request_bytes (with_hop request true)
unfolding request_bytes
joined request head body e is =
    ap (λ (h : List ℕ). h ++ body) e ∙ ap (λ (b : List ℕ). request_head (with_hop request true) (length b) ++ b) (is ∙ sym (same_body request))

-- a request that is delivered is read of its own head and body
of_delivered : (request : Request) → IsDelivered request → IsReadAs request (head_of request) (body_of request)
unfolding request_bytes
of_delivered request d = record { ends = d.ends; reads = d.reads; asks = d.asks }

pub read : (request : Request) (head body : List ℕ) → HasValues request → IsValid request → head ≡ request_head (with_hop request true) (length body) → body ≡ body_of request → IsReadAs (with_hop request true) head body
read request head body values valid e is =
    let handed = with_hop request true in
    let d = delivered handed (record { name = values.name; call = values.call }) (record { named = valid.named; call = valid.call }) in
    let own = subst (λ (b : List ℕ). IsReadAs handed (request_head handed (length b)) b) (same_body request ∙ sym is) (of_delivered handed d) in
    subst (λ (h : List ℕ). IsReadAs handed h body) (sym e) own
