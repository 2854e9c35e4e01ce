-- A request that is handed on, or isn't, is delivered.
use Rattle.std.proofs.Common.{◌≡◌, ℕ, Bool, List, length, refl, sym, ap, subst, ◌∙◌}
use Rattle.zot_head.specs.declared.head.Head.{Head}
use Rattle.zot_head.specs.Front.{IsHead}
use Rattle.zot_model.specs.declared.request.Request.{Request}
use Rattle.zot_model.specs.Valid.{IsValid}
use Rattle.zot_route.specs.declared.routed.Routed.TheVariants as routes
use Rattle.zot_route.specs.Routes.{Routes}
use Rattle.zot_spell.specs.Wire.{body_of, head_of, request_head, with_hop}
use Rattle.zot_delivery.specs.Delivery.{IsDelivered}
use Rattle.zot_model.specs.Values.{HasValues}
use Rattle.zot_delivery.proofs.DeliveryLemmas.{delivered}

module _ (request : Request) (hop : Bool) (values : HasValues request) (valid : IsValid request) where
  handed : IsDelivered (with_hop request hop)
  handed = delivered (with_hop request hop) (record { name = values.name; call = values.call }) (record { named = valid.named; call = valid.call })

  same_body : body_of (with_hop request hop) ≡ body_of request
  unfolding body_of
  same_body = refl

  -- the head that is spelled before that body
  spelled : (text body : List ℕ) → text ≡ request_head (with_hop request hop) (length body) → body ≡ body_of request → text ≡ head_of (with_hop request hop)
  spelled text body e is = e ∙ ap (λ (b : List ℕ). request_head (with_hop request hop) (length b)) (is ∙ sym same_body)

  pub head_there : (text body : List ℕ) → text ≡ request_head (with_hop request hop) (length body) → body ≡ body_of request → (head : Head) × IsHead text head
  head_there text body e is = subst (λ (t : List ℕ). (head : Head) × IsHead t head) (sym (spelled text body e is)) handed.reads

  pub asks_it : (text body copy : List ℕ) (head : Head) → text ≡ request_head (with_hop request hop) (length body) → body ≡ body_of request → copy ≡ body → IsHead text head
      → Routes head copy (routes.Request (with_hop request hop))
  asks_it text body copy head e is same read =
      subst (λ (b : List ℕ). Routes head b (routes.Request (with_hop request hop))) (same_body ∙ sym is ∙ sym same)
      (handed.asks head (subst (λ (t : List ℕ). IsHead t head) (spelled text body e is) read))
