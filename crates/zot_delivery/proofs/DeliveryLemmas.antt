-- A request's bytes are read as the request, and as no other.
use Rattle.std.proofs.Common.{◌≡◌, ℕ, ◌≤◌, Some, List, [], ◌++◌, drop, length, refl, sym, ap, subst, take, ◌∙◌}
use Rattle.std.proofs.lemmas.List.{drop_at, take_at}
use Rattle.zot_head.specs.declared.head.Head.{Head}
use Rattle.zot_head.specs.Front.{IsFront, IsHead, Message, with_body}
use Rattle.zot_head.specs.Limits.{head_limit}
use Rattle.zot_head.specs.Lines.{head_end}
use Rattle.zot_head.proofs.LineLemmas.{head_end_is}
use Rattle.zot_model.specs.declared.request.Request.{Request}
use Rattle.zot_model.specs.Valid.{IsValid}
use Rattle.zot_route.specs.declared.routed.Routed.TheVariants as routes
use Rattle.zot_route.specs.Routes.{Routes}
use Rattle.zot_route.proofs.OneLemmas.{routes_one}
use Rattle.zot_spell.specs.Wire.{body_of, head_of, request_bytes}
use Rattle.zot_delivery.specs.Delivery.{IsDelivered}
use Rattle.zot_model.specs.Values.{HasValues}
use Rattle.zot_delivery.proofs.CallLemmas.{request_asked}
use Rattle.zot_delivery.proofs.HeadLemmas.{body_framed, bytes_apart, ends_at, head_in_front, head_is, is_head, read_of}

module _ (request : Request) (values : HasValues request) (valid : IsValid request) where
  ends : (more : List ℕ) → head_end (request_bytes request ++ more) ≡ Some (length (head_of request))
  ends more =
      ap head_end (bytes_apart request more)
      ∙ head_end_is.stays (head_of request) (body_of request ++ more) (length (head_of request)) (ends_at (head_of request) (read_of request) (is_head request values valid))

  front : (limit : ℕ) (more : List ℕ) → length (head_of request) ≤ head_limit → length (body_of request) ≤ limit → IsFront limit (request_bytes request ++ more) (Message (read_of request) (body_of request) more)
  front limit more short fits =
      subst (λ (t : List ℕ). IsFront limit t (Message (read_of request) (body_of request) more)) (sym (bytes_apart request more))
      (head_in_front limit (head_of request) (body_of request ++ more) (read_of request) (Message (read_of request) (body_of request) more) (is_head request values valid) short
      (sym (body_framed request values valid limit more fits)))

  pub delivered : IsDelivered request
  delivered = record {
    ends = ends;
    reads = (read_of request, is_head request values valid);
    framed = λ head limit more is fits. subst (λ (h : Head). with_body limit h h.framing (body_of request ++ more) ≡ Message h (body_of request) more)
        (head_is request values valid head is) (body_framed request values valid limit more fits);
    asks = λ head is. subst (λ (h : Head). Routes h (body_of request) (routes.Request request)) (head_is request values valid head is)
        (request_asked request.name request.call request.hop values valid);
    front = λ head limit more is short fits. subst (λ (h : Head). IsFront limit (request_bytes request ++ more) (Message h (body_of request) more))
        (head_is request values valid head is) (front limit more short fits);
  }

same_parts : (request other : Request) → request_bytes request ≡ request_bytes other → head_of request ++ body_of request ≡ head_of other ++ body_of other
unfolding request_bytes
same_parts request other e = e

pub one_request : (request other : Request) → HasValues request → IsValid request → HasValues other → IsValid other → request_bytes request ≡ request_bytes other → request ≡ other
one_request request other values valid values' valid' e =
    let joined = same_parts request other e in
    let first = ends request values valid [] in
    let second = ends other values' valid' [] in
    let same = ap (λ (t : List ℕ). head_end (t ++ [])) e in
    let sizes : length (head_of request) ≡ length (head_of other) = cc (first, second, same) in
    let text : head_of request ≡ head_of other =
    sym (take_at (head_of request) (body_of request) (length (head_of other)) sizes) ∙ ap (take (length (head_of other))) joined ∙ take_at (head_of other) (body_of other) (length (head_of other)) refl in
    let body : body_of request ≡ body_of other =
    sym (drop_at (head_of request) (body_of request) (length (head_of other)) sizes) ∙ ap (drop (length (head_of other))) joined ∙ drop_at (head_of other) (body_of other) (length (head_of other)) refl in
    let is : IsHead (head_of other) (read_of request) = subst (λ (t : List ℕ). IsHead t (read_of request)) text (is_head request values valid) in
    let asks : Routes (read_of request) (body_of other) (routes.Request request) =
    subst (λ (t : List ℕ). Routes (read_of request) t (routes.Request request)) body (request_asked request.name request.call request.hop values valid) in
    let one = routes_one (read_of request) (body_of other) (routes.Request request) (routes.Request other) asks ((delivered other values' valid').asks (read_of request) is) in
    cc one
