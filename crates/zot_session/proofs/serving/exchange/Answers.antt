use Rattle.std.proofs.Common.{Some, None, refl, ap, subst, ◌∙◌}
use Rattle.zot_route.specs.declared.routed.Routed.TheVariants as routes
use Rattle.zot_route.specs.Methods.{hides_body, method_of}
use Rattle.zot_route.specs.Routes.{Routes}
use Rattle.zot_session.specs.Exchanges.{answered, declined}
use Rattle.zot_session.specs.Turn.{Replies}
use Rattle.zot_spell.specs.Spelling.{reply_bytes}
use Rattle.zot_session.proofs.TurnLemmas.{exchange_sent}
use Rattle.zot_session.proofs.serving.exchange.Goals as goal

pub returns-in-Ok-Request-clause-exchanged : goal.returns-in-Ok-Request-clause-exchanged
returns-in-Ok-Request-clause-exchanged g c =
    let routed = subst (λ r. Routes c.new-parsed.result c.args.body.items r) c.in-Ok-Request.field-0-is c.in-Ok-Request.ensures.outcome in
    let r : Replies g.A.Answers.answers c.args.answers.now c.answer-reply.new.self (record { head = c.args.head.now; body = c.args.body.items }) = record {
      exchange = answered (record { head = c.args.head.now; body = c.args.body.items }) c.in-Ok-Request.request c.answer-reply.result;
      message_is = refl;
      routed = (subst (λ h. Routes h c.args.body.items (routes.Request c.in-Ok-Request.request)) c.new-parsed.ensures routed, c.answer-reply.ensures.fits);
      conducts = (c.answer-reply.new.self, c.answer-reply.ensures.meets, refl);
    } in
    let hides = c.hides_body.ensures ∙ ap (λ h. hides_body (method_of h.method)) c.new-parsed.ensures in
    exchange_sent g.A.Answers.answers c.send.result _ _ r _ (ap (λ hides. reply_bytes (Some c.in-Ok-Request.request) c.answer-reply.result hides c.args.head.now.closes) hides) c.send.ensures.sends

pub returns-in-Ok-Refused-clause-exchanged : goal.returns-in-Ok-Refused-clause-exchanged
returns-in-Ok-Refused-clause-exchanged g c =
    let routed = subst (λ r. Routes c.new-parsed.result c.args.body.items r) c.in-Ok-Refused.field-0-is c.in-Ok-Refused.ensures.outcome in
    let r : Replies g.A.Answers.answers c.args.answers.now c.args.answers.now (record { head = c.args.head.now; body = c.args.body.items }) = record {
      exchange = declined (record { head = c.args.head.now; body = c.args.body.items }) c.in-Ok-Refused.reply;
      message_is = refl;
      routed = subst (λ h. Routes h c.args.body.items (routes.Refused c.in-Ok-Refused.reply)) c.new-parsed.ensures routed;
      conducts = refl;
    } in
    let hides = c.hides_body-in-Ok-Refused.ensures ∙ ap (λ h. hides_body (method_of h.method)) c.new-parsed.ensures in
    exchange_sent g.A.Answers.answers c.send-in-Ok-Refused.result _ _ r _ (ap (λ hides. reply_bytes None c.in-Ok-Refused.reply hides c.args.head.now.closes) hides) c.send-in-Ok-Refused.ensures.sends
