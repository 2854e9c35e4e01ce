use Rattle.std.proofs.Common.{◌∙◌, ◌-◌, ℕ, Bool, ap, refl, sym, subst, false}
use Rattle.zot_session.specs.Cuts.{end_at}
use Rattle.zot_session.specs.Messages.{is_blank}
use Rattle.zot_session.specs.Receiving.{Bodies, Heads, MessageRefused}
use Rattle.zot_session.proofs.CauseLemmas.{causes_cut, causes_map}
use Rattle.zot_session.proofs.ReceiveLemmas.{ends_in_body, ends_in_continue, ends_in_head, refused_for_size, refused_in_body, refused_in_head, whole_message}
use Rattle.zot_session.proofs.receiving.receive.Goals as goal

pub returns-then-not-is_read-clause-receives : goal.returns-then-not-is_read-clause-receives
returns-then-not-is_read-clause-receives g c =
    let h = subst (λ x. Heads x c.args.inbox.now c.receive_head.new.inbox (g.C.Source.left c.args.source.now) (g.C.Source.left c.receive_head.new.source)) c.in-Ok-Whole.field-0-is c.in-Ok-Whole.ensures.heads in
    subst (λ reply. MessageRefused reply c.args.inbox.now c.receive_head.new.inbox (g.C.Source.left c.args.source.now) (g.C.Source.left c.receive_head.new.source) (g.K.Sink.held c.args.sink.now) (g.K.Sink.held c.args.sink.now)) (sym c.size_invalid.ensures)
    (refused_for_size (g.K.Sink.held c.args.sink.now) h (λ r. let e = c.if-not-is_read.ensures.1 r in cc e))

pub returns-in-Err-send_continue-clause-ends : goal.returns-in-Err-send_continue-clause-ends
returns-in-Err-send_continue-clause-ends g c =
    let h = subst (λ x. Heads x c.args.inbox.now c.receive_head.new.inbox (g.C.Source.left c.args.source.now) (g.C.Source.left c.receive_head.new.source)) c.in-Ok-Whole.field-0-is c.in-Ok-Whole.ensures.heads in
    ends_in_continue h (c.if-not-is_read.ensures.0 refl) c.in-Err-send_continue.ensures.err

pub returns-in-Err-clause-ends : goal.returns-in-Err-clause-ends
returns-in-Err-clause-ends g c =
    ends_in_head c.end.result c.passed-begun.result (g.K.Sink.held c.args.sink.now) c.in-Err.ensures.cut c.passed-begun.ensures
    (c.end.ensures ∙ ap (λ (blank : Bool). end_at c.in-Err.cut blank (c.taken.result - c.passed-begun.result)) (c.is_blank.ensures ∙ ap is_blank c.waiting.ensures)
    ∙ ap (λ (n : ℕ). end_at c.in-Err.cut (is_blank c.receive_head.new.inbox.bytes) (n - c.passed-begun.result)) c.taken.ensures)

pub returns-in-Err-clause-causes : goal.returns-in-Err-clause-causes
returns-in-Err-clause-causes g c =
    causes_map refl refl (λ e. cc e) (λ e. cc e) (λ e. cc e) (λ e. cc e)
    (causes_cut c.in-Err.cut c.is_blank.result (c.taken.result - c.passed-begun.result) c.end.result c.end.ensures (λ e. cc e) (λ e. cc e) refl c.in-Err.ensures.faults refl)

pub returns-in-Ok-Refused-clause-receives : goal.returns-in-Ok-Refused-clause-receives
returns-in-Ok-Refused-clause-receives g c =
    let h = subst (λ x. Heads x c.args.inbox.now c.receive_head.new.inbox (g.C.Source.left c.args.source.now) (g.C.Source.left c.receive_head.new.source)) c.in-Ok-Refused.field-0-is c.in-Ok-Refused.ensures.heads in
    refused_in_head (g.K.Sink.held c.args.sink.now) h

pub returns-in-Err-receive_body-clause-ends : goal.returns-in-Err-receive_body-clause-ends
returns-in-Err-receive_body-clause-ends g c =
    let h = subst (λ x. Heads x c.args.inbox.now c.receive_head.new.inbox (g.C.Source.left c.args.source.now) (g.C.Source.left c.receive_head.new.source)) c.in-Ok-Whole.field-0-is c.in-Ok-Whole.ensures.heads in
    ends_in_body c.end-in-Err-receive_body.result c.passed-begun.result _ _ h (c.if-not-is_read.ensures.0 refl) c.in-Ok.ensures.ok c.in-Err-receive_body.ensures.cut c.passed-begun.ensures
    (c.end-in-Err-receive_body.ensures ∙ ap (λ (n : ℕ). end_at c.in-Err-receive_body.cut false (n - c.passed-begun.result)) c.taken-in-Err-receive_body.ensures)

pub returns-in-Err-receive_body-clause-causes : goal.returns-in-Err-receive_body-clause-causes
returns-in-Err-receive_body-clause-causes g c =
    causes_map refl refl (λ e. cc e) (λ e. cc e) (λ e. cc e) (λ e. cc e)
    (causes_cut c.in-Err-receive_body.cut false (c.taken-in-Err-receive_body.result - c.passed-begun.result) c.end-in-Err-receive_body.result c.end-in-Err-receive_body.ensures (λ e. cc e) (λ e. cc e)
    (c.in-Ok-Whole.ensures.faults.kept (λ e. cc e)) c.in-Err-receive_body.ensures.faults c.in-Ok.ensures.cause.kept)

pub returns-in-Ok-Whole-receive_body-clause-receives : goal.returns-in-Ok-Whole-receive_body-clause-receives
returns-in-Ok-Whole-receive_body-clause-receives g c =
    let h = subst (λ x. Heads x c.args.inbox.now c.receive_head.new.inbox (g.C.Source.left c.args.source.now) (g.C.Source.left c.receive_head.new.source)) c.in-Ok-Whole.field-0-is c.in-Ok-Whole.ensures.heads in
    let b = subst (λ x. Bodies x c.in-Ok-Whole.head.framing c.receive_head.new.inbox c.receive_body.new.inbox (g.C.Source.left c.receive_head.new.source) (g.C.Source.left c.receive_body.new.source))
    c.in-Ok-Whole-receive_body.field-0-is c.in-Ok-Whole-receive_body.ensures.bodies in
    whole_message _ _ h (c.if-not-is_read.ensures.0 refl) c.in-Ok.ensures.ok b c.in-Ok-Whole-receive_body.ensures.room

pub returns-in-Ok-Refused-receive_body-clause-receives : goal.returns-in-Ok-Refused-receive_body-clause-receives
returns-in-Ok-Refused-receive_body-clause-receives g c =
    let h = subst (λ x. Heads x c.args.inbox.now c.receive_head.new.inbox (g.C.Source.left c.args.source.now) (g.C.Source.left c.receive_head.new.source)) c.in-Ok-Whole.field-0-is c.in-Ok-Whole.ensures.heads in
    let b = subst (λ x. Bodies x c.in-Ok-Whole.head.framing c.receive_head.new.inbox c.receive_body.new.inbox (g.C.Source.left c.receive_head.new.source) (g.C.Source.left c.receive_body.new.source))
    c.in-Ok-Refused-receive_body.field-0-is c.in-Ok-Refused-receive_body.ensures.bodies in
    refused_in_body _ _ h (c.if-not-is_read.ensures.0 refl) c.in-Ok.ensures.ok b
