use Rattle.std.proofs.Common.{refl, subst}
use Rattle.zot_session.specs.Receiving.{Receives}
use Rattle.zot_session.proofs.CauseLemmas.{causes_map, causes_written}
use Rattle.zot_session.proofs.HeadingLemmas.{body_within}
use Rattle.zot_session.proofs.TurnLemmas.{responds_no_read, stop_receiving, stop_refusing, turn_ends, turn_on}
use Rattle.zot_session.proofs.serving.turn.Goals as goal

pub returns-in-Err : goal.returns-in-Err
returns-in-Err g c = record {
  on = tt;
  ends = stop_receiving g.A.Answers.answers c.args.answers.now c.in-Err.ensures.ends;
  causes = causes_map refl refl (λ e. cc e) (λ e. cc e) (λ e. cc e) (λ e. cc e) c.in-Err.ensures.causes;
}

pub returns-in-Ok-Refused-clause-ends : goal.returns-in-Ok-Refused-clause-ends
returns-in-Ok-Refused-clause-ends g c =
    let r = subst (λ x. Receives x c.args.inbox.now c.receive.new.inbox (g.C.Source.left c.args.source.now) (g.C.Source.left c.receive.new.source) (g.K.Sink.held c.args.sink.now) (g.K.Sink.held c.receive.new.sink))
    c.in-Ok-Refused.field-0-is c.in-Ok-Refused.ensures.receives in
    stop_refusing g.A.Answers.answers c.args.answers.now r c.refuse.ensures.ends

pub respond-requires : goal.respond-requires
respond-requires g c =
    let r = subst (λ x. Receives x c.args.inbox.now c.receive.new.inbox (g.C.Source.left c.args.source.now) (g.C.Source.left c.receive.new.source) (g.K.Sink.held c.args.sink.now) (g.K.Sink.held c.receive.new.sink))
    c.in-Ok-Whole.field-0-is c.in-Ok-Whole.ensures.receives in
    body_within _ c.in-Ok-Whole.body.items _ c.in-Ok-Whole.head r.stands

pub returns-in-Ok-Whole : goal.returns-in-Ok-Whole
returns-in-Ok-Whole g c =
    let r = subst (λ x. Receives x c.args.inbox.now c.receive.new.inbox (g.C.Source.left c.args.source.now) (g.C.Source.left c.receive.new.source) (g.K.Sink.held c.args.sink.now) (g.K.Sink.held c.receive.new.sink))
    c.in-Ok-Whole.field-0-is c.in-Ok-Whole.ensures.receives in
    record {
      on = turn_on g.A.Answers.answers r _ _ _ c.respond.result c.respond.ensures.responds;
      ends = turn_ends g.A.Answers.answers r _ _ _ c.respond.result c.respond.ensures.responds;
      causes = causes_written (responds_no_read g.A.Answers.answers c.args.answers.now c.respond.new.answers (record { head = c.in-Ok-Whole.head; body = c.in-Ok-Whole.body.items }) _ _ c.respond.result c.respond.ensures.responds) (c.in-Ok-Whole.ensures.causes.read.kept (λ e. cc e)) (c.in-Ok-Whole.ensures.causes.write.kept (λ e. cc e)) c.respond.ensures.faults;
    }
