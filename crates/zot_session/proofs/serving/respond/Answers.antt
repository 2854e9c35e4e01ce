use Rattle.std.proofs.Common.{refl}
use Rattle.zot_session.specs.Turn.{replied_last, unreplied_last}
use Rattle.zot_session.proofs.CauseLemmas.{counts_unsent}
use Rattle.zot_session.proofs.serving.respond.Goals as goal

pub returns-then-head : goal.returns-then-head
returns-then-head g c = record {
  responds = replied_last c.if-head.true refl c.in-Ok.ensures.exchanged;
  faults = record { rose = λ e. absurd (cc e); kept = λ other. c.in-Ok.ensures.faults.kept (λ e. cc e) };
}

pub returns-in-Err : goal.returns-in-Err
returns-in-Err g c = record {
  responds = unreplied_last c.in-Err.error c.end.ensures c.in-Err.ensures.exchanged;
  faults = counts_unsent c.in-Err.error c.end.result c.end.ensures (λ e. cc e) (λ e. cc e) c.in-Err.ensures.faults;
}
