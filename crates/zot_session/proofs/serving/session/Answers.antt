use Rattle.std.proofs.Common.{refl, ◌∙◌}
use Rattle.zot_session.proofs.CauseLemmas.{causes_map}
use Rattle.zot_session.proofs.EndLemmas.{of_bytes}
use Rattle.zot_session.proofs.SessionLemmas.{never_began, smaller, so_far_ends, so_far_more}
use Rattle.zot_session.proofs.serving.session.Goals as goal

pub returns-in_default-clause-served : goal.returns-in_default-clause-served
returns-in_default-clause-served g c = never_began _ refl _ _

pub returns-in-Some-clause-served : goal.returns-in-Some-clause-served
returns-in-Some-clause-served g c = so_far_ends g.A.Answers.answers c.turns.invariant.served c.in-Some.ensures.ends

pub returns-in-Some-clause-of_bytes : goal.returns-in-Some-clause-of_bytes
returns-in-Some-clause-of_bytes g c = of_bytes (returns-in-Some-clause-served g c)

pub returns-in-Some-clause-causes : goal.returns-in-Some-clause-causes
returns-in-Some-clause-causes g c = causes_map c.turns.invariant.reads c.turns.invariant.writes (λ e. cc e) (λ e. cc e) (λ e. cc e) (λ e. cc e) c.in-Some.ensures.causes

pub turns-smaller : goal.turns-smaller
turns-smaller g c = smaller g.A.Answers.answers c.turns.invariant.served.within c.in_default-turn.ensures.on

pub turns-preserved : goal.turns-preserved
turns-preserved g c = record {
  served = so_far_more g.A.Answers.answers c.turns.invariant.served c.in_default-turn.ensures.on;
  waits = c.in_default-turn.ensures.on.holds.waits;
  reads = c.in_default-turn.ensures.causes.read.kept (λ e. cc e) ∙ c.turns.invariant.reads;
  writes = c.in_default-turn.ensures.causes.write.kept (λ e. cc e) ∙ c.turns.invariant.writes;
}
