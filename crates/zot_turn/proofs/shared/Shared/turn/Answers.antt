use Rattle.std.proofs.Common.{◌≡◌, ℕ, Some, sym, subst}
use Rattle.zot_turn.specs.Seats.{Standing, IsOwed, Turned, acting}
use Rattle.zot_turn.specs.Views.{standing_of}
use Rattle.zot_turn.proofs.Calling.{opened, same_table, has_number, acting_is, needed, may_give, rests_again, turned, later_turned}
use Rattle.zot_turn.proofs.shared.Shared.turn.Goals as goal

pub take-found-requires-clause-acts : goal.take-found-requires-clause-acts
take-found-requires-clause-acts g c = has_number c.seat.inside.number c.seat.inside.turns c.seat.inside.inner.me c.seat.invariant

pub run-requires : goal.run-requires
run-requires g c =
    let me = c.seat.inside.inner.me in
    let number : ℕ = c.seat.inside.number in
    let opening : me.0.opening ≡ Some c.self.inside.table.shared.key.value = opened _ _ _ c.seat.inside.inner.me.0 _ _ c.seat.view_is c.requires.seat c.self.view_is in
    let owed = subst (λ (s : Standing g.row.O.Denot g.row.O-Entry.Denot). IsOwed g.O.Object.step s (λ v. g.J.Job.needs c.args.job.now (acting s.mine) v)) (sym c.seat.view_is) c.requires.needs in
    subst (λ (n : ℕ). g.J.Job.needs c.args.job.now n c.lift-value.result) (acting_is number c.seat.inside.turns me c.seat.invariant)
    (needed g.O.Object.step c.self.inside.table.shared.key.value c.seat.inside.inner.table_id number c.seat.inside.turns me c.seat.invariant opening c.take-found.result c.take-found.new.seat.me c.take-found.ensures.taken c.lift-value.result c.lift-value.ensures.value.0
    (λ v. g.J.Job.needs c.args.job.now (acting me.0.mine) v) owed)

pub give-requires-clause-may : goal.give-requires-clause-may
give-requires-clause-may g c =
    let me = c.seat.inside.inner.me in
    let opening : me.0.opening ≡ Some c.self.inside.table.shared.key.value = opened _ _ _ c.seat.inside.inner.me.0 _ _ c.seat.view_is c.requires.seat c.self.view_is in
    may_give g.O.Object.step c.self.inside.table.shared.key.value c.seat.inside.inner.table_id c.seat.inside.number c.seat.inside.turns me c.seat.invariant opening c.take-found.result c.take-found.new.seat.me c.take-found.ensures.taken c.lift-value.result c.lift-value.ensures.value.0
    (g.J.Job.entries c.run.new.self) c.run.new.value c.run.ensures.legal c.lift-value.new.seat.me c.lay.new.seat.me c.lift-value.ensures.value.1 c.lay.ensures.value

pub invariant_of-seat : goal.invariant_of-seat
invariant_of-seat g c =
    let me = c.seat.inside.inner.me in
    let opening : me.0.opening ≡ Some c.self.inside.table.shared.key.value = opened _ _ _ c.seat.inside.inner.me.0 _ _ c.seat.view_is c.requires.seat c.self.view_is in
    rests_again g.O.Object.step c.self.inside.table.shared.key.value c.seat.inside.inner.table_id c.seat.inside.number c.seat.inside.turns me c.seat.invariant opening c.take-found.result c.take-found.new.seat.me c.take-found.ensures.taken c.lift-value.result c.lift-value.ensures.value.0
    (g.J.Job.entries c.run.new.self) c.run.new.value c.run.ensures.legal c.lift-value.new.seat.me c.lay.new.seat.me c.lift-value.ensures.value.1 c.lay.ensures.value c.give.new.seat.me c.give.ensures.given

pub returns-clause-turned : goal.returns-clause-turned
returns-clause-turned g c =
    let me = c.seat.inside.inner.me in
    let number : ℕ = c.seat.inside.number in
    let place = same_table c.seat.inside.inner.table_id c.take-found.new.seat.table_id c.lift-value.new.seat.table_id c.lay.new.seat.table_id c.give.new.seat.table_id c.take-found.ensures.seat.0 c.lift-value.ensures.seat.0 c.lay.ensures.seat.0 c.give.ensures.seat.0 in
    let opening : me.0.opening ≡ Some c.self.inside.table.shared.key.value = opened _ _ _ c.seat.inside.inner.me.0 _ _ c.seat.view_is c.requires.seat c.self.view_is in
    let run = subst (λ (n : ℕ). g.J.Job.does c.args.job.now n c.lift-value.result c.run.new.value c.run.new.self) (sym (acting_is number c.seat.inside.turns me c.seat.invariant)) c.run.ensures.done in
    subst (λ (s : Standing g.row.O.Denot g.row.O-Entry.Denot). Turned g.O.Object.step (g.J.Job.entries c.run.new.self) (λ v w. g.J.Job.does c.args.job.now (acting s.mine) v w c.run.new.self) s (standing_of c.give.new.seat.table_id c.give.new.seat.me.0)) c.seat.view_is
    (turned g.O.Object.step c.self.inside.table.shared.key.value c.seat.inside.inner.table_id number c.seat.inside.turns me c.seat.invariant opening c.take-found.result c.take-found.new.seat.me c.take-found.ensures.taken c.lift-value.result c.lift-value.ensures.value.0
    (g.J.Job.entries c.run.new.self) c.run.new.value c.run.ensures.legal c.lift-value.new.seat.me c.lay.new.seat.me c.lift-value.ensures.value.1 c.lay.ensures.value c.give.new.seat.me c.give.ensures.given
    c.give.new.seat.table_id place (λ v w. g.J.Job.does c.args.job.now (acting me.0.mine) v w c.run.new.self) run)

pub returns-clause-later : goal.returns-clause-later
returns-clause-later g c = later_turned g.O.Object.step _ _ _ _ (returns-clause-turned g c)
