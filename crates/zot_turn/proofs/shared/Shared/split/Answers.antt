use Rattle.std.proofs.Common.{arith, ◌∙◌, subst}
use Rattle.zot_turn.specs.Seats.{Standing, Parted}
use Rattle.zot_turn.specs.Views.{standing_of}
use Rattle.zot_turn.proofs.Calling.{placed, has_number, parted}
use Rattle.zot_turn.proofs.Parting.{parts_seat}
use Rattle.zot_turn.proofs.shared.Shared.split.Goals as goal

pub draw-number-requires-clause-acts : goal.draw-number-requires-clause-acts
draw-number-requires-clause-acts g c = has_number c.seat.inside.number c.seat.inside.turns c.seat.inside.inner.me c.seat.invariant

pub split_seat-inner-requires : goal.split_seat-inner-requires
split_seat-inner-requires g c =
    let place = placed _ _ _ c.seat.inside.inner.me.0 _ _ c.seat.view_is c.requires c.self.view_is in
    (c.draw-number.ensures.seat.0 ∙ place, omega (arith, c.self.invariant.0), parts_seat g.O.Object.step c.self.inside.table.shared.key.value c.draw-number.new.seat.id c.draw-number.new.seat.me.0)

pub returns-clause-parted : goal.returns-clause-parted
returns-clause-parted g c =
    let inner = c.seat.inside.inner in
    let e = c.split_seat-inner.ensures in
    let here = c.draw-number.ensures.seat.0 in
    let given = c.split_seat-inner.new.seat in
    let taken = c.split_seat-inner.result in
    subst (λ (s : Standing g.row.O.Denot g.row.O-Entry.Denot). Parted s (standing_of given.table_id given.me.0) (standing_of taken.table_id taken.me.0)) c.seat.view_is
    (parted inner.table_id c.seat.inside.number c.seat.inside.turns inner.me c.seat.invariant c.draw-number.result c.draw-number.new.seat.me c.draw-number.ensures.drawn given.table_id taken.table_id (e.0 ∙ here) (e.3 ∙ here) given.me taken.me e.2 e.4)
