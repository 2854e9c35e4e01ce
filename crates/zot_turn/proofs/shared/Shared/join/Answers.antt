use Rattle.std.proofs.Common.{◌≡◌, Some, arith, sym, ◌∙◌, subst}
use Rattle.zot_turn.specs.Seats.{Standing, Joined}
use Rattle.zot_turn.specs.Views.{standing_of}
use Rattle.zot_turn.proofs.Calling.{opened, placed, joined_rests, joined_seats}
use Rattle.zot_turn.proofs.Joining.{joins_seats}
use Rattle.zot_turn.proofs.Looking.{settles_on}
use Rattle.zot_turn.proofs.shared.Shared.join.Goals as goal

pub join_seat-requires : goal.join_seat-requires
join_seat-requires g c =
    let mine = placed _ _ _ c.seat.inside.inner.me.0 _ _ c.seat.view_is c.requires.0 c.self.view_is in
    let theirs = placed _ _ _ c.other.inside.inner.me.0 _ _ c.other.view_is c.requires.1 c.self.view_is in (
      mine,
      theirs,
      c.other.invariant.slots,
      omega (arith, c.self.invariant.0),
      joins_seats g.O.Object.step c.self.inside.table.shared.key.value c.seat.inside.inner.id c.other.inside.inner.id c.seat.inside.inner.me.0 c.other.inside.inner.me.0 c.seat.invariant.holding c.other.invariant.holding,
    )

pub load-requires : goal.load-requires
load-requires g c =
    let mine = placed _ _ _ c.seat.inside.inner.me.0 _ _ c.seat.view_is c.requires.0 c.self.view_is in
    (c.join_seat.ensures.0 ∙ mine, omega (arith, c.self.invariant.0), settles_on g.O.Object.step c.self.inside.table.shared.key.value c.join_seat.new.seat.id c.self.inside.table.shared.table_id.slots c.join_seat.new.seat.me)

pub invariant_of-seat : goal.invariant_of-seat
invariant_of-seat g c =
    let seat = c.seat.inside in
    let other = c.other.inside in
    let opening : c.seat.inside.inner.me.0.opening ≡ Some c.self.inside.table.shared.key.value = opened _ _ _ c.seat.inside.inner.me.0 _ _ c.seat.view_is c.requires.0 c.self.view_is in
    joined_rests g.O.Object.step c.self.inside.table.shared.key.value seat.inner.table_id seat.number seat.turns seat.inner.me c.seat.invariant opening other.number other.turns other.inner.me c.other.invariant c.join_seat.new.seat.me c.load.new.seat.me c.join_seat.ensures.2
    c.self.inside.table.shared.table_id.slots c.load.result c.load.ensures.2 c.max-most.result c.max-most.ensures

pub returns : goal.returns
returns g c =
    let seat = c.seat.inside in
    let other = c.other.inside in
    let mine = placed _ _ _ c.seat.inside.inner.me.0 _ _ c.seat.view_is c.requires.0 c.self.view_is in
    let theirs = placed _ _ _ c.other.inside.inner.me.0 _ _ c.other.view_is c.requires.1 c.self.view_is in
    let opening : c.seat.inside.inner.me.0.opening ≡ Some c.self.inside.table.shared.key.value = opened _ _ _ c.seat.inside.inner.me.0 _ _ c.seat.view_is c.requires.0 c.self.view_is in
    let last = c.load.new.seat in
    subst (λ (p : Standing g.row.O.Denot g.row.O-Entry.Denot × Standing g.row.O.Denot g.row.O-Entry.Denot). Joined g.O.Object.step p.0 p.1 (standing_of last.table_id last.me.0)) (λ i. (c.seat.view_is i, c.other.view_is i))
    (joined_seats g.O.Object.step c.self.inside.table.shared.key.value seat.inner.table_id seat.number seat.turns seat.inner.me c.seat.invariant opening other.number other.turns other.inner.me c.other.invariant c.join_seat.new.seat.me last.me c.join_seat.ensures.2
    c.self.inside.table.shared.table_id.slots c.load.result c.load.ensures.2 last.table_id other.inner.table_id (c.load.ensures.0 ∙ c.join_seat.ensures.0) (theirs ∙ sym mine))
