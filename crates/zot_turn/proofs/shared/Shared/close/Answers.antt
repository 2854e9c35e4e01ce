use Rattle.std.proofs.Common.{◌≡◌, ◌≤◌, Option, Contains, Some, length, sym, ap, ◌∙◌, subst}
use Rattle.std.specs.List.{AllByRecursion}
use mathlib.Core.Option.{some}
use Rattle.zot_turn.specs.Seats.{Standing, HasAll, HasOwn, Stands, numbers, seen}
use Rattle.zot_turn.proofs.Calling.{opened, ends, never_empty, value_stands}
use Rattle.zot_turn.proofs.shared.Shared.close.Goals as goal

pub unreachable-requires : goal.unreachable-requires
unreachable-requires g c =
    let step = g.O.Object.step in
    let origin = c.self.inside.table.shared.key.value in
    let inner = c.seat.inside.inner in
    let slots = c.close_with-closed.result.slots.items in
    never_empty step origin inner.table_id c.seat.inside.number c.seat.inside.turns inner.me c.seat.invariant slots
    (ends step origin inner.table_id c.seat.inside.number c.seat.inside.turns inner.me c.seat.invariant inner.id _ slots c.close_with-closed.ensures.values.2 (subst HasAll (sym c.seat.view_is) c.requires.all))
    (c.take-slot.ensures.value ∙ ap (λ (o : Option g.row.O.Denot). some o) c.in-None.is)

pub returns-clause-stands : goal.returns-clause-stands
returns-clause-stands g c =
    let step = g.O.Object.step in
    let origin = c.self.inside.table.shared.key.value in
    let inner = c.seat.inside.inner in
    let slots = c.close_with-closed.result.slots.items in
    let e = ends step origin inner.table_id c.seat.inside.number c.seat.inside.turns inner.me c.seat.invariant inner.id _ slots c.close_with-closed.ensures.values.2 (subst HasAll (sym c.seat.view_is) c.requires.all) in
    let opening : inner.me.0.opening ≡ Some origin = opened _ _ _ c.seat.inside.inner.me.0 _ _ c.seat.view_is c.requires.seat c.self.view_is in
    subst (λ (s : Standing g.row.O.Denot g.row.O-Entry.Denot). Stands step s.home (seen s) c.in-Some.value) c.seat.view_is
    (value_stands step origin inner.table_id c.seat.inside.number c.seat.inside.turns inner.me c.seat.invariant slots e c.in-Some.value c.in-Some.ensures.value opening)

pub returns-clause-all : goal.returns-clause-all
returns-clause-all g c =
    let inner = c.seat.inside.inner in
    let e = ends g.O.Object.step c.self.inside.table.shared.key.value inner.table_id c.seat.inside.number c.seat.inside.turns inner.me c.seat.invariant inner.id _ c.close_with-closed.result.slots.items c.close_with-closed.ensures.values.2 (subst HasAll (sym c.seat.view_is) c.requires.all) in
    subst (λ (s : Standing g.row.O.Denot g.row.O-Entry.Denot). AllByRecursion (λ t. Contains (numbers s.mine) t.0) s.turns) c.seat.view_is e.all

pub returns-clause-own : goal.returns-clause-own
returns-clause-own g c =
    let inner = c.seat.inside.inner in
    let e = ends g.O.Object.step c.self.inside.table.shared.key.value inner.table_id c.seat.inside.number c.seat.inside.turns inner.me c.seat.invariant inner.id _ c.close_with-closed.result.slots.items c.close_with-closed.ensures.values.2 (subst HasAll (sym c.seat.view_is) c.requires.all) in
    subst (λ (s : Standing g.row.O.Denot g.row.O-Entry.Denot). HasOwn s.mine (seen s)) c.seat.view_is e.own

pub returns-clause-shown : goal.returns-clause-shown
returns-clause-shown g c =
    let inner = c.seat.inside.inner in
    let e = ends g.O.Object.step c.self.inside.table.shared.key.value inner.table_id c.seat.inside.number c.seat.inside.turns inner.me c.seat.invariant inner.id _ c.close_with-closed.result.slots.items c.close_with-closed.ensures.values.2 (subst HasAll (sym c.seat.view_is) c.requires.all) in
    subst (λ (s : Standing g.row.O.Denot g.row.O-Entry.Denot). s.shown ≤ length s.turns) c.seat.view_is e.shown
