use Rattle.std.proofs.Common.{◌≡◌, ◌≤◌}
use Rattle.zot_turn.proofs.steps.watch.Given as goal

abbrev pub invariant-loop : goal.invariant-loop
invariant-loop g l = (l.seat.table_id ≡ l.fn.seat.table_id) × (l.seat.id ≡ l.fn.seat.id) × (l.fn.seat.me.0.shown ≤ l.seat.me.0.shown) × (l.seat.me ≡ (record l.fn.seat.me.0 { shown = l.seat.me.0.shown }, l.fn.seat.me.1))
