use Rattle.std.proofs.Common.{ℕ, arith, ap, ◌∙◌}
use Rattle.zot_turn.specs.Seats.{Home, seen}
use Rattle.tests_turn.proofs.Carried.{from_opening}
use Rattle.tests_turn.proofs.Counting.{in_order, pair_has_all, pair_count, pair_raised}
use Rattle.tests_turn.proofs.counter.counted.Goals as goal

pub close-requires-clause-all : goal.close-requires-clause-all
close-requires-clause-all c = pair_has_all 1000 1000 c.args.seat c.requires.both

pub returns-clause-count : goal.returns-clause-count
returns-clause-count c = pair_count 1000 1000 c.args.seat c.requires.both c.close.ensures.own c.close.ensures.all

pub returns-clause-order : goal.returns-clause-order
returns-clause-order c =
    let count = returns-clause-count c in
    let opening = ap (λ (h : Home ℕ). h.opening) c.requires.home.0 ∙ c.requires.home.1 in
    λ i l. in_order 0 c.close.result (seen c.args.seat) (from_opening _ c.args.seat.home 0 c.close.result (seen c.args.seat) opening c.close.ensures.stands) (omega (arith, count)) i (omega (arith, count, l)) ∙ omega arith

pub returns-clause-value : goal.returns-clause-value
returns-clause-value c =
    let opening = ap (λ (h : Home ℕ). h.opening) c.requires.home.0 ∙ c.requires.home.1 in
    c.value.ensures ∙ pair_raised 1000 1000 c.args.seat c.requires.both opening (omega arith) c.close.result c.close.ensures.stands c.close.ensures.all c.close.ensures.own
