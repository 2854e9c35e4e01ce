use Rattle.std.proofs.Common.{Some, ap, ◌∙◌}
use Rattle.tests_turn.proofs.Counting.{pair_has_all, awaited_pair, awaited}
use Rattle.tests_turn.proofs.counter.woken.Goals as goal

pub close-requires-clause-all : goal.close-requires-clause-all
close-requires-clause-all g c = pair_has_all 1 1 c.join.new.seat
    (awaited_pair c.in_ok-shared.shared c.in_ok-shared.seat c.split.new.seat c.in_ok-other.other _ _ c.join.new.seat c.in_ok-shared.ensures.seat c.in_ok-other.ensures.parted _ _ c.join-late.ensures.first c.join-late.ensures.second c.join.ensures)

pub returns : goal.returns
returns g c = awaited c.in_ok-shared.shared c.in_ok-shared.seat c.split.new.seat c.in_ok-other.other _ _ c.join.new.seat c.in_ok-shared.ensures.seat c.in_ok-other.ensures.parted _ _ c.join-late.ensures.first c.join-late.ensures.second c.join.ensures
    (c.in_ok-shared.ensures.opening ∙ ap Some c.zero.ensures) c.close.result c.close.ensures.stands c.close.ensures.all c.close.ensures.own
