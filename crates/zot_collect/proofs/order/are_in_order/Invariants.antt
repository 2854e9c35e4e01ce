use Rattle.zot_collect.proofs.PlaceLemmas.{RiseBelow}
use Rattle.zot_collect.proofs.order.are_in_order.Given as goal

abbrev pub invariant-loop-place : goal.invariant-loop-place
invariant-loop-place l = RiseBelow l.manifests l.place
