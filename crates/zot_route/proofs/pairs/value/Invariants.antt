use Rattle.std.proofs.Common.{◌≡◌}
use Rattle.form_urlencoded.specs.Form.{raw_pairs}
use Rattle.zot_route.specs.Query.{values_in}
use Rattle.zot_route.proofs.pairs.value.Given as goal

abbrev pub invariant-loop-name : goal.invariant-loop-name
invariant-loop-name l = values_in l.key (raw_pairs l.name-iterator.input.now) ≡ values_in l.key (raw_pairs l.query)
