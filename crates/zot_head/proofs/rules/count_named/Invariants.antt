use Rattle.std.proofs.Common.{◌≡◌, ◌+◌, ◌≤◌, length, drop}
use Rattle.zot_head.specs.Fields.{values_of}
use Rattle.zot_head.proofs.rules.count_named.Given as goal

abbrev pub invariant-loop-field : goal.invariant-loop-field
invariant-loop-field l =
    (l.count ≤ l.field-index) × (l.count + length (values_of l.name (drop l.field-index l.fields)) ≡ length (values_of l.name l.fields))
