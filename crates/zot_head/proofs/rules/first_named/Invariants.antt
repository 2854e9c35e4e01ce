use Rattle.std.proofs.Common.{◌≡◌, drop}
use Rattle.zot_head.specs.Fields.{values_of}
use Rattle.zot_head.proofs.rules.first_named.Given as goal

abbrev pub invariant-loop-field : goal.invariant-loop-field
invariant-loop-field l = values_of l.name (drop l.field-index l.fields) ≡ values_of l.name l.fields
