use Rattle.std.proofs.Common.{◌≡◌, map, take}
use Rattle.zot_head.specs.Spans.{field_at}
use Rattle.zot_head.proofs.read.fields_of.Given as goal

abbrev pub invariant-loop-span : goal.invariant-loop-span
invariant-loop-span l = l.fields.items ≡ map (field_at l.bytes) (take l.span-index l.spans)
