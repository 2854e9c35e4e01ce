use Rattle.std.proofs.Common.{◌≡◌, drop}
use Rattle.zot_spell.specs.Heads.{value_in}
use Rattle.zot_spell.proofs.field.value_in.Given as goal

abbrev pub invariant-loop-field : goal.invariant-loop-field
invariant-loop-field l = value_in l.text (drop l.field-index l.fields) ≡ value_in l.text l.fields
