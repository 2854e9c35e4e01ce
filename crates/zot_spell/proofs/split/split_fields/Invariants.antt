use Rattle.std.proofs.Common.{◌≡◌, ◌++◌, ℕ, List, length}
use Rattle.std.specs.List.{flat_map}
use Rattle.zot_spell.specs.declared.field.Field.{Field}
use Rattle.zot_spell.specs.Heads.{AreFields, field_line, fields_text}
use Rattle.zot_spell.proofs.SplitLemmas.{AreLeft}
use Rattle.zot_spell.proofs.split.split_fields.Given as goal

abbrev pub invariant-loop-fields : goal.invariant-loop-fields
invariant-loop-fields l = record {
  joined : l.bytes ≡ flat_map field_line l.fields.items ++ l.left;
  apart : (fields : List Field) (body : List ℕ) → AreFields fields → l.bytes ≡ fields_text fields ++ body → AreLeft fields body l.fields.items l.left;
}

abbrev pub decreases-loop-fields : goal.decreases-loop-fields
decreases-loop-fields l = length l.left
