use Rattle.std.proofs.Common.{◌≡◌, Bool, map, take}
use Rattle.std.specs.List.{filter}
use Rattle.zot_retention.specs.Ranks.{key_of, key_of_row}
use Rattle.zot_retention.specs.declared.tag_row.TagRow.{TagRow}
use Rattle.zot_retention.proofs.first.pushes_of.Given as goal

abbrev pub invariant-loop-place : goal.invariant-loop-place
invariant-loop-place l =
    (test : TagRow → Bool) → l.marks ≡ map test l.tags → map key_of l.pushes.items ≡ map key_of_row (filter test (take l.place l.tags))
