use Rattle.std.proofs.Common.{◌≡◌, Bool, map, take}
use Rattle.std.specs.List.{filter}
use Rattle.zot_retention.specs.declared.tag_row.TagRow.{TagRow}
use Rattle.zot_retention.proofs.marks.marked.Given as goal

abbrev pub invariant-loop-place : goal.invariant-loop-place
invariant-loop-place l =
    (test : TagRow → Bool) → l.marks ≡ map test l.tags → l.found.items ≡ map (λ row. row.tag) (filter test (take l.place l.tags))
