use Rattle.std.proofs.Common.{◌≡◌, Bool, map, take}
use Rattle.zot_collect.specs.Retire.{tags_without}
use Rattle.zot_retention.specs.declared.tag_row.TagRow.{TagRow}
use Rattle.zot_collect.proofs.leftover.unmarked_tags.Given as goal

abbrev pub invariant-loop-place : goal.invariant-loop-place
invariant-loop-place l = (test : TagRow → Bool) → l.marks ≡ map test l.tags → l.gone.items ≡ tags_without test (take l.place l.tags)
