use Rattle.std.proofs.Common.{◌≡◌, ◌||◌, Bool, map, take}
use Rattle.zot_retention.specs.Kept.{is_kept_by}
use Rattle.zot_retention.specs.declared.tag_row.TagRow.{TagRow}
use Rattle.zot_retention.proofs.kept.keep_more.Given as goal

abbrev pub invariant-loop-place : goal.invariant-loop-place
invariant-loop-place l =
    (test : TagRow → Bool) → l.marks ≡ map test l.tags →
    l.more.items ≡ map (λ row. test row || is_kept_by l.rule l.tags l.moment row) (take l.place l.tags)
