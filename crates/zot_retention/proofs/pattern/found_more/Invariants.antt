use Rattle.std.proofs.Common.{◌≡◌, ◌||◌, ℕ, Bool, List, map, take}
use Rattle.regex.specs.Strings.{matcher_pattern}
use Rattle.zot_retention.specs.Patterns.{FindsAs, finds}
use Rattle.zot_retention.specs.declared.tag_row.TagRow.{TagRow}
use Rattle.zot_retention.proofs.pattern.found_more.Given as goal

abbrev pub invariant-loop-place : goal.invariant-loop-place
invariant-loop-place l =
    (matcher_pattern l.matcher ≡ matcher_pattern l.fn.matcher)
    × ((pattern : List ℕ) (test : TagRow → Bool) → FindsAs (matcher_pattern l.fn.matcher) pattern → l.marks ≡ map test l.tags →
    l.more.items ≡ map (λ row. test row || finds pattern row.tag) (take l.place l.tags))
