use Rattle.std.proofs.Common.{◌≡◌, map, take}
use Rattle.zot_retention.proofs.marks.marks.Given as goal

abbrev pub invariant-loop-tag : goal.invariant-loop-tag
invariant-loop-tag l = l.marks.items ≡ map (λ _. l.mark) (take l._tag-index l.tags)
