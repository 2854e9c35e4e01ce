use Rattle.std.proofs.Common.{◌≡◌, ◌++◌, length}
use Rattle.std.specs.List.{AllByRecursion}
use Rattle.std.specs.Prelude.{◌↔◌, IsUtf8}
use Rattle.zot_route.specs.Path.{decoded}
use Rattle.zot_route.proofs.SegmentLemmas.{left}
use Rattle.zot_route.proofs.target.read_segments.Given as goal

abbrev pub invariant-loop-bytes : goal.invariant-loop-bytes
invariant-loop-bytes l =
    (decoded l.path ≡ l.segments.items ++ left l.path (length l.yielded))
    × (AllByRecursion IsUtf8 (decoded l.path) ↔ AllByRecursion IsUtf8 (left l.path (length l.yielded)))
