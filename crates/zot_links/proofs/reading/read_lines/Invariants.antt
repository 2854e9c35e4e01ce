use Rattle.std.proofs.Common.{◌≡◌, drop, length}
use Rattle.std.specs.List.{slice_split}
use Rattle.zot_links.specs.Records.{each_line, is_feed}
use Rattle.zot_links.proofs.LineLemmas.{behind}
use Rattle.zot_links.proofs.reading.read_lines.Given as goal

-- the lines so far, with those of the parts that are left
abbrev pub invariant-loop-part : goal.invariant-loop-part
invariant-loop-part l =
    each_line (slice_split is_feed l.text) ≡ behind l.lines.items (each_line (drop (length l.yielded) (slice_split is_feed l.text)))
