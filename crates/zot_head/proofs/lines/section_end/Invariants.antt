use Rattle.std.proofs.Common.{◌≡◌, ◌+◌, drop, false}
use Rattle.std.specs.Prelude.{option_map}
use Rattle.zot_head.specs.Lines.{section_end as section_end_of}
use Rattle.zot_head.proofs.lines.section_end.Given as goal

abbrev pub invariant-loop-i : goal.invariant-loop-i
invariant-loop-i l = section_end_of false l.bytes ≡ option_map (λ n. l.i + n) (section_end_of l.starts (drop l.i l.bytes))
