use Rattle.std.proofs.Common.{◌≡◌, ◌++◌, drop}
use Rattle.zot_links.specs.Records.{record_text}
use Rattle.zot_links.proofs.record.record_text.Given as goal

-- the text so far, with that of the lines that are left
abbrev pub invariant-loop-line : goal.invariant-loop-line
invariant-loop-line l = record_text l.lines ≡ l.text.items ++ record_text (drop l.line-index l.lines)
