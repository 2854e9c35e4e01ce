use Rattle.std.proofs.Common.{◌≡◌, [], drop}
use Rattle.zot_links.specs.Records.{in_order}
use Rattle.zot_links.proofs.reading.in_order.Given as goal

abbrev pub invariant-loop-line : goal.invariant-loop-line
invariant-loop-line l = in_order [] l.lines ≡ in_order l.previous (drop l.line-index l.lines)
