use Rattle.std.proofs.Common.{◌≡◌, ◌++◌, drop}
use Rattle.std.specs.List.{join_with_byte}
use Rattle.std.specs.String.{string_bytes}
use Rattle.zot_names.specs.Name.{slash}
use Rattle.zot_route.proofs.NameLemmas.{after_slashes}
use Rattle.zot_route.proofs.name.joined.Given as goal

abbrev pub invariant-loop-segment : goal.invariant-loop-segment
invariant-loop-segment l = join_with_byte slash l.segments ≡ string_bytes l.text ++ after_slashes (drop l.segment-index l.more)
