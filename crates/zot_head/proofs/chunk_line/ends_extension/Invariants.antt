use Rattle.std.proofs.Common.{◌≡◌, drop}
use Rattle.zot_head.specs.Chunked.{ends_extension as ends_extension_of}
use Rattle.zot_head.proofs.chunk_line.ends_extension.Given as goal

abbrev pub invariant-loop-i : goal.invariant-loop-i
invariant-loop-i l = ends_extension_of (drop l.at l.bytes) ≡ ends_extension_of (drop l.i l.bytes)
