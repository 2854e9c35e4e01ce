use Rattle.std.proofs.Common.{◌≡◌, drop, Some}
use Rattle.zot_names.specs.Reading.{completes}
use Rattle.zot_names.specs.declared.component.Place.TheVariants.{Start}
use Rattle.zot_names.proofs.component.is_component.Given as goal

abbrev pub invariant-loop-byte : goal.invariant-loop-byte
invariant-loop-byte l = completes (Some Start) l.bytes ≡ completes (Some l.place) (drop l.byte-index l.bytes)
