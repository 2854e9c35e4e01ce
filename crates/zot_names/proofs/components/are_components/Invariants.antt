use Rattle.std.proofs.Common.{◌≡◌, [], length, drop}
use Rattle.zot_names.specs.Name.{components_of}
use Rattle.zot_names.specs.Reading.{may_all_follow}
use Rattle.zot_names.proofs.components.are_components.Given as goal

abbrev pub invariant-loop-part : goal.invariant-loop-part
invariant-loop-part l =
    may_all_follow [] (components_of l.bytes) ≡ may_all_follow l.previous (drop (length l.yielded) (components_of l.bytes))
