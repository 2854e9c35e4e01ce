use Rattle.std.proofs.Common.{◌≡◌, ◌+◌, ◌≤◌, drop}
use Rattle.json.specs.Value.{members_view}
use Rattle.zot_config.specs.Object.{count_of}
use Rattle.zot_config.proofs.object.count.Given as goal

abbrev pub invariant-loop-member : goal.invariant-loop-member
invariant-loop-member l =
    (l.count + count_of l.name (members_view (drop l.member-index l.member-items)) ≡ count_of l.name (members_view l.member-items)) × (l.count ≤ l.member-index)
