use Rattle.std.proofs.Common.{◌≡◌}
use Rattle.serde_json.specs.View.{members_view}
use Rattle.zot_config.specs.Unknown.{first_unknown}
use Rattle.zot_config.proofs.unknown.first_unknown.Given as goal

abbrev pub invariant-loop-name : goal.invariant-loop-name
invariant-loop-name l = first_unknown l.known (members_view l.members.entries) ≡ first_unknown l.known (members_view l.name-iterator)
