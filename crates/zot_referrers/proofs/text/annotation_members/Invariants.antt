use Rattle.std.proofs.Common.{◌≡◌, drop}
use Rattle.serde_json.specs.Data.{no_members}
use Rattle.serde_json.specs.View.{members_view}
use Rattle.zot_media.specs.Referrers.{with_each}
use Rattle.zot_referrers.proofs.text.annotation_members.Given as goal

-- the members so far, with those of the annotations that are left, are all
abbrev pub invariant-loop-annotation : goal.invariant-loop-annotation
invariant-loop-annotation l = with_each (members_view l.members.entries) (drop l.annotation-index l.annotations) ≡ with_each no_members l.annotations
