-- A repository of the plain registry as a collection sees it, and a policy as the rules of that registry.
use Rattle.std.specs.Prelude.{ℕ, List, map}
use Rattle.std.specs.FinMap as finite
use Rattle.zot_digest.specs.ByteMap.{ByteMap}
use Rattle.zot_model.specs.Collections.{Rules}
use Rattle.zot_model.specs.State.{StoredTag}
use Rattle.zot_retention.specs.Kept.{is_kept}
use Rattle.zot_retention.specs.declared.policy.Policy.{Policy}
use Rattle.zot_retention.specs.declared.tag_row.TagRow.{TagRow}

-- a tag with what is stored of it
abbrev pub tag_row : List ℕ × StoredTag → TagRow
tag_row entry = record { tag = entry.0; digest = entry.1.digest; pushed = entry.1.pushed; pulls = entry.1.pulls; pulled = entry.1.pulled }

-- the tags in byte order
abbrev pub tag_rows : ByteMap StoredTag → List TagRow
tag_rows tags = map tag_row (finite.entries tags)

-- the rules of a policy: it keeps the tags that its definition keeps
abbrev pub rules_of : Policy → Rules
rules_of policy = record {
  keeps = λ tags moment tag. is_kept policy (tag_rows tags) moment (tag_row tag);
  delete_untagged = policy.delete_untagged;
}
