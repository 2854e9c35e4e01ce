-- Which tags and manifests a policy has removed from a repository: rules of this project.
use Rattle.std.specs.Prelude.{◌≡◌, ℕ, Bool, not, ◌&&◌, List, [], Option, None, Some}
use Rattle.std.specs.List.{filter, list_any}
use Rattle.std.specs.Str.{bytes_eq}
use Rattle.zot_model.specs.Retire.{GoWhere, is_root}
use Rattle.zot_model.specs.declared.manifest_row.ManifestRow.{ManifestRow}
use Rattle.zot_retention.specs.Kept.{is_kept, kept_rows, texts}
use Rattle.zot_retention.specs.declared.policy.Policy.{Policy}
use Rattle.zot_retention.specs.declared.tag_row.TagRow.{TagRow}

-- ---- tags

-- the tags that don't pass a test, in their order
abbrev pub tags_without : (TagRow → Bool) → List TagRow → List (List ℕ)
tags_without test tags = texts (filter (λ row. not (test row)) tags)

-- the tags that go: those that the policy doesn't keep, and none without a policy
abbrev pub gone_tags : Option Policy → List TagRow → ℕ → List (List ℕ)
gone_tags None tags moment = []
gone_tags (Some policy) tags moment = tags_without (is_kept policy tags moment) tags

-- the tags that are left
abbrev pub left_tags : Option Policy → List TagRow → ℕ → List TagRow
left_tags None tags moment = tags
left_tags (Some policy) tags moment = kept_rows policy tags moment

-- ---- manifests

-- some tag that passes a test is set to a digest
abbrev pub is_tagged : (TagRow → Bool) → List TagRow → List ℕ → Bool
is_tagged test tags digest = list_any (λ row. test row && bytes_eq row.digest digest) tags

-- the manifests that go, and none without a policy
abbrev pub GoneManifests : Option Policy → List TagRow → List ManifestRow → ℕ → ℕ → List (List ℕ) → Type 0
GoneManifests None tags manifests moment delay gone = gone ≡ []
GoneManifests (Some policy) tags manifests moment delay gone =
    GoWhere policy.delete_untagged (is_root (is_tagged (is_kept policy tags moment) tags) moment delay) manifests gone
