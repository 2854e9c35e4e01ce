-- What an index holds of a repository but for what a reference names.
use Rattle.std.specs.Prelude.{ℕ, ◌^◌, ◌<◌, Bool, true, not, List, [], ◌∷◌, Option, Some, None, if◌then◌else◌}
use Rattle.std.specs.Str.{bytes_eq}
use Rattle.zot_layout.specs.declared.index_manifest.IndexManifest.{IndexManifest}
use Rattle.zot_layout.specs.declared.index_tag.IndexTag.{IndexTag}
use Rattle.zot_manifests.specs.declared.kept.Kept.{Kept}
use Rattle.zot_media.specs.declared.reference.Reference.{Reference}
use Rattle.zot_media.specs.declared.reference.Reference.TheVariants as by
use Rattle.zot_model.specs.State.{StoredTag}
use Rattle.zot_names.specs.Tag.{IsTag}
use Rattle.zot_table.specs.Tables.{Slots, index_manifest, index_tag}

-- whether the manifest of a digest stays, where what a reference names goes
abbrev pub is_manifest_left : Option Reference → List ℕ → Bool
is_manifest_left None digest = true
is_manifest_left (Some (by.Tag gone)) digest = true
is_manifest_left (Some (by.Digest gone)) digest = not (bytes_eq digest gone)

-- whether a tag of a digest's manifest stays
abbrev pub is_tag_left : Option Reference → List ℕ → List ℕ → Bool
is_tag_left None tag digest = true
is_tag_left (Some (by.Tag gone)) tag digest = not (bytes_eq tag gone)
is_tag_left (Some (by.Digest gone)) tag digest = not (bytes_eq digest gone)

-- what an index holds of a manifest, if that stays
abbrev pub left_manifest : Slots → Option Reference → List ℕ × Kept → List IndexManifest
left_manifest slots gone entry = if is_manifest_left gone entry.0 then index_manifest slots entry ∷ [] else []

-- what an index holds of a tag, if that stays
abbrev pub left_tag : Option Reference → List ℕ × StoredTag → List IndexTag
left_tag gone entry = if is_tag_left gone entry.0 entry.1.digest then index_tag entry ∷ [] else []

-- a tag with a moment
pub record IsNamed (tag : IndexTag) : Type 0 where
  pub named : IsTag tag.tag
  pub pushed : tag.pushed < 2 ^ 64
