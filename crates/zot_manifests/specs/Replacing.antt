-- What a manifest that was put replaced.
use Rattle.std.specs.Prelude.{◌≡◌, true, Option, Some, None, IfSome}
use Rattle.std.specs.FinMap as finite
use Rattle.zot_manifests.specs.Table.{Table, tag_before}
use Rattle.zot_manifests.specs.declared.checked.Checked.{Checked}
use Rattle.zot_manifests.specs.declared.replaced.Replaced.{Replaced}

-- it is what the table has under the digest and the tag of a manifest that was checked
pub record Replaces (replaced : Replaced) (table : Table) (checked : Checked) : Type 0 where
  pub digest : replaced.digest ≡ checked.digest
  pub manifest : replaced.manifest ≡ finite.get table.manifests checked.digest
  pub tag : replaced.tag ≡ checked.tag
  pub entry : replaced.entry ≡ tag_before table.tags checked.tag

-- the table has a manifest and a tag there
pub record IsPut (replaced : Replaced) (table : Table) : Type 0 where
  pub manifest : finite.contains_key table.manifests replaced.digest ≡ true
  pub tag : IfSome replaced.tag (λ tag. finite.contains_key table.tags tag ≡ true)
