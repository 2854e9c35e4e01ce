use Rattle.std.proofs.Common.{◌≡◌, ◌++◌, map}
use Rattle.std.specs.Prelude.{option_map}
use Rattle.std.specs.List.{AllByRecursion, filter}
use Rattle.zot_layout.specs.State.{IsManifest}
use Rattle.zot_table.specs.Leaving.{is_manifest_left}
use Rattle.zot_table.specs.Tables.{index_manifest}
use Rattle.zot_table.proofs.indexing.manifests_left.Given as goal

-- what the index holds so far, with that of the manifests that are left, is all
abbrev pub invariant-loop-digest : goal.invariant-loop-digest
invariant-loop-digest l = record {
  all : map (index_manifest l.blobs) (filter (λ e. is_manifest_left (option_map (λ r. r.now) l.gone) e.0) l.tree.entries)
      ≡ l.items.items ++ map (index_manifest l.blobs) (filter (λ e. is_manifest_left (option_map (λ r. r.now) l.gone) e.0) l.digest-iterator);
  sound : AllByRecursion IsManifest l.items.items;
}
