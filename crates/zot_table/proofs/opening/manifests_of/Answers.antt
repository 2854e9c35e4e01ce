use Rattle.std.proofs.Common.{List, map, ap, ◌∙◌}
use Rattle.std.specs.FinMap as finite
use Rattle.zot_layout.specs.Stands.{opened_tag}
use Rattle.zot_layout.specs.declared.index_manifest.IndexManifest.{IndexManifest}
use Rattle.zot_layout.specs.declared.index_tag.IndexTag.{IndexTag}
use Rattle.zot_manifests.specs.Table.{Table}
use Rattle.zot_table.proofs.OpeningLemmas.{table_is}
use Rattle.zot_table.specs.Opening.{opened_kept, put_each}
use Rattle.zot_table.proofs.opening.manifests_of.Goals as goal

pub returns : goal.returns
returns c =
    table_is c.args.index c.requires c.set_tags.new.table
    (c.in_ok-set_tags.ensures ∙ ap (λ (t : Table). record { manifests = t.manifests; tags = put_each t.tags (map opened_tag c.into_vec.result.items) }) c.in_ok-put_manifests.ensures
    ∙ ap (λ (t : Table). record { manifests = put_each t.manifests (map opened_kept c.as_slice.result.now); tags = put_each t.tags (map opened_tag c.into_vec.result.items) }) c.new-table.ensures
    ∙ ap (λ (l : List IndexManifest). record { manifests = put_each finite.empty (map opened_kept l); tags = put_each finite.empty (map opened_tag c.into_vec.result.items) }) c.as_slice.ensures
    ∙ ap (λ (l : List IndexTag). record { manifests = put_each finite.empty (map opened_kept c.args.index.manifests); tags = put_each finite.empty (map opened_tag l) }) c.into_vec.ensures)
