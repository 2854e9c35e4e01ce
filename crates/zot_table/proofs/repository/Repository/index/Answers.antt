use Rattle.std.proofs.Common.{List, ℕ, map, ap, sym, subst, ◌∙◌}
use Rattle.std.specs.Prelude.{option_map}
use Rattle.std.specs.List.{AllByRecursion, filter}
use Rattle.zot_layout.specs.State.{IsManifest}
use Rattle.zot_layout.specs.declared.index_manifest.IndexManifest.{IndexManifest}
use Rattle.zot_layout.specs.declared.index_tag.IndexTag.{IndexTag}
use Rattle.zot_manifests.specs.declared.kept.Kept.{Kept}
use Rattle.zot_model.specs.State.{StoredTag}
use Rattle.zot_table.proofs.LeavingLemmas.{index_left, is_index, tagged_left, tree_entries}
use Rattle.zot_table.specs.Changes.{left_by}
use Rattle.zot_table.specs.Leaving.{IsNamed, is_manifest_left, is_tag_left}
use Rattle.zot_table.specs.Tables.{RepoTable, index_manifest, index_of, index_tag}
use Rattle.zot_table.proofs.repository.Repository.index.Goals as goal

pub returns-clause-state : goal.returns-clause-state
returns-clause-state c =
    let repo : RepoTable = record { known = c.self.inside.known; slots = c.self.inside.blobs; table = c.self.inside.manifests; sessions = c.self.inside.sessions } in
    let gone = option_map (λ r. r.now) c.args.gone in
    index_left repo gone c.new.result c.new-2.result
    (c.new.ensures ∙ c.in_ok-manifests.ensures.value
    ∙ ap (λ (l : List (List ℕ × Kept)). map (index_manifest repo.slots) (filter (λ e. is_manifest_left gone e.0) l)) (tree_entries c.manifests.result.now.entries repo.table.manifests c.manifests.ensures c.in_ok-manifests.ensures.ordered))
    (c.new-2.ensures ∙ c.in_ok-tags.ensures.value
    ∙ ap (λ (l : List (List ℕ × StoredTag)). map index_tag (filter (λ e. is_tag_left gone e.0 e.1.digest) l)) (tree_entries c.tags.result.now.entries repo.table.tags c.tags.ensures.value c.in_ok-tags.ensures.ordered))
    ∙ ap (λ (r : RepoTable). index_of (left_by r gone)) c.self.view_is

pub returns-clause-index : goal.returns-clause-index
returns-clause-index c =
    let repo : RepoTable = record { known = c.self.inside.known; slots = c.self.inside.blobs; table = c.self.inside.manifests; sessions = c.self.inside.sessions } in
    let gone = option_map (λ r. r.now) c.args.gone in
    is_index (left_by repo gone) (tagged_left repo gone c.self.invariant.tagged) (record { manifests = c.new.result; tags = c.new-2.result })
    (index_left repo gone c.new.result c.new-2.result
    (c.new.ensures ∙ c.in_ok-manifests.ensures.value
    ∙ ap (λ (l : List (List ℕ × Kept)). map (index_manifest repo.slots) (filter (λ e. is_manifest_left gone e.0) l)) (tree_entries c.manifests.result.now.entries repo.table.manifests c.manifests.ensures c.in_ok-manifests.ensures.ordered))
    (c.new-2.ensures ∙ c.in_ok-tags.ensures.value
    ∙ ap (λ (l : List (List ℕ × StoredTag)). map index_tag (filter (λ e. is_tag_left gone e.0 e.1.digest) l)) (tree_entries c.tags.result.now.entries repo.table.tags c.tags.ensures.value c.in_ok-tags.ensures.ordered)))
    (subst (λ (l : List IndexManifest). AllByRecursion IsManifest l) (sym c.new.ensures) c.in_ok-manifests.ensures.sound)
    (subst (λ (l : List IndexTag). AllByRecursion IsNamed l) (sym c.new-2.ensures) c.in_ok-tags.ensures.sound)
