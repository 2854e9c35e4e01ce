-- The index of a table stands for its repository, and a pull leaves what it does.
use Rattle.std.proofs.Common.{◌≡◌, ℕ, true, false, cond, List, [], ◌∷◌, map, Option, Some, None, refl, sym, ap, ◌∙◌}
use Rattle.std.specs.Prelude.{option_map}
use Rattle.std.specs.Cmp.Lexicographic.{nat_list_cmp_total}
use Rattle.std.specs.FinMap as finite
use Rattle.std.specs.FinMap.{get-entries, get-from_entries}
use Rattle.std.specs.FinMap.Entries.{find}
use Rattle.std.specs.Ordering.{eq_by_cmp}
use Rattle.zot_digest.specs.ByteMap.{ByteMap, byte_cmp, map_of}
use Rattle.zot_layout.specs.Stands.{AreAlike, opened_manifest, opened_repo, opened_tag, without_pulls}
use Rattle.zot_manifests.specs.Table.{plain_manifest}
use Rattle.zot_manifests.specs.declared.kept.Kept.{Kept}
use Rattle.zot_maps.proofs.Maps.{byte_order, get_elsewhere, get_here}
use Rattle.zot_media.specs.declared.reference.Reference.{Reference}
use Rattle.zot_media.specs.declared.reference.Reference.TheVariants as by
use Rattle.zot_model.specs.Manifests.{after_pull, pulled_at, with_pull}
use Rattle.zot_model.specs.State.{StoredTag}
use Rattle.zot_table.proofs.EntryLemmas.{at_each}
use Rattle.zot_table.specs.Changes.{with_pull_of}
use Rattle.zot_table.specs.Standing.{Holds, repo_of}
use Rattle.zot_table.specs.Tables.{RepoTable, Slots, index_manifest, index_of, index_tag}

each_manifest : (slots : Slots) (es : List (List ℕ × Kept)) → map (λ entry. (entry.0, plain_manifest entry.1)) es ≡ map opened_manifest (map (index_manifest slots) es)
each_manifest slots [] = refl
each_manifest slots (e ∷ es) = ap (λ rest. (e.0, plain_manifest e.1) ∷ rest) (each_manifest slots es)

each_tag : (tag : List ℕ) (es : List (List ℕ × StoredTag)) → option_map without_pulls (find byte_cmp tag es) ≡ option_map without_pulls (find byte_cmp tag (map opened_tag (map index_tag es)))
each_tag tag [] = refl
each_tag tag (e ∷ es) = elim (eq_by_cmp byte_cmp tag e.0) as (λ b. option_map without_pulls (cond b (Some e.1) (find byte_cmp tag es))
    ≡ option_map without_pulls (cond b (Some (opened_tag (index_tag e)).1) (find byte_cmp tag (map opened_tag (map index_tag es))))) [
      | true ↦ refl
      | false ↦ each_tag tag es
    ]

-- what the index of a known repository opens is alike to the repository, but for what isn't stored
pub index_alike : (table : RepoTable) (holds : Holds) → table.known ≡ true → AreAlike (opened_repo (index_of table)) (repo_of table holds)
index_alike table holds known = record {
  known = known;
  manifests = ap map_of (each_manifest table.slots (finite.entries table.table.manifests));
  tags = λ tag.
      ap (option_map without_pulls) (get-entries table.table.tags tag) ∙ each_tag tag (finite.entries table.table.tags)
      ∙ ap (option_map without_pulls) (sym (get-from_entries nat_list_cmp_total (map opened_tag (map index_tag (finite.entries table.table.tags))) tag));
}

-- ---- pulls

pulled_alike : (moment : ℕ) (tags : ByteMap StoredTag) (tag : List ℕ) (found : Option StoredTag) → finite.get tags tag ≡ found
    → (q : List ℕ) → option_map without_pulls (finite.get (with_pull moment tags tag found) q) ≡ option_map without_pulls (finite.get tags q)
pulled_alike moment tags tag None is = λ q. refl
pulled_alike moment tags tag (Some stored) is =
    at_each (λ q. option_map without_pulls (finite.get (finite.insert tags tag (pulled_at moment stored)) q) ≡ option_map without_pulls (finite.get tags q)) tag
    (ap (option_map without_pulls) (get_here byte_order tags tag (pulled_at moment stored)) ∙ ap (option_map without_pulls) (sym is))
    (λ q apart. ap (option_map without_pulls) (get_elsewhere byte_order tags tag (pulled_at moment stored) q apart))

after_alike : (moment : ℕ) (tags : ByteMap StoredTag) (reference : Reference) (q : List ℕ) → option_map without_pulls (finite.get (after_pull moment tags reference) q) ≡ option_map without_pulls (finite.get tags q)
after_alike moment tags (by.Tag tag) = pulled_alike moment tags tag (finite.get tags tag) refl
after_alike moment tags (by.Digest digest) = λ q. refl

-- a pull isn't stored
pub pull_alike : (moment : ℕ) (table : RepoTable) (holds : Holds) (reference : Reference) → AreAlike (repo_of table holds) (repo_of (with_pull_of moment table reference) holds)
pull_alike moment table holds reference = record { known = refl; manifests = refl; tags = after_alike moment table.table.tags reference }
