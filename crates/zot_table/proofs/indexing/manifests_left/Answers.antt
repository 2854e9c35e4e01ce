use Rattle.std.proofs.Common.{rules, ◌≡◌, ◌++◌, ◌∷◌, ℕ, List, map, subst}
use Rattle.std.specs.Prelude.{option_map}
use Rattle.std.specs.List.{filter}
use Rattle.zot_manifests.specs.declared.kept.Kept.{Kept}
use Rattle.zot_table.proofs.LeavingLemmas.{listed_more}
use Rattle.zot_table.specs.Leaving.{is_manifest_left}
use Rattle.zot_table.specs.Tables.{index_manifest}
use Rattle.zot_table.proofs.indexing.manifests_left.Goals as goal

pub loop-digest-preserved : goal.loop-digest-preserved
loop-digest-preserved c =
    let next : c.loop-digest.digest-iterator ≡ (c.in-Some.digest.now, c.in-Some.kept.now) ∷ c.next.new.self = search rules in
    let passes = λ (e : List ℕ × Kept). is_manifest_left (option_map (λ r. r.now) c.args.gone) e.0 in
    let shows = index_manifest c.args.blobs.now in
    record {
      all =
          listed_more passes shows (map shows (filter passes c.args.tree.now.entries)) c.loop-digest.items.items c.add_manifest.new.items.items (c.in-Some.digest.now, c.in-Some.kept.now) c.next.new.self
          (subst (λ (l : List (List ℕ × Kept)). map shows (filter passes c.args.tree.now.entries) ≡ c.loop-digest.items.items ++ map shows (filter passes l)) next c.loop-digest.invariant.all)
          c.in_ok-add_manifest.ensures.value;
      sound = c.in_ok-add_manifest.ensures.sound c.loop-digest.invariant.sound;
    }
