use Rattle.std.proofs.Common.{◌≡◌, ◌∷◌, [], List, ℕ, map, rules, sym, ap, ◌∙◌}
use Rattle.std.specs.Prelude.{◌||◌}
use Rattle.std.specs.List.{list_any}
use Rattle.std.specs.List.Sorted.{IsStrictlySortedBy}
use Rattle.zot_digest.specs.ByteMap.{byte_cmp}
use Rattle.zot_manifests.proofs.BackLemmas.{any_in_tree}
use Rattle.zot_manifests.specs.declared.kept.Kept.{Kept}
use Rattle.zot_media.specs.References.{refers}
use Rattle.zot_manifests.proofs.manifests.refers_among.Goals as goal

pub returns-then-refers : goal.returns-then-refers
returns-then-refers c =
    let next : c.loop-kept.kept-iterator ≡ (c.in-Some.field-0-0.now, c.in-Some.kept.now) ∷ c.next.new.self = search rules in
    let sorted : IsStrictlySortedBy byte_cmp (map (λ (e : List ℕ × Kept). e.0) c.args.tree.now.entries) = search rules in
    let refers_to = λ (entry : List ℕ × Kept). refers entry.1.reading c.args.digest.now in
    sym (any_in_tree c.args.tree.now.entries c.args.digest.now sorted ∙ c.loop-kept.invariant ∙ ap (list_any refers_to) next
    ∙ ap (λ b. b || list_any refers_to c.next.new.self) (sym c.refers.ensures ∙ c.if-refers.true))

pub returns : goal.returns
returns c =
    let done : c.loop-kept.kept-iterator ≡ [] = search rules in
    let sorted : IsStrictlySortedBy byte_cmp (map (λ (e : List ℕ × Kept). e.0) c.args.tree.now.entries) = search rules in
    sym (any_in_tree c.args.tree.now.entries c.args.digest.now sorted ∙ c.loop-kept.invariant ∙ ap (list_any (λ (entry : List ℕ × Kept). refers entry.1.reading c.args.digest.now)) done)
