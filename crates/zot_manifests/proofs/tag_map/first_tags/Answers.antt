use Rattle.std.proofs.Common.{ℕ, List, [], ◌∷◌, ◌++◌, map, take, drop, sym, ap, subst, ◌∙◌, add-one}
use Rattle.std.specs.List.{AllByRecursion}
use Rattle.zot_model.specs.State.{StoredTag}
use Rattle.zot_names.specs.Tag.{IsTag}
use Rattle.zot_manifests.proofs.TagLemmas.{one_entry}
use Rattle.zot_manifests.proofs.tag_map.first_tags.Goals as goal

pub loop-preserved : goal.loop-preserved
loop-preserved c =
    let inv = c.loop.invariant in
    let more = one_entry c.loop.counter c.args.rest.now c.next.new.self (c.in-Some.entry.0.now, c.in-Some.entry.1.now) (sym inv.left ∙ c.in-Some.ensures.steps) in
    record {
      so_far =
          c.in_ok-push.ensures.items ∙ ap (λ (t : List ℕ). c.loop.tags.items ++ t ∷ []) c.in_ok-copy_tag.ensures ∙ ap (λ (l : List (List ℕ)). l ++ c.in-Some.entry.0.now ∷ []) inv.so_far
          ∙ sym (ap (λ n. take n (map (λ (e : List ℕ × StoredTag). e.0) c.args.rest.now)) (add-one c.loop.counter) ∙ more.0);
      left = more.1 ∙ sym (ap (λ n. drop n c.args.rest.now) (add-one c.loop.counter));
      tags = (subst (λ (l : List (List ℕ × StoredTag)). AllByRecursion (λ e. IsTag e.0) l) c.in-Some.ensures.steps inv.tags).1;
    }
