use Rattle.std.proofs.Common.{rules, ◌≡◌, ◌++◌, ◌∷◌, ℕ, List, map, subst, ap, sym, ◌∙◌}
use Rattle.std.specs.Prelude.{option_map}
use Rattle.std.specs.List.{AllByRecursion, filter}
use Rattle.std.specs.List.Sorted.{IsStrictlySortedBy}
use Rattle.zot_digest.specs.ByteMap.{byte_cmp}
use Rattle.zot_model.specs.State.{StoredTag}
use Rattle.zot_names.specs.Tag.{IsTag}
use Rattle.zot_table.proofs.LeavingLemmas.{each_tag, listed_more}
use Rattle.zot_layout.specs.declared.index_tag.IndexTag.{IndexTag}
use Rattle.zot_table.specs.Leaving.{IsNamed, is_tag_left}
use Rattle.zot_table.specs.Tables.{index_tag}
use Rattle.zot_table.proofs.indexing.tags_left.Goals as goal

pub loop-text-init : goal.loop-text-init
loop-text-init c =
    let given : c.into_iter-text-iterator.result ≡ c.args.tree.now.entries = search rules in
    let sorted : IsStrictlySortedBy byte_cmp (map (λ (e : List ℕ × StoredTag). e.0) c.args.tree.now.entries) = search rules in
    let passes = λ (e : List ℕ × StoredTag). is_tag_left (option_map (λ r. r.now) c.args.gone) e.0 e.1.digest in
    record {
      all = ap (λ (l : List (List ℕ × StoredTag)). map index_tag (filter passes l)) (sym given) ∙ ap (λ l. l ++ map index_tag (filter passes c.into_iter-text-iterator.result)) (sym c.new-items.ensures.items);
      sound = subst (λ (l : List IndexTag). AllByRecursion IsNamed l) (sym c.new-items.ensures.items) tt;
      tags = subst (λ (l : List (List ℕ × StoredTag)). AllByRecursion (λ e. IsTag e.0) l) (sym given) (each_tag c.args.tree.now.entries c.requires sorted);
    }

pub add_tag-requires : goal.add_tag-requires
add_tag-requires c =
    let next : c.loop-text.text-iterator ≡ (c.in-Some.text.now, c.in-Some.entry.now) ∷ c.next.new.self = search rules in
    (subst (λ (l : List (List ℕ × StoredTag)). AllByRecursion (λ e. IsTag e.0) l) next c.loop-text.invariant.tags).0

pub loop-text-preserved : goal.loop-text-preserved
loop-text-preserved c =
    let next : c.loop-text.text-iterator ≡ (c.in-Some.text.now, c.in-Some.entry.now) ∷ c.next.new.self = search rules in
    let passes = λ (e : List ℕ × StoredTag). is_tag_left (option_map (λ r. r.now) c.args.gone) e.0 e.1.digest in
    record {
      all =
          listed_more passes index_tag (map index_tag (filter passes c.args.tree.now.entries)) c.loop-text.items.items c.add_tag.new.items.items (c.in-Some.text.now, c.in-Some.entry.now) c.next.new.self
          (subst (λ (l : List (List ℕ × StoredTag)). map index_tag (filter passes c.args.tree.now.entries) ≡ c.loop-text.items.items ++ map index_tag (filter passes l)) next c.loop-text.invariant.all)
          c.in_ok-add_tag.ensures.value;
      sound = c.in_ok-add_tag.ensures.sound c.loop-text.invariant.sound;
      tags = (subst (λ (l : List (List ℕ × StoredTag)). AllByRecursion (λ e. IsTag e.0) l) next c.loop-text.invariant.tags).1;
    }
