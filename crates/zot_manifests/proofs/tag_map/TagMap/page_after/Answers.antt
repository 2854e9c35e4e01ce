use Rattle.std.proofs.Common.{ℕ, List, ap, ◌∙◌}
use Rattle.std.specs.Prelude.{option_map}
use Rattle.std.specs.BTreeMap.Range.{entries_between}
use Rattle.std.specs.Map.Iter.{deref_pair}
use Rattle.std.specs.declared.ops.Bound.{Bound}
use Rattle.std.specs.declared.ops.Bound.TheVariants.{Unbounded}
use Rattle.std.proofs.lemmas.Result.{IfOk-weaker}
use Rattle.zot_digest.specs.ByteMap.{byte_cmp}
use Rattle.zot_manifests.proofs.TagLemmas.{range_tags, read_next, read_tags}
use Rattle.zot_manifests.proofs.tag_map.TagMap.page_after.Goals as goal

pub first_tags-requires : goal.first_tags-requires
first_tags-requires c = range_tags c.self.inside.tree c.in_ok-after.after Unbounded c.range-rest.result c.self.invariant (c.range-rest.ensures.in_range tt).0

pub returns-clause-tags : goal.returns-clause-tags
returns-clause-tags c =
    IfOk-weaker c.page_with.result _ _ (λ page h. h ∙
    read_tags c.self.inside.tree.entries c.range-rest.result c.args.self.now (option_map (λ text. text.now) c.args.last) c.args.n c.unwrap_or-most.result c.range-rest.ensures.ordered c.self.view_is
    (c.range-rest.ensures.between tt ∙ ap (λ (b : Bound (List ℕ)). entries_between byte_cmp b Unbounded c.self.inside.tree.entries) c.in_ok-after.ensures)
    c.range-rest.ensures.fits c.unwrap_or-most.ensures c.in_ok-tags.tags.items c.in_ok-tags.ensures.tags)
    c.page_with.ensures.tags

pub returns-clause-next : goal.returns-clause-next
returns-clause-next c =
    IfOk-weaker c.page_with.result _ _ (λ page h.
    read_next c.self.inside.tree.entries c.range-rest.result c.args.self.now (option_map (λ text. text.now) c.args.last) c.args.n c.unwrap_or-most.result c.range-rest.ensures.ordered c.self.view_is
    (c.range-rest.ensures.between tt ∙ ap (λ (b : Bound (List ℕ)). entries_between byte_cmp b Unbounded c.self.inside.tree.entries) c.in_ok-after.ensures)
    c.range-rest.ensures.fits c.unwrap_or-most.ensures deref_pair c.in_ok-tags.tags.items c.first_tags.new.rest c.next.new.self c.next.result c.is_some-more.result page.next
    c.in_ok-tags.ensures.tags c.in_ok-tags.ensures.rest c.next.ensures.steps c.is_some-more.ensures h)
    c.page_with.ensures.next
