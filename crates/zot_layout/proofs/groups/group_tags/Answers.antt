use Rattle.std.proofs.Common.{ap, sym, subst, ◌∙◌, ◌++◌, ◌∷◌, [], take}
use Rattle.std.proofs.lemmas.List.{take_more}
use Rattle.zot_layout.specs.Groups.{AreGroups}
use Rattle.zot_layout.proofs.groups.group_tags.Goals as goal

pub loop-tag-preserved : goal.loop-tag-preserved
loop-tag-preserved c =
    subst (λ tags. AreGroups tags c.add_tag.new.groups) (sym (take_more c.args.tags.now c.loop-tag.tag-index c.tag-item.result c.loop-tag-test.true ∙ ap (λ tag. take c.loop-tag.tag-index c.args.tags.now ++ tag ∷ []) (sym c.tag-item.is)))
    (c.in_ok-add_tag.ensures (take c.loop-tag.tag-index c.args.tags.now) c.loop-tag.invariant)
