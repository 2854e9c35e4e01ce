use Rattle.std.proofs.Common.{List, ℕ, true, false, subst, sym, ◌≡◌, ◌∙◌}
use Rattle.zot_digest.specs.ByteMap.{byte_cmp}
use Rattle.zot_manifests.proofs.BackLemmas.{lists_again}
use Rattle.zot_manifests.specs.Index.{has}
use Rattle.zot_manifests.proofs.tags.Tags.set_again.Goals as goal
use Rattle.zot_manifests.proofs.tags.Tags.set_again.Goals.{then-self, else-self}

pub invariant_of-self : goal.invariant_of-self
invariant_of-self c = λ on.
    elim c.if-self.branch [
      | then-self w ↦
          lists_again c.self.inside.map c.replace.new.self c.self.inside.index.sets c.unlist_tag.new.index.sets c.list_again-listed.new.index.sets c.args.tag.now c.args.entry c.replace.ensures c.unlist_tag.ensures
          c.list_again-listed.ensures.keeps (subst (λ (d : List ℕ). has byte_cmp c.list_again-listed.new.index.sets d c.args.tag.now ≡ true) c.digest.ensures (c.list_again-listed.ensures.listed (sym w.self-is ∙ on)))
          (c.self.invariant w.if-self.true)
      | else-self w ↦ absurd (cc (on, w.self-is, w.if-self.false))
    ]
