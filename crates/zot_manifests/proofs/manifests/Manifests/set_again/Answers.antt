use Rattle.std.proofs.Common.{true, false, sym, ◌∙◌}
use Rattle.zot_manifests.proofs.BackLemmas.{refers_again}
use Rattle.zot_manifests.proofs.manifests.Manifests.set_again.Goals as goal
use Rattle.zot_manifests.proofs.manifests.Manifests.set_again.Goals.{then-self, else-self}

pub invariant_of-self : goal.invariant_of-self
invariant_of-self c = λ on.
    elim c.if-self.branch [
      | then-self w ↦
          refers_again c.self.inside.manifests c.put_back.new.self c.self.inside.index.sets c.list_again-listed.new.index.sets c.args.digest c.args.kept c.put_back.ensures (c.list_again-listed.ensures.listed (sym w.self-is ∙ on))
          (c.self.invariant w.if-self.true)
      | else-self w ↦ absurd (cc (on, w.self-is, w.if-self.false))
    ]
