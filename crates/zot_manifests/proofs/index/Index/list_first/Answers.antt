use Rattle.std.proofs.Common.{true, cond, ap, ◌∙◌}
use Rattle.std.specs.BTreeMap.{is_at}
use Rattle.std.specs.List.{list_any}
use Rattle.zot_manifests.proofs.SetLemmas.{added}
use Rattle.zot_manifests.proofs.index.Index.list_first.Goals as goal

pub returns-in-Ok-clause-ok : goal.returns-in-Ok-clause-ok
returns-in-Ok-clause-ok g c =
    added g.K.Ord.cmp c.args.self.now.sets.entries c.insert.new.self.entries c.args.digest c.args.value c.add_to.new.set c.requires c.in-Ok.ensures.updates.0
    (λ v. c.in_ok-add_to.ensures.ok v ∙ ap (λ keys. cond (is_at (g.K.Ord.cmp c.args.value) v) true (list_any (is_at (g.K.Ord.cmp v)) keys)) c.new-set.ensures.empty)
