use Rattle.std.proofs.Common.{◌∙◌, ap}
use Rattle.std.proofs.lemmas.Result.{on_err_weaker}
use Rattle.zot_digest.specs.ByteMap.{ByteMap}
use Rattle.zot_manifests.proofs.TableLemmas.{insert_has, lists_put, put_back_is}
use Rattle.zot_manifests.specs.declared.kept.Kept.{Kept}
use Rattle.zot_model.specs.State.{StoredTag}
use Rattle.zot_manifests.proofs.manifests.Manifests.put.Goals as goal

pub put_tag-requires : goal.put_tag-requires
put_tag-requires c = insert_has c.self.inside.manifests c.set.new.self c.args.checked.digest _ c.in_ok-before.ensures.ok

pub invariant_of-self-2 : goal.invariant_of-self-2
invariant_of-self-2 c = λ on.
    lists_put _ _ c.put_tag.result c.self.inside.manifests c.set.new.self c.put_tag.new.manifests c.self.inside.index.sets c.list_references.new.self.sets c.args.checked.digest _ c.in_ok-before.before
    c.put_tag.ensures.ok c.put_tag.ensures.err c.in_ok-before.ensures.ok c.in_ok-before.ensures.old (c.self.invariant on) c.in_ok-list_references.ensures.ok

pub returns-clause-err : goal.returns-clause-err
returns-clause-err c =
    on_err_weaker c.put_tag.result (λ h.
    ap (λ (t : ByteMap StoredTag). record { manifests = c.put_tag.new.manifests; tags = t }) h.0
    ∙ ap (λ (m : ByteMap Kept). record { manifests = m; tags = c.self.inside.tags }) (h.1 ∙ put_back_is c.self.inside.manifests c.set.new.self c.args.checked.digest _ c.in_ok-before.before c.in_ok-before.ensures.ok c.in_ok-before.ensures.old)
    ∙ c.self.view_is)
    c.put_tag.ensures.err
