use Rattle.std.proofs.Common.{◌∙◌}
use Rattle.zot_links.proofs.PartLemmas.{object_deleted, ok_so}
use Rattle.zot_links.proofs.part.delete_object.Goals as goal

pub returns-clause-ok : goal.returns-clause-ok
returns-clause-ok g c =
    ok_so c.delete_at.result _ _ (object_deleted (g.S.Store.objects c.args.part.now) (g.S.Store.objects c.delete_at.new.part) c.args.digest.now c.args.name.now c.as_str.result.now c.in_ok-path.ensures.digest
    (c.as_str.ensures.value ∙ c.in_ok-path.ensures.path)) c.delete_at.ensures.ok
