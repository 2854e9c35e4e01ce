use Rattle.std.proofs.Common.{◌∙◌}
use Rattle.zot_links.proofs.PartLemmas.{object_puts, ok_so}
use Rattle.zot_links.proofs.part.put_object.Goals as goal

pub returns-clause-ok : goal.returns-clause-ok
returns-clause-ok g c =
    ok_so c.put.result _ _ (object_puts (g.S.Store.objects c.args.part.now) (g.S.Store.objects c.put.new.self) c.args.digest.now c.args.name.now c.as_str.result.now c.in_ok-path.ensures.digest
    (c.as_str.ensures.value ∙ c.in_ok-path.ensures.path) c.args.bytes.now) c.put.ensures.ok
