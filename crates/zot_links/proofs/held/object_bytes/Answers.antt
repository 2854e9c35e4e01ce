use Rattle.std.proofs.Common.{◌∙◌}
use Rattle.zot_links.proofs.HeldLemmas.{object_read, untold}
use Rattle.zot_links.proofs.held.object_bytes.Goals as goal

pub returns-in-Ok-clause-ok : goal.returns-in-Ok-clause-ok
returns-in-Ok-clause-ok g c =
    object_read (g.S.Store.objects c.args.part.now) c.args.digest.now c.args.name.now c.as_str.result.now c.in-Ok.bytes.items (c.as_str.ensures.value ∙ c.in_ok-path.ensures.path) c.in-Ok.ensures.ok

pub contradicted-requires : goal.contradicted-requires
contradicted-requires g c =
    untold (g.S.Store.objects c.args.part.now) (g.S.Store.objects c.read_whole.new.store) c.args.digest.now c.args.name.now c.as_str.result.now (c.as_str.ensures.value ∙ c.in_ok-path.ensures.path)
    c.requires (rw c.in-Err-Missing.field-0-is at c.in-Err-Missing.ensures.missing) c.in-Err-Missing.ensures.kept
