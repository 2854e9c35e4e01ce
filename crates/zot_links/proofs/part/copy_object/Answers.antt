use Rattle.std.proofs.Common.{◌∙◌}
use Rattle.zot_links.proofs.PartLemmas.{object_copies, ok_so, source_there}
use Rattle.zot_links.proofs.part.copy_object.Goals as goal

pub copy_at-requires : goal.copy_at-requires
copy_at-requires g c =
    source_there (g.S.Store.objects c.args.part.now) c.args.digest.now c.args.from.now c.as_str.result.now (c.as_str.ensures.value ∙ c.in_ok-source.ensures.path) c.requires

pub returns-clause-ok : goal.returns-clause-ok
returns-clause-ok g c =
    ok_so c.copy_at.result _ _ (object_copies (g.S.Store.objects c.args.part.now) (g.S.Store.objects c.copy_at.new.part) c.args.digest.now c.args.from.now c.args.to.now c.as_str.result.now c.as_str-2.result.now
    c.in_ok-source.ensures.digest (c.as_str.ensures.value ∙ c.in_ok-source.ensures.path) (c.as_str-2.ensures.value ∙ c.in_ok-path.ensures.path)) c.copy_at.ensures.ok
