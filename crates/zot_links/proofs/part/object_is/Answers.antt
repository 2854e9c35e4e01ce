use Rattle.std.proofs.Common.{◌∙◌}
use Rattle.zot_links.proofs.LineLemmas.{on_ok}
use Rattle.zot_links.proofs.PartLemmas.{object_compared, source_there}
use Rattle.zot_links.proofs.part.object_is.Goals as goal

pub is_at-requires : goal.is_at-requires
is_at-requires g c =
    source_there (g.S.Store.objects c.args.part.now) c.args.digest.now c.args.name.now c.as_str.result.now (c.as_str.ensures.value ∙ c.in_ok-path.ensures.path) c.requires

pub returns-clause-ok : goal.returns-clause-ok
returns-clause-ok g c =
    on_ok c.is_at.result _ _ (λ same h. object_compared (g.S.Store.objects c.args.part.now) c.args.digest.now c.args.name.now c.as_str.result.now c.args.bytes.now same
    (c.as_str.ensures.value ∙ c.in_ok-path.ensures.path) h) c.is_at.ensures.ok
