use Rattle.zot_links.proofs.LineLemmas.{on_ok}
use Rattle.zot_contents.proofs.OpeningLemmas.{found_where}
use Rattle.zot_contents.specs.Shards.{AreTight, IsTightTree}
use Rattle.zot_contents.proofs.opening.read_digests.Goals as goal

pub returns-in-Ok-clause-tight : goal.returns-in-Ok-clause-tight
returns-in-Ok-clause-tight g c =
    on_ok c.open_each.result _ _
    (λ digests h. found_where (g.S.Store.objects c.args.part.now) (g.S.Store.objects c.find_digests.new.part) c.in-Ok.found c.args.number (λ told number. IsTightTree told number → AreTight told number digests)
    c.in-Ok.ensures.kept c.in-Ok.ensures.found h) c.open_each.ensures.tight
