use Rattle.zot_links.proofs.LinkingLemmas.{became_link}
use Rattle.zot_links.proofs.WriteLemmas.{on_err, set_here}
use Rattle.zot_links.proofs.linking.make_link.Goals as goal

pub returns-in_err-relink-clause-err : goal.returns-in_err-relink-clause-err
returns-in_err-relink-clause-err g c = on_err c.from_residual.result c.in_err-relink.ensures.err

pub returns-clause-ok : goal.returns-clause-ok
returns-clause-ok g c =
    became_link (g.S.Store.objects c.args.part.now) (g.S.Store.objects c.relink.new.part) (g.S.Store.objects c.empty_object.new.part) c.args.digest.now c.args.links.now c.relink.new.links c.args.name.now c.args.origin.now c.in_ok-relink.ensures.links c.in_ok-relink.ensures.ok c.empty_object.ensures.kept

pub returns-clause-link : goal.returns-clause-link
returns-clause-link g c = set_here c.args.links.now c.relink.new.links c.args.name.now _ c.in_ok-relink.ensures.links
