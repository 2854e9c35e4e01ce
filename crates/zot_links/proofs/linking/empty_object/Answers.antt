use Rattle.zot_links.proofs.LinkingLemmas.{emptied, not_emptied}
use Rattle.zot_links.proofs.PartLemmas.{either}
use Rattle.zot_links.proofs.linking.empty_object.Goals as goal

pub returns-clause-kept : goal.returns-clause-kept
returns-clause-kept g c =
    either c.put_object.result _ _ _ (emptied (g.S.Store.objects c.args.part.now) (g.S.Store.objects c.put_object.new.part) c.args.digest.now c.args.name.now _) (not_emptied (g.S.Store.objects c.args.part.now) (g.S.Store.objects c.put_object.new.part) c.args.digest.now c.args.name.now)
    c.put_object.ensures.ok c.put_object.ensures.err
