use Rattle.zot_links.proofs.PartLemmas.{either}
use Rattle.zot_links.proofs.WriteLemmas.{kept_still, tidy_done}
use Rattle.zot_links.proofs.orders.tidy_record.Goals as goal

pub returns-clause-kept : goal.returns-clause-kept
returns-clause-kept g c =
    either c.put_record.result _ _ _ (tidy_done (g.S.Store.objects c.args.part.now) (g.S.Store.objects c.put_record.new.part) c.args.digest.now c.args.links.now)
    (kept_still (g.S.Store.objects c.args.part.now) (g.S.Store.objects c.put_record.new.part) c.args.digest.now c.args.links.now) c.put_record.ensures.ok c.put_record.ensures.err
