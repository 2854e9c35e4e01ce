use Rattle.zot_row.proofs.PartLemmas.{made_stands}
use Rattle.zot_row.proofs.knowing.know.Goals as goal

pub returns-clause-stands : goal.returns-clause-stands
returns-clause-stands g c =
    let objects = g.S.Store.objects in
    made_stands (objects c.args.part.now) (objects c.make_known.new.part) c.args.name.now c.args.repo.now c.set_known.new.self c.in_ok-index.index c.in_ok-index.ensures.state c.set_known.ensures
    (c.in_ok-make_known.ensures.ok c.in_ok-index.ensures.index)
