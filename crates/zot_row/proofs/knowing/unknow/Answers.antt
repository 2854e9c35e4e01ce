use Rattle.std.proofs.Common.{refl}
use Rattle.zot_row.proofs.PartLemmas.{bare_stands}
use Rattle.zot_row.proofs.knowing.unknow.Goals as goal

pub returns-clause-stands : goal.returns-clause-stands
returns-clause-stands g c =
    let objects = g.S.Store.objects in
    bare_stands (objects c.args.part.now) (objects c.forget.new.part) c.args.name.now c.args.repo.now c.set_known.new.self (c.if-not-is_bare.ensures refl) c.set_known.ensures c.in_ok-forget.ensures.ok
