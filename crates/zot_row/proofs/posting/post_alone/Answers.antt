use Rattle.std.proofs.Common.{ℕ, List, Option, sym, subst}
use Rattle.zot_model.specs.declared.call.Call.TheVariants as calls
use Rattle.zot_row.specs.Going.{NeverMounts, Starts}
use Rattle.zot_row.specs.declared.turn.Turn.TheVariants as turns
use Rattle.zot_row.proofs.posting.post_alone.Goals as goal

pub returns-in-Some : goal.returns-in-Some
returns-in-Some g c = λ mount.
    let objects = g.S.Store.objects in
    let faults = g.S.Store.faults in
    subst (λ (d : Option (List ℕ)). NeverMounts (calls.Post mount d c.args.body.now)
    → Starts (calls.Post mount d c.args.body.now) c.args.moment c.args.name.now c.args.repo.now (objects c.args.part.now) (faults c.args.part.now) c.post_blob.result c.post_blob.new.repo (objects c.post_blob.new.part) (faults c.post_blob.new.part))
    (sym c.in-Some.is) (c.post_blob.ensures mount c.args.moment)

pub returns-in-None : goal.returns-in-None
returns-in-None g c = λ mount.
    let objects = g.S.Store.objects in
    let faults = g.S.Store.faults in
    subst (λ (d : Option (List ℕ)). NeverMounts (calls.Post mount d c.args.body.now)
    → Starts (calls.Post mount d c.args.body.now) c.args.moment c.args.name.now c.args.repo.now (objects c.args.part.now) (faults c.args.part.now) (turns.Done c.begin.result) c.begin.new.repo (objects c.begin.new.part) (faults c.begin.new.part))
    (sym c.in-None.is) (c.begin.ensures mount c.args.body.now)
