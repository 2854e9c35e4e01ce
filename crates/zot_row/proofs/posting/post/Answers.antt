use Rattle.std.proofs.Common.{Option, None, sym, subst}
use Rattle.zot_model.specs.declared.call.Call.TheVariants as calls
use Rattle.zot_model.specs.declared.mount.Mount.{Mount}
use Rattle.zot_row.proofs.PostLemmas.{never_without}
use Rattle.zot_row.specs.Going.{Starts}
use Rattle.zot_row.proofs.posting.post.Goals as goal

pub returns-in-None : goal.returns-in-None
returns-in-None g c =
    let objects = g.S.Store.objects in
    let faults = g.S.Store.faults in
    subst (λ (m : Option Mount). Starts (calls.Post m c.args.digest.now c.args.body.now) c.args.moment c.args.name.now c.args.repo.now (objects c.args.part.now) (faults c.args.part.now) c.post_alone.result c.post_alone.new.repo (objects c.post_alone.new.part) (faults c.post_alone.new.part))
    (sym c.in-None.is) (c.post_alone.ensures None (never_without c.args.digest.now c.args.body.now))
