use Rattle.std.proofs.Common.{ℕ, List, Option, Some, sym, subst}
use Rattle.zot_model.specs.declared.call.Call.TheVariants as calls
use Rattle.zot_row.proofs.PostLemmas.{never_unnamed}
use Rattle.zot_row.specs.Going.{Starts}
use Rattle.zot_row.proofs.posting.post_mount.Goals as goal

pub returns-in-Some : goal.returns-in-Some
returns-in-Some g c =
    let objects = g.S.Store.objects in
    let faults = g.S.Store.faults in
    subst (λ (f : Option (List ℕ)). Starts (calls.Post (Some (record { digest = c.args.mount.now.digest; from = f })) c.args.digest.now c.args.body.now) c.args.moment c.args.name.now c.args.repo.now (objects c.args.part.now) (faults c.args.part.now) c.ask_mount.result c.ask_mount.new.repo (objects c.ask_mount.new.part) (faults c.ask_mount.new.part))
    (sym c.in-Some.is) (c.ask_mount.ensures c.args.moment)

pub returns-in-None : goal.returns-in-None
returns-in-None g c = c.post_alone.ensures (Some c.args.mount.now) (never_unnamed c.args.mount.now c.args.digest.now c.args.body.now c.in-None.is)
