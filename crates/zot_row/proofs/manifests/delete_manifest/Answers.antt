use Rattle.std.proofs.Common.{sym, subst, ◌∙◌}
use Rattle.zot_model.specs.declared.call.Call.TheVariants as calls
use Rattle.zot_model.specs.declared.reply.Reply.{Reply}
use Rattle.zot_row.proofs.ManifestLemmas.{delete_never, delete_starts, delete_unknown}
use Rattle.zot_row.proofs.QuietLemmas.{quiet_never}
use Rattle.zot_row.specs.Going.{Quietly}
use Rattle.zot_row.specs.declared.turn.Turn.TheVariants as turns
use Rattle.zot_row.proofs.manifests.delete_manifest.Goals as goal

pub returns-then-not-has_named : goal.returns-then-not-has_named
returns-then-not-has_named g c = λ moment.
    let call = calls.DeleteManifest c.args.reference.now in
    quiet_never call moment c.args.name.now c.args.repo.now (turns.Done c.manifest_unknown.result) c.args.repo.now (g.S.Store.objects c.args.part.now) (g.S.Store.faults c.args.part.now) (delete_never c.args.reference.now)
    (subst (λ (reply : Reply). Quietly call moment c.args.name.now c.args.repo.now (turns.Done reply) c.args.repo.now) (sym c.manifest_unknown.ensures)
    (delete_unknown moment c.args.name.now c.args.repo.now c.args.reference.now (sym c.if-not-has_named.ensures)))

pub returns-in-Ok : goal.returns-in-Ok
returns-in-Ok g c = λ moment.
    let objects = g.S.Store.objects in
    let faults = g.S.Store.faults in
    let has = sym c.if-not-has_named.ensures in
    delete_starts moment c.args.name.now c.args.repo.now c.args.reference.now (objects c.args.part.now) (objects c.write_index.new.part) (faults c.args.part.now) (faults c.write_index.new.part) c.remove_named.new.self has
    (c.remove_named.ensures.removed (c.remove_named.ensures.was ∙ has)) c.in-Ok.ensures.cause.kept c.in-Ok.ensures.ok
