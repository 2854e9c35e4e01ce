use Rattle.std.proofs.Common.{sym, subst}
use Rattle.zot_model.specs.declared.call.Call.TheVariants as calls
use Rattle.zot_model.specs.declared.reply.Reply.{Reply}
use Rattle.zot_row.proofs.ManifestLemmas.{get_unknown}
use Rattle.zot_row.specs.Going.{Quietly}
use Rattle.zot_row.specs.declared.turn.Turn.TheVariants as turns
use Rattle.zot_row.proofs.manifests.get_manifest.Goals as goal

pub returns-in_default : goal.returns-in_default
returns-in_default c = λ moment.
    subst (λ (reply : Reply). Quietly (calls.GetManifest c.args.reference.now) moment c.args.name.now c.args.repo.now (turns.Done reply) c.args.repo.now) (sym c.manifest_unknown.ensures)
    (get_unknown moment c.args.name.now c.args.repo.now c.args.reference.now (sym c.in_default.ensures))
