use Rattle.std.proofs.Common.{◌≡◌, refl}
use Rattle.zot_repo.proofs.RowTurnLemmas.{on_name}
use Rattle.zot_repo.proofs.DrivesLemmas.{begun_drives, goes_on_drives}
use Rattle.zot_model.specs.declared.row.RowCall.TheVariants.{Ask}
use Rattle.zot_repo.proofs.driving.drive.Goals as goal

pub turns-init : goal.turns-init
turns-init g c =
    begun_drives c.args.core.now c.args.failed.now c.args.pool.now.shards.items c.args.moment (Ask c.args.request.now) c.ask-next.result c.ask-next.new.self c.ask-next.ensures.answer c.ask-next.ensures.idle
    c.ask-next.ensures.fits c.ask-next.ensures.beside c.ask-next.ensures.names c.ask-next.ensures.faults c.ask-next.ensures.row c.ask-next.ensures.config c.ask-next.ensures.opened

pub turns-preserved : goal.turns-preserved
turns-preserved g c =
    goes_on_drives c.args.core.now c.args.failed.now c.args.pool.now.shards.items c.args.moment (Ask c.args.request.now) c.in-Pool.asked c.turns.next c.turns.core c.turns.failed c.turns.pool.shards.items c.requires.own c.in-Pool.is c.turns.invariant c.in-Some.name (on_name (λ n. n ≡ c.in-Some.name) (Ask c.args.request.now) c.args.request.now c.in-Some.name refl c.in-Some.is refl)
    c.ask-answered.result c.ask-answered.new.failed c.ask-answered.new.pool.shards.items c.ask-answered.ensures c.resume-next.result c.resume-next.new.self c.resume-next.ensures.answer c.resume-next.ensures.idle c.resume-next.ensures.faults c.resume-next.ensures.fits
    c.resume-next.ensures.falls c.resume-next.ensures.beside c.resume-next.ensures.names c.resume-next.ensures.row c.resume-next.ensures.config c.resume-next.ensures.opened
