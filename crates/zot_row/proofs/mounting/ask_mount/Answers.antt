use Rattle.std.proofs.Common.{subst}
use Rattle.zot_row.proofs.MountLemmas.{mount_starts}
use Rattle.zot_row.specs.Going.{KeepsStanding}
use Rattle.zot_table.specs.Tables.{RepoTable}
use Rattle.zot_row.proofs.mounting.ask_mount.Goals as goal

pub returns-in-Ok-know : goal.returns-in-Ok-know
returns-in-Ok-know g c = λ moment.
    let objects = g.S.Store.objects in
    let faults = g.S.Store.faults in
    let name = c.args.name.now in
    let old = c.args.repo.now in
    mount_starts moment name old c.args.wanted.now c.args.from.now c.args.digest.now c.args.body.now c.in-Ok.rest (objects c.args.part.now) (objects c.know.new.part) (faults c.args.part.now) (faults c.know.new.part) c.in-Ok.ensures c.in-Ok-know.ensures.cause.kept
    (subst (λ (t : RepoTable). KeepsStanding (objects c.args.part.now) name old (objects c.know.new.part) t) c.in-Ok-know.ensures.ok c.in-Ok-know.ensures.stands) c.in-Ok-know.ensures.beside
    c.know.new.repo c.ask.new.repo c.in-Ok-know.made c.ask.result c.in-Ok-know.ensures.ok c.in-Ok-know.ensures.made c.ask.ensures
