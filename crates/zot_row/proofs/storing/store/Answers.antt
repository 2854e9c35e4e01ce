use Rattle.std.proofs.Common.{Bool, subst}
use Rattle.zot_row.proofs.StartLemmas.{attach_starts, refused_after}
use Rattle.zot_row.specs.Going.{KeepsStanding}
use Rattle.zot_table.specs.Tables.{RepoTable}
use Rattle.zot_row.proofs.storing.store.Goals as goal

pub returns-in-Ok : goal.returns-in-Ok
returns-in-Ok g c = λ call moment named never attaches ends.
    let objects = g.S.Store.objects in
    let faults = g.S.Store.faults in
    let name = c.args.name.now in
    let old = c.args.repo.now in
    attach_starts call moment name old (objects c.args.part.now) (objects c.know.new.part) (faults c.args.part.now) (faults c.know.new.part) named never c.in-Ok.ensures.cause.kept
    (subst (λ (t : RepoTable). KeepsStanding (objects c.args.part.now) name old (objects c.know.new.part) t) c.in-Ok.ensures.ok c.in-Ok.ensures.stands) c.in-Ok.ensures.beside
    c.know.new.repo c.attach.new.repo c.attach.result c.args.digest c.args.bytes c.args.purpose c.in-Ok.ensures.ok c.attach.ensures attaches ends

pub returns-in-Err : goal.returns-in-Err
returns-in-Err g c = λ call moment named never attaches ends.
    let objects = g.S.Store.objects in
    let faults = g.S.Store.faults in
    refused_after {T = Bool} call moment c.args.name.now c.args.repo.now c.know.new.repo (objects c.args.part.now) (objects c.know.new.part) (faults c.args.part.now) (faults c.know.new.part) c.in-Err.error c.refused.result named
    c.refused.ensures c.in-Err.ensures.err c.in-Err.ensures.cause c.in-Err.ensures.stands c.in-Err.ensures.beside
