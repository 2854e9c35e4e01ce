use Rattle.std.proofs.Common.{sym, subst}
use Rattle.zot_repo.proofs.OpenLemmas.{open_agrees, open_names, open_stands, open_state}
use Rattle.zot_repo.specs.Opening.{AreOpened}
use Rattle.zot_repo.specs.RowGoing.{IsOwn, StandsForTables}
use Rattle.zot_repo.proofs.row_core.RowCore.open.Goals as goal

pub invariant_of-result : goal.invariant_of-result
invariant_of-result g c =
    let objects = g.S.Store.objects in
    let own = IsOwn c.args.config c.args.row in
    record {
      stands = subst (λ o. StandsForTables o c.args.moment own c.in-Ok.repos) (sym c.in-Ok.ensures.kept) (open_stands (objects c.args.part) own c.args.moment c.as_slice.result.now c.in-Ok.repos c.in-Ok.ensures.made);
      filled = open_names (objects c.args.part) own c.args.moment c.as_slice.result.now c.in-Ok.repos c.in-Ok.ensures.made;
      kept = tt;
      placed = tt;
    }

pub returns-in-Ok-clause-agrees : goal.returns-in-Ok-clause-agrees
returns-in-Ok-clause-agrees g c = λ holders are.
    let own = IsOwn c.args.config c.args.row in
    open_agrees (g.S.Store.objects c.args.part) own c.args.moment c.args.held.items c.in-Ok.repos
    (subst (λ holdings. AreOpened (g.S.Store.objects c.args.part) own c.args.moment holdings c.in-Ok.repos) c.as_slice.ensures.value c.in-Ok.ensures.made) c.requires.own holders are

pub returns-in-Ok-clause-state : goal.returns-in-Ok-clause-state
returns-in-Ok-clause-state g c =
    let own = IsOwn c.args.config c.args.row in
    open_state (g.S.Store.objects c.args.part) own c.args.moment c.args.held.items c.in-Ok.repos
    (subst (λ holdings. AreOpened (g.S.Store.objects c.args.part) own c.args.moment holdings c.in-Ok.repos) c.as_slice.ensures.value c.in-Ok.ensures.made) c.requires.own

pub returns-in-Ok-clause-tables : goal.returns-in-Ok-clause-tables
returns-in-Ok-clause-tables g c =
    subst (λ holdings. AreOpened (g.S.Store.objects c.args.part) (IsOwn c.args.config c.args.row) c.args.moment holdings c.in-Ok.repos) c.as_slice.ensures.value c.in-Ok.ensures.made
