use Rattle.zot_repo.proofs.RowLemmas.{dropped, dropped_gone, fresh_has, fresh_hasnt, none_hasnt}
use Rattle.zot_repo.proofs.repos.Repos.tidy.Goals as goal

pub returns-then-is_fresh-clause-same : goal.returns-then-is_fresh-clause-same
returns-then-is_fresh-clause-same c =
    dropped c.args.self.now c.remove.new.self c.args.name.now c.remove.ensures
    (fresh_has c.self.inside.tree.entries c.args.self.now c.args.name.now c.self.view_is c.in-Some.repository.now c.in-Some.ensures.value (c.is_fresh.ensures.fresh c.if-is_fresh.true))

pub returns-then-is_fresh-clause-gone : goal.returns-then-is_fresh-clause-gone
returns-then-is_fresh-clause-gone c = dropped_gone c.args.self.now c.remove.new.self c.args.name.now c.remove.ensures

pub returns-else-is_fresh-clause-gone : goal.returns-else-is_fresh-clause-gone
returns-else-is_fresh-clause-gone c = fresh_hasnt c.self.inside.tree.entries c.args.self.now c.args.name.now c.self.view_is c.in-Some.repository.now c.in-Some.ensures.value (c.is_fresh.ensures.other c.if-is_fresh.false)

pub returns-in-None-clause-gone : goal.returns-in-None-clause-gone
returns-in-None-clause-gone c = none_hasnt c.self.inside.tree.entries c.args.self.now c.args.name.now c.self.view_is c.in-None.ensures.value
