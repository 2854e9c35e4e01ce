use Rattle.std.proofs.Common.{rules}
use Rattle.zot_outside.proofs.WholeLemmas.{compared}
use Rattle.zot_outside.proofs.stores.whole.has_piece.Goals as goal

pub returns-clause-ok : goal.returns-clause-ok
returns-clause-ok g c = compared (g.S.Store.objects c.args.store.now) c.args.path.now _ _ c.args.at _ c.is_same.result (search rules) c.in_ok-fill_from.ensures.ok c.is_same.ensures
