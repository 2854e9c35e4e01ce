use Rattle.std.proofs.Common.{◌≡◌, List, ℕ, subst}
use Rattle.std.specs.FinMap as map
use Rattle.std.specs.Prelude.{OnOk}
use Rattle.zot_repo.proofs.RowLemmas.{none_kept, set_fresh, set_kept, some_kept}
use Rattle.zot_table.specs.Tables.{RepoTable}
use Rattle.zot_repo.proofs.repos.Repos.keep.Goals as goal

pub returns-in-Some-clause-kept : goal.returns-in-Some-clause-kept
returns-in-Some-clause-kept c = some_kept c.self.inside.tree.entries c.args.self.now c.args.name.now c.self.view_is c.in-Some.field-0.now c.in-Some.ensures.value

pub returns-in_ok-copy-in-None-clause-kept : goal.returns-in_ok-copy-in-None-clause-kept
returns-in_ok-copy-in-None-clause-kept c =
    set_kept c.set.result c.args.self.now c.set.new.self c.args.name.now c.new.result
    (subst (λ (n : List ℕ). OnOk c.set.result (c.set.new.self ≡ map.insert c.args.self.now n c.new.result)) c.in_ok-copy-in-None.ensures c.set.ensures.ok)

pub returns-in_ok-copy-in-None-clause-same : goal.returns-in_ok-copy-in-None-clause-same
returns-in_ok-copy-in-None-clause-same c =
    set_fresh c.set.result c.args.self.now c.set.new.self c.args.name.now (none_kept c.self.inside.tree.entries c.args.self.now c.args.name.now c.self.view_is c.in-None.ensures.value)
    (subst (λ (t : RepoTable). OnOk c.set.result (c.set.new.self ≡ map.insert c.args.self.now c.args.name.now t)) c.new.ensures
    (subst (λ (n : List ℕ). OnOk c.set.result (c.set.new.self ≡ map.insert c.args.self.now n c.new.result)) c.in_ok-copy-in-None.ensures c.set.ensures.ok))
    c.set.ensures.err
