use Rattle.std.proofs.Common.{◌≡◌}
use Rattle.std.specs.Prelude.{OnOk}
use Rattle.zot_table.specs.Opening.{with_found}
use Rattle.zot_table.specs.Tables.{RepoTable}
use Rattle.zot_repo.proofs.RowLemmas.{found_not, written_kept, written_sets, written_turn}
use Rattle.zot_repo.proofs.repos.Repos.hold_kept.Goals as goal

pub unreachable-requires : goal.unreachable-requires
unreachable-requires c = found_not c.self.inside.tree.entries c.args.self.now c.args.holding.now.name c.self.view_is c.in-None.ensures.value c.requires

pub returns-clause-found : goal.returns-clause-found
returns-clause-found c =
    written_turn (λ (old new : RepoTable). OnOk c.hold_found.result (new ≡ with_found c.args.moment old c.args.holding.now.digest c.args.holding.now.size))
    c.self.inside.tree.entries (c.get_mut.follows.lender c.hold_found.new.self).entries c.args.self.now c.args.holding.now.name c.in-Some.repository.now c.hold_found.new.self c.self.view_is c.in-Some.ensures.value (c.get_mut.follows.holds c.hold_found.new.self).3
    c.hold_found.ensures.ok

pub returns-clause-sets : goal.returns-clause-sets
returns-clause-sets c = written_sets c.self.inside.tree.entries (c.get_mut.follows.lender c.hold_found.new.self).entries c.args.self.now c.args.holding.now.name c.in-Some.repository.now c.hold_found.new.self c.self.view_is c.in-Some.ensures.value (c.get_mut.follows.holds c.hold_found.new.self).3

pub returns-clause-kept : goal.returns-clause-kept
returns-clause-kept c = written_kept c.self.inside.tree.entries (c.get_mut.follows.lender c.hold_found.new.self).entries c.args.self.now c.args.holding.now.name c.in-Some.repository.now c.hold_found.new.self c.self.view_is c.in-Some.ensures.value (c.get_mut.follows.holds c.hold_found.new.self).3
