use Rattle.zot_row.specs.Going.{Starts}
use Rattle.zot_table.specs.Tables.{RepoTable}
use Rattle.zot_repo.proofs.RowLemmas.{found_not, written_kept, written_sets, written_turn}
use Rattle.zot_repo.proofs.repos.Repos.start.Goals as goal

pub unreachable-requires : goal.unreachable-requires
unreachable-requires g c = found_not c.self.inside.tree.entries c.args.self.now c.args.name.now c.self.view_is c.in-None.ensures.value c.requires

pub returns-clause-turn : goal.returns-clause-turn
returns-clause-turn g c =
    written_turn (λ (old new : RepoTable). Starts c.args.call.now c.args.moment c.args.name.now old (g.S.Store.objects c.args.part.now) (g.S.Store.faults c.args.part.now) c.start.result new (g.S.Store.objects c.start.new.part) (g.S.Store.faults c.start.new.part))
    c.self.inside.tree.entries (c.get_mut.follows.lender c.start.new.repo).entries c.args.self.now c.args.name.now c.in-Some.repository.now c.start.new.repo c.self.view_is c.in-Some.ensures.value (c.get_mut.follows.holds c.start.new.repo).3
    c.start.ensures

pub returns-clause-sets : goal.returns-clause-sets
returns-clause-sets g c = written_sets c.self.inside.tree.entries (c.get_mut.follows.lender c.start.new.repo).entries c.args.self.now c.args.name.now c.in-Some.repository.now c.start.new.repo c.self.view_is c.in-Some.ensures.value (c.get_mut.follows.holds c.start.new.repo).3

pub returns-clause-kept : goal.returns-clause-kept
returns-clause-kept g c = written_kept c.self.inside.tree.entries (c.get_mut.follows.lender c.start.new.repo).entries c.args.self.now c.args.name.now c.in-Some.repository.now c.start.new.repo c.self.view_is c.in-Some.ensures.value (c.get_mut.follows.holds c.start.new.repo).3
