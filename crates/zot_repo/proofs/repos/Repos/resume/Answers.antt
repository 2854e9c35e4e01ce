use Rattle.zot_row.specs.Going.{Resumes}
use Rattle.zot_table.specs.Tables.{RepoTable}
use Rattle.zot_repo.proofs.RowLemmas.{found_not, written_kept, written_sets, written_turn}
use Rattle.zot_repo.proofs.repos.Repos.resume.Goals as goal

pub unreachable-requires : goal.unreachable-requires
unreachable-requires g c = found_not c.self.inside.tree.entries c.args.self.now c.args.name.now c.self.view_is c.in-None.ensures.value c.requires

pub returns-clause-turn : goal.returns-clause-turn
returns-clause-turn g c =
    written_turn (λ (old new : RepoTable). Resumes c.args.stage c.args.answered c.args.moment c.args.name.now old (g.S.Store.objects c.args.part.now) (g.S.Store.faults c.args.part.now) c.resume.result new (g.S.Store.objects c.resume.new.part) (g.S.Store.faults c.resume.new.part))
    c.self.inside.tree.entries (c.get_mut.follows.lender c.resume.new.repo).entries c.args.self.now c.args.name.now c.in-Some.repository.now c.resume.new.repo c.self.view_is c.in-Some.ensures.value (c.get_mut.follows.holds c.resume.new.repo).3
    c.resume.ensures

pub returns-clause-sets : goal.returns-clause-sets
returns-clause-sets g c = written_sets c.self.inside.tree.entries (c.get_mut.follows.lender c.resume.new.repo).entries c.args.self.now c.args.name.now c.in-Some.repository.now c.resume.new.repo c.self.view_is c.in-Some.ensures.value (c.get_mut.follows.holds c.resume.new.repo).3

pub returns-clause-kept : goal.returns-clause-kept
returns-clause-kept g c = written_kept c.self.inside.tree.entries (c.get_mut.follows.lender c.resume.new.repo).entries c.args.self.now c.args.name.now c.in-Some.repository.now c.resume.new.repo c.self.view_is c.in-Some.ensures.value (c.get_mut.follows.holds c.resume.new.repo).3
