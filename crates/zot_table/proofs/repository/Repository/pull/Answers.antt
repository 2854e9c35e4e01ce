use Rattle.zot_table.proofs.ChangeLemmas.{kept_pulled}
use Rattle.zot_table.proofs.repository.Repository.pull.Goals as goal

pub invariant_of-self : goal.invariant_of-self
invariant_of-self c = kept_pulled _ _ _ _ _ c.self.invariant c.pull.new.self c.args.moment c.args.reference.now c.pull.ensures
