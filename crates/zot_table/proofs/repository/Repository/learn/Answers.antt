use Rattle.zot_table.proofs.ChangeLemmas.{kept_learned}
use Rattle.zot_table.proofs.repository.Repository.learn.Goals as goal

pub invariant_of-self-2 : goal.invariant_of-self-2
invariant_of-self-2 c =
    kept_learned _ _ _ _ _ c.self.invariant c.args.digest.now c.args.bytes.now c.reread.new.manifests c.mark.new.self c.reread.new.subjects.index.sets c.in_ok-reread.ensures.ok c.mark.ensures c.reread.ensures.lists
