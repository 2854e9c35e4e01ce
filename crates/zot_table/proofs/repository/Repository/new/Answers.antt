use Rattle.std.proofs.Common.{true}
use Rattle.zot_table.proofs.KeepingLemmas.{kept_empty}
use Rattle.zot_table.proofs.repository.Repository.new.Goals as goal

pub invariant_of-result : goal.invariant_of-result
invariant_of-result c = kept_empty c.new.result c.new-2.result c.new-3.result.index.sets true true c.new-2.ensures
