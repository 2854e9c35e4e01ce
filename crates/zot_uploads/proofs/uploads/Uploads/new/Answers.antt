use Rattle.zot_uploads.proofs.TableLemmas.{given-empty}
use Rattle.zot_uploads.proofs.uploads.Uploads.new.Goals as goal

pub invariant_of-result : goal.invariant_of-result
invariant_of-result c = given-empty c.new.result 0 c.new.ensures
