use Rattle.std.proofs.Common.{◌+◌, arith}
use Rattle.zot_uploads.proofs.TableLemmas.{given-insert}
use Rattle.zot_uploads.proofs.uploads.Uploads.begin.Goals as goal

pub invariant_of-self-2 : goal.invariant_of-self-2
invariant_of-self-2 c = given-insert c.self.inside.uploads c.set.new.self c.new-id.result c.self.inside.opened (c.self.inside.opened + 1) c.new.result c.in_ok-set.ensures.ok c.self.invariant (omega arith) (omega arith)
