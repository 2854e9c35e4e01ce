use Rattle.zot_uploads.proofs.TableLemmas.{given-remove}
use Rattle.zot_uploads.proofs.uploads.Uploads.end.Goals as goal

pub invariant_of-self : goal.invariant_of-self
invariant_of-self c = given-remove c.self.inside.uploads c.remove.new.self _ c.self.inside.opened c.remove.ensures c.self.invariant
