use Rattle.zot_uploads.proofs.TableLemmas.{given-append}
use Rattle.zot_uploads.proofs.uploads.Uploads.append.Goals as goal

pub invariant_of-self : goal.invariant_of-self
invariant_of-self c = given-append c.append.result c.self.inside.uploads c.append.new.self c.args.id c.self.inside.opened c.args.body.now c.append.ensures.ok c.append.ensures.stays c.self.invariant
