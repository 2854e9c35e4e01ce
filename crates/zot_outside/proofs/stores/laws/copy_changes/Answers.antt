use Rattle.zot_outside.proofs.ObjectLemmas.{changes-copy}
use Rattle.zot_outside.proofs.stores.laws.copy_changes.Goals as goal

pub returns : goal.returns
returns c = changes-copy
