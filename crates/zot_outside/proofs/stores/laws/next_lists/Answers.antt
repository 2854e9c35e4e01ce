use Rattle.zot_outside.proofs.ListingLemmas.{paths_after-follows}
use Rattle.zot_outside.proofs.stores.laws.next_lists.Goals as goal

pub returns : goal.returns
returns c = paths_after-follows
