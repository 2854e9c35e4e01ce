use Rattle.zot_outside.proofs.ListingLemmas.{length-paths_after}
use Rattle.zot_outside.proofs.stores.laws.listing_ends.Goals as goal

pub returns : goal.returns
returns c = length-paths_after
