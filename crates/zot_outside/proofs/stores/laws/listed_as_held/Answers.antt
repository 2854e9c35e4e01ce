use Rattle.zot_outside.proofs.ListingLemmas.{after_held, held_after}
use Rattle.zot_outside.proofs.stores.laws.listed_as_held.Goals as goal

pub returns : goal.returns
returns c = λ objects after path. (after_held objects after path, λ h. held_after objects after path h.0 h.1)
