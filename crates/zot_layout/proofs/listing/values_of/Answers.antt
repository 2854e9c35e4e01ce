use Rattle.zot_media.proofs.FieldLemmas.{listed_view}
use Rattle.zot_layout.proofs.listing.values_of.Goals as goal

pub returns-in-Some : goal.returns-in-Some
returns-in-Some c = listed_view _ _ _ c.in-Some.ensures c.as_slice.ensures.value
