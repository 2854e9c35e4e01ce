use Rattle.zot_media.proofs.OrderLemmas.{annotations_in_order}
use Rattle.zot_media.proofs.laws.annotations_ascend.Goals as goal

pub returns : goal.returns
returns c = annotations_in_order
