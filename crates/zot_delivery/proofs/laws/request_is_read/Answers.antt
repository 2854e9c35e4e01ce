use Rattle.zot_delivery.proofs.DeliveryLemmas.{delivered}
use Rattle.zot_delivery.proofs.laws.request_is_read.Goals as goal

pub returns : goal.returns
returns c = delivered
