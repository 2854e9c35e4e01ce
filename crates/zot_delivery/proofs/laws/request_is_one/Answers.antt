use Rattle.zot_delivery.proofs.DeliveryLemmas.{one_request}
use Rattle.zot_delivery.proofs.laws.request_is_one.Goals as goal

pub returns : goal.returns
returns c = one_request
