use Rattle.zot_proxy.proofs.ForwardLemmas.{joined, read}
use Rattle.zot_proxy.proofs.forwarding.forwarded.Goals as goal

pub returns-clause-bytes : goal.returns-clause-bytes
returns-clause-bytes c = joined c.args.request.now c.in_ok-head.head.items c.body_of-body.result.now c.in_ok-head.ensures c.body_of-body.ensures

pub returns-clause-read : goal.returns-clause-read
returns-clause-read c valid = read c.args.request.now c.in_ok-head.head.items c.body_of-body.result.now c.has_values.ensures valid c.in_ok-head.ensures c.body_of-body.ensures
