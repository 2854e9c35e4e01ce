use Rattle.std.proofs.lemmas.Result.{on_ok_weaker}
use Rattle.zot_table.proofs.ChangeLemmas.{kept_reserved}
use Rattle.zot_table.proofs.SlotLemmas.{reserved_room}
use Rattle.zot_table.proofs.repository.Repository.reserve.Goals as goal

pub invariant_of-self : goal.invariant_of-self
invariant_of-self c = kept_reserved _ _ _ _ _ c.self.invariant c.reserve.result c.reserve.new.self c.args.digest.now c.reserve.ensures.ok c.reserve.ensures.err

pub returns-clause-room : goal.returns-clause-room
returns-clause-room c = on_ok_weaker c.reserve.result (λ is. reserved_room c.self.inside.blobs c.reserve.new.self c.args.digest.now is) c.reserve.ensures.ok
