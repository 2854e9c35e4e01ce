use Rattle.zot_table.proofs.KeepingLemmas.{kept_slots}
use Rattle.zot_table.proofs.SlotLemmas.{unread_settled}
use Rattle.zot_table.proofs.repository.Repository.settle.Goals as goal

pub invariant_of-self : goal.invariant_of-self
invariant_of-self c =
    kept_slots _ _ _ _ _ c.self.invariant c.settle.new.self c.self.inside.all_read
    (λ on. unread_settled c.self.inside.blobs c.settle.new.self c.args.digest.now c.self.inside.manifests.manifests c.settle.ensures (c.self.invariant.read on))
