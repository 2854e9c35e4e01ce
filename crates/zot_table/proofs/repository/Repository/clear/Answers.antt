use Rattle.zot_table.proofs.KeepingLemmas.{kept_slots}
use Rattle.zot_table.proofs.SlotLemmas.{unread_gone}
use Rattle.zot_table.proofs.repository.Repository.clear.Goals as goal

pub invariant_of-self : goal.invariant_of-self
invariant_of-self c =
    kept_slots _ _ _ _ _ c.self.invariant c.remove.new.self c.self.inside.all_read
    (λ on. unread_gone c.self.inside.blobs c.remove.new.self c.args.digest.now c.self.inside.manifests.manifests c.remove.ensures (c.self.invariant.read on))
