use Rattle.zot_table.proofs.KeepingLemmas.{kept_slots}
use Rattle.zot_table.proofs.SlotLemmas.{unread_set}
use Rattle.zot_table.proofs.repository.Repository.fill.Goals as goal

pub invariant_of-self-else-unread : goal.invariant_of-self-else-unread
invariant_of-self-else-unread c =
    kept_slots _ _ _ _ _ c.self.invariant c.fill.new.self c.self.inside.all_read
    (λ on. unread_set c.self.inside.blobs c.fill.new.self c.args.digest.now c.self.inside.manifests.manifests _ c.fill.ensures (λ _. c.if-unread.false) (c.self.invariant.read on))
