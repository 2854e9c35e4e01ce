use Rattle.std.proofs.Common.{◌∷◌, ap, sym, subst, ◌∙◌}
use Rattle.zot_model.specs.declared.reply.Reply.{Reply}
use Rattle.zot_model.specs.Fits.{Fits}
use Rattle.zot_proxy.proofs.PeerLemmas.{front_is}
use Rattle.zot_proxy.proofs.memory_peer.MemoryPeer.next_reply.Goals as goal

pub returns-in_ok-copy-in-Some : goal.returns-in_ok-copy-in-Some
returns-in_ok-copy-in-Some c =
    let next = front_is c.self.inside.replies.items c.in-Some.reply.now c.in-Some.ensures.item.3.0 c.in-Some.ensures.item.1 in
    let copy = sym c.in_ok-copy-in-Some.ensures in (
      sym c.is_listed.ensures ∙ c.if-is_listed.false,
      subst (λ (r : Reply). Fits c.args.request.now r) copy (c.fits.ensures.0 c.if-fits.true),
      (next.0, sym (ap (λ s. s.left) c.self.view_is) ∙ next.1 ∙ ap (λ (r : Reply). r ∷ next.0) copy),
    )
