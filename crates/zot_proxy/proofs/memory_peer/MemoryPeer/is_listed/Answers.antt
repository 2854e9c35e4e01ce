use Rattle.std.proofs.Common.{◌+◌, ◌-◌, ◌^◌, ◌==◌, ℕ, List, min, ap, sym, ◌∙◌}
use Rattle.std.specs.List.{list_any}
use Rattle.zot_proxy.proofs.PeerLemmas.{listed_is}
use Rattle.zot_proxy.proofs.memory_peer.MemoryPeer.is_listed.Goals as goal

pub returns : goal.returns
returns c =
    let number = c.saturating_add-number.ensures ∙ ap (λ (n : ℕ). min (n + 1) (2 ^ 64 - 1)) (c.len.ensures ∙ c.self.inside.asked.ok.0) in
    let found = c.contains.ensures.value ∙ ap (λ (list : List ℕ). list_any (λ n. n == c.saturating_add-number.result) list) c.deref.ensures.value in
    sym (listed_is c.args.self.now c.self.inside.failing.items c.self.inside.asked.items c.saturating_add-number.result c.contains.result
    (ap (λ s. s.failing) c.self.view_is) (ap (λ s. s.asked) c.self.view_is) number found)
