use Rattle.std.proofs.Common.{◌≡◌, ℕ, List, drop, is_some}
use Rattle.zot_model.specs.Manifests.{first_missing}
use Rattle.zot_manifests.proofs.checking.first_missing.Given as goal

-- the first missing one of those that are left is that of all
abbrev pub invariant-loop-digest : goal.invariant-loop-digest
invariant-loop-digest g l =
    first_missing (λ (digest : List ℕ). is_some (g.H.Held.sizes l.held digest)) (drop l.digest-index l.digests) ≡ first_missing (λ (digest : List ℕ). is_some (g.H.Held.sizes l.held digest)) l.digests
