use Rattle.std.proofs.Common.{◌≡◌, ℕ, List, take}
use Rattle.std.specs.BTreeSet.{contains}
use Rattle.zot_model.specs.Sweep.{is_held}
use Rattle.zot_digest.specs.ByteMap.{byte_cmp}
use Rattle.zot_collect.proofs.held.held_by.Given as goal

-- the set has what the manifests so far hold
abbrev pub invariant-loop-manifest : goal.invariant-loop-manifest
invariant-loop-manifest l = (digest : List ℕ) → contains byte_cmp l.held digest ≡ is_held (take l.manifest-index l.manifests) digest
