use Rattle.std.proofs.Common.{◌≡◌, ◌||◌, ℕ, List, take}
use Rattle.std.specs.BTreeSet.{contains}
use Rattle.zot_digest.specs.ByteMap.{byte_cmp}
use Rattle.zot_media.specs.References.{has_digest}
use Rattle.zot_collect.proofs.held.add_each.Given as goal

-- the set has what it had and the digests so far
abbrev pub invariant-loop-descriptor : goal.invariant-loop-descriptor
invariant-loop-descriptor l =
    (digest : List ℕ) → contains byte_cmp l.held digest ≡ (contains byte_cmp l.fn.held digest || has_digest digest (take l.descriptor-index l.descriptors))
