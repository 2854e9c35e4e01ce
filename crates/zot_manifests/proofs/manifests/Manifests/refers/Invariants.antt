use Rattle.std.proofs.Common.{◌≡◌, map, false}
use Rattle.std.specs.FinMap as finite
use Rattle.std.specs.List.{list_any}
use Rattle.std.specs.Map.Iter.{deref}
use Rattle.zot_manifests.specs.Table.{says}
use Rattle.zot_manifests.proofs.manifests.Manifests.refers.Given as goal

-- none of those so far refers to the digest
abbrev pub invariant-loop-manifest : goal.invariant-loop-manifest
invariant-loop-manifest l = list_any (λ manifest. says (finite.get l.self.manifests manifest) l.digest) (map deref l.yielded) ≡ false
