use Rattle.std.proofs.Common.{◌≡◌, ◌++◌, take}
use Rattle.std.specs.BTreeSet.{contains}
use Rattle.std.specs.List.{flat_map}
use Rattle.zot_digest.specs.ByteMap.{byte_cmp}
use Rattle.zot_model.specs.Findings.{damaged}
use Rattle.zot_scrub.specs.Missing.{missing_by}
use Rattle.zot_scrub.proofs.scrubbing.scrub_repo.Given as goal

-- the damaged blobs, and what the manifests so far lack
abbrev pub invariant-loop-row : goal.invariant-loop-row
invariant-loop-row g l = l.found.items ≡ damaged l.contents ++ flat_map (missing_by (contains byte_cmp l.stored)) (take l.row-index l.manifests)
