use Rattle.std.proofs.Common.{◌≡◌, not, ℕ, List, take}
use Rattle.std.specs.BTreeSet.{contains}
use Rattle.std.specs.List.{filter, list_any}
use Rattle.std.specs.Str.{bytes_eq}
use Rattle.zot_digest.specs.ByteMap.{byte_cmp}
use Rattle.zot_scrub.proofs.lacking.lacking.Given as goal

-- the set has those of the needed digests so far that aren't there
abbrev pub invariant-loop-digest : goal.invariant-loop-digest
invariant-loop-digest l =
    (digest : List ℕ) → contains byte_cmp l.found digest
    ≡ list_any (λ other. bytes_eq other digest) (filter (λ other. not (contains byte_cmp l.stored other)) (take l.digest-index l.digest-items))
