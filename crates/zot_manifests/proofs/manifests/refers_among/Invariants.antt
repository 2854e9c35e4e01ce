use Rattle.std.proofs.Common.{◌≡◌}
use Rattle.std.specs.List.{list_any}
use Rattle.zot_media.specs.References.{refers}
use Rattle.zot_manifests.proofs.manifests.refers_among.Given as goal

-- none of those so far refers to the digest
abbrev pub invariant-loop-kept : goal.invariant-loop-kept
invariant-loop-kept l = list_any (λ entry. refers entry.1.reading l.digest) l.tree.entries ≡ list_any (λ entry. refers entry.1.reading l.digest) l.kept-iterator
