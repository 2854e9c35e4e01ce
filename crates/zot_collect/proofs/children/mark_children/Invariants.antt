use Rattle.std.proofs.Common.{◌≡◌, true, take}
use Rattle.zot_collect.specs.Marks.{Spreads}
use Rattle.zot_media.specs.References.{has_digest}
use Rattle.zot_collect.proofs.children.mark_children.Given as goal

-- the manifests of the descriptors so far have marks
abbrev pub invariant-loop-child : goal.invariant-loop-child
invariant-loop-child l = Spreads (λ row. has_digest row.digest (take l.child-index l.children) ≡ true) l.manifests l.fn.state l.state
