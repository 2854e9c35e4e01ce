use Rattle.std.proofs.Common.{◌≡◌}
use Rattle.zot_links.specs.Promotion.{first_link}
use Rattle.zot_links.proofs.links.first_link.Given as goal

-- none so far
abbrev pub invariant-loop-link : goal.invariant-loop-link
invariant-loop-link l = first_link l.name l.tree.entries ≡ first_link l.name l.link-iterator
