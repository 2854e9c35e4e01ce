use Rattle.std.proofs.Common.{◌≡◌, ◌++◌, map}
use Rattle.zot_links.specs.Promotion.{redirect}
use Rattle.zot_links.proofs.links.redirected.Given as goal

-- the holders so far, with those that are left
abbrev pub invariant-loop-name : goal.invariant-loop-name
invariant-loop-name l = map (λ e. (e.0, redirect l.from l.to e.1)) l.tree.entries ≡ l.made.entries ++ map (λ e. (e.0, redirect l.from l.to e.1)) l.name-iterator
