use Rattle.std.specs.FinMap as map
use Rattle.zot_links.proofs.OpeningLemmas.{HasOpened}
use Rattle.zot_links.proofs.opening.with_origins.Given as goal

-- the holders so far, with those that are left
abbrev pub invariant-loop-name : goal.invariant-loop-name
invariant-loop-name l = HasOpened (map.get l.lines) l.found l.name-iterator l.links
