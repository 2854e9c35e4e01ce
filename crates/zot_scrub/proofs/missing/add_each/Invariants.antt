use Rattle.std.proofs.Common.{◌≡◌, ◌++◌, map}
use Rattle.std.specs.Map.Iter.{deref}
use Rattle.zot_model.specs.declared.finding.Finding.TheVariants.{Missing}
use Rattle.zot_scrub.proofs.missing.add_each.Given as goal

abbrev pub invariant-loop-digest : goal.invariant-loop-digest
invariant-loop-digest l = l.found.items ≡ l.fn.found.items ++ map (λ digest. Missing l.manifest digest) (map deref l.yielded)
