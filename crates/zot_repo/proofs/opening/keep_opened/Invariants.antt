use Rattle.std.proofs.Common.{◌≡◌}
use Rattle.std.specs.List.{AllByRecursion}
use Rattle.zot_layout.specs.Rows.{Opened}
use Rattle.zot_layout.specs.State.{IsIndex}
use Rattle.zot_repo.specs.Opening.{with_opened}
use Rattle.zot_repo.proofs.opening.keep_opened.Given as goal

-- the repositories so far, with those that are left, are all
abbrev pub invariant-loop-one : goal.invariant-loop-one
invariant-loop-one l = record {
  kept : with_opened l.repos l.one-iterator.rest.items ≡ with_opened l.fn.repos l.fn.opened.items;
  indexes : AllByRecursion (λ (o : Opened). IsIndex o.1) l.one-iterator.rest.items;
}
