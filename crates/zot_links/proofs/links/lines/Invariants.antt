use Rattle.std.proofs.Common.{◌≡◌, ◌++◌, map}
use Rattle.std.specs.List.{AllByRecursion}
use Rattle.zot_links.specs.Promotion.{line_of_entry}
use Rattle.zot_links.specs.Records.{NamesRepos}
use Rattle.zot_links.proofs.links.lines.Given as goal

-- the lines so far, with those that are left
abbrev pub invariant-loop-name : goal.invariant-loop-name
invariant-loop-name l = record { all : map line_of_entry l.tree.entries ≡ l.lines.items ++ map line_of_entry l.name-iterator; names : AllByRecursion NamesRepos l.lines.items }
