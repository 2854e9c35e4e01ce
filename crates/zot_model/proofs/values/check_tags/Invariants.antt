use Rattle.std.proofs.Common.{drop}
use Rattle.std.specs.List.{AllByRecursion}
use Rattle.zot_names.specs.Tag.{IsTag}
use Rattle.zot_model.proofs.values.check_tags.Given as goal

abbrev pub invariant-loop-tag : goal.invariant-loop-tag
invariant-loop-tag l = AllByRecursion IsTag (drop l.tag-index l.tags) → AllByRecursion IsTag l.tags
