use Rattle.std.proofs.Common.{◌≡◌, ◌++◌, map}
use Rattle.std.specs.Prelude.{option_map}
use Rattle.std.specs.List.{AllByRecursion, filter}
use Rattle.zot_names.specs.Tag.{IsTag}
use Rattle.zot_table.specs.Leaving.{IsNamed, is_tag_left}
use Rattle.zot_table.specs.Tables.{index_tag}
use Rattle.zot_table.proofs.indexing.tags_left.Given as goal

-- what the index holds so far, with that of the tags that are left, is all
abbrev pub invariant-loop-text : goal.invariant-loop-text
invariant-loop-text l = record {
  all : map index_tag (filter (λ e. is_tag_left (option_map (λ r. r.now) l.gone) e.0 e.1.digest) l.tree.entries)
      ≡ l.items.items ++ map index_tag (filter (λ e. is_tag_left (option_map (λ r. r.now) l.gone) e.0 e.1.digest) l.text-iterator);
  sound : AllByRecursion IsNamed l.items.items;
  tags : AllByRecursion (λ e. IsTag e.0) l.text-iterator;
}
