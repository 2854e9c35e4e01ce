use Rattle.std.proofs.Common.{◌≡◌, map, take, drop}
use Rattle.std.specs.List.{AllByRecursion}
use Rattle.zot_names.specs.Tag.{IsTag}
use Rattle.zot_manifests.proofs.tag_map.first_tags.Given as goal

-- the tags so far, and the entries that are left
abbrev pub invariant-loop : goal.invariant-loop
invariant-loop l = record {
  so_far : l.tags.items ≡ take l.counter (map (λ entry. entry.0) l.fn.rest);
  left : l.rest ≡ drop l.counter l.fn.rest;
  tags : AllByRecursion (λ entry. IsTag entry.0) l.rest;
}
