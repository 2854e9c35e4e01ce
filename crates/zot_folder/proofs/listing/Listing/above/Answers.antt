use Rattle.std.proofs.Common.{rules, subst, sym, map, option_map, IsSorted, string_bytes, string_cmp}
use Rattle.std.proofs.lemmas.List.Sorted.{IsPartitionPoint-from_clause}
use Rattle.zot_folder.specs.Listing.{FindsAbove}
use Rattle.zot_folder.proofs.FolderLemmas.{finds_above, parted, within}
use Rattle.zot_folder.proofs.listing.Listing.above.Goals as goal

pub returns : goal.returns
returns c =
    let bound = c.args.bound.now in
    let paths = c.as_slice-paths.result.now in
    let ordered : IsSorted string_cmp paths = subst (λ ps. IsSorted string_cmp ps) (sym c.as_slice-paths.ensures.value) c.args.self.now.ordered in
    let point = IsPartitionPoint-from_clause (within bound) paths c.partition_point.result c.partition_point.ensures.partitioned (parted paths bound ordered) (λ a r q k. search rules) in
    subst (λ ps. FindsAbove (map string_bytes ps) bound (option_map (λ path. string_bytes path.now) c.get.result)) c.as_slice-paths.ensures.value
    (finds_above paths bound c.partition_point.result c.get.result ordered point c.get.ensures.lookup)
