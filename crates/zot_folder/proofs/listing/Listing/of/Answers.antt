use Rattle.std.proofs.Common.{All, IsSorted, string_bytes, string_cmp, sym, subst, ◌∙◌, map}
use Rattle.std.proofs.lemmas.List.Sorted.{All-permutation}
use Rattle.zot_folder.proofs.FolderLemmas.{written_over}
use Rattle.zot_folder.proofs.ListingLemmas.{sorted_lists}
use Rattle.zot_folder.specs.Walks.{IsListing}
use Rattle.zot_folder.specs.Listing.{IsChild}
use Rattle.zot_folder.proofs.listing.Listing.of.Goals as goal

pub invariant_of-result : goal.invariant_of-result
invariant_of-result c =
    let same = written_over c.sort_unstable.new.self c.args.paths.items c.args.paths.len (c.sort_unstable.ensures.len ∙ c.as_mut_slice.ensures.len) in
    record { ordered = subst (λ ps. IsSorted string_cmp ps) (sym same) c.sort_unstable.ensures.sorted }

pub returns-clause-paths : goal.returns-clause-paths
returns-clause-paths c = λ children.
    let folder = c.args.folder.now in
    let same = written_over c.sort_unstable.new.self c.args.paths.items c.args.paths.len (c.sort_unstable.ensures.len ∙ c.as_mut_slice.ensures.len) in
    let taken : All (λ path. IsChild folder (string_bytes path)) c.as_mut_slice.result.now = subst (λ ps. All (λ path. IsChild folder (string_bytes path)) ps) (sym c.as_mut_slice.ensures.value) children in
    subst (λ ps. All (λ path. IsChild folder (string_bytes path)) ps) (sym same) (All-permutation (λ path. IsChild folder (string_bytes path)) _ _ c.sort_unstable.ensures.permutation taken)

pub returns-clause-lists : goal.returns-clause-lists
returns-clause-lists c = λ objects lists.
    let same = written_over c.sort_unstable.new.self c.args.paths.items c.args.paths.len (c.sort_unstable.ensures.len ∙ c.as_mut_slice.ensures.len) in
    subst (λ ps. IsListing objects c.args.folder.now (map string_bytes ps)) (sym same)
    (sorted_lists objects c.args.folder.now c.args.paths.items c.as_mut_slice.result.now c.sort_unstable.new.self c.as_mut_slice.ensures.value c.sort_unstable.ensures.permutation lists)
