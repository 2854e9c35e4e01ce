use Rattle.std.proofs.Common.{rules, ap, map, string_bytes}
use Rattle.zot_folder.proofs.ListingLemmas.{lists_nothing}
use Rattle.zot_folder.proofs.listing.Listing.read.Goals as goal

pub returns-clause-lists : goal.returns-clause-lists
returns-clause-lists g c = lists_nothing (g.T.Tree.files c.args.tree.now) c.args.folder.now (map string_bytes c.new.result.items) (map string_bytes c.in_ok-of-2.field-0.paths.items) (ap (map string_bytes) c.new.ensures.items) (search rules) (search rules) c.in_ok-of-2.ensures.lists
