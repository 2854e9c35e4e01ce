use Rattle.std.proofs.Common.{rules, ◌+◌, List, length, string_bytes, subst, sym}
use Rattle.std.specs.List.{AllWithin}
use Rattle.zot_folder.proofs.HeldLemmas.{Shown, within_first}
use Rattle.zot_folder.specs.declared.listing.Listing.{Listing}
use Rattle.zot_folder.proofs.walk.Walk.held.Goals as goal

pub returns-clause-walk : goal.returns-clause-walk
returns-clause-walk c = λ objects walk.
    let self = c.args.self.now in
    let P = Shown objects (string_bytes self.since) in
    subst (λ (xs : List Listing). AllWithin P xs self.stale (length xs)) (sym c.truncate-2.ensures.items) (within_first P self.listings.items self.stale (c.in-Some.at + 1) (search rules) walk)
