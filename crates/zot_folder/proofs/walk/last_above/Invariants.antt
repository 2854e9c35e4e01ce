use Rattle.std.proofs.Common.{◌≡◌, ◌≤◌, false, length, string_bytes}
use Rattle.std.specs.List.{AllWithin}
use Rattle.zot_folder.specs.Listing.{front}
use Rattle.zot_folder.specs.Walks.{is_prefix}
use Rattle.zot_folder.specs.declared.listing.Listing.{Listing}
use Rattle.zot_folder.proofs.walk.last_above.Given as goal

-- the path lies below none of the folders from here on
abbrev pub invariant-loop-at : goal.invariant-loop-at
invariant-loop-at l = (l.at ≤ length l.listings) × AllWithin (λ (listing : Listing). is_prefix (front (string_bytes listing.folder)) l.path ≡ false) l.listings l.at (length l.listings)

abbrev pub decreases-loop-at : goal.decreases-loop-at
decreases-loop-at l = l.at
