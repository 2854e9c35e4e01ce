use Rattle.std.proofs.Common.{All, string_bytes}
use Rattle.zot_folder.specs.Listing.{IsChild}
use Rattle.zot_folder.proofs.entries.paths_of.Given as goal

-- each path so far is that of a file or a folder in the folder
abbrev pub invariant-loop-entry : goal.invariant-loop-entry
invariant-loop-entry g l = All (λ path. IsChild l.folder (string_bytes path)) l.paths.items
