-- What a step of a walk came to.
use Rattle.std.specs.Prelude.{◌≡◌, ◌≢◌, ◌⊎◌, ℕ, List, [], ◌∷◌, ◌++◌, IfSome, Option, Some, None, option_map, string_bytes}
use Rattle.zot_folder.specs.declared.spot.Spot.{Spot}
use Rattle.zot_folder.specs.declared.spot.Step.{Step}
use Rattle.zot_folder.specs.declared.spot.Step.TheVariants.{End, Folder, Unread}
use Rattle.zot_folder.specs.Listing.{IsFileAbove, IsFilePath}
use Rattle.zot_folder.specs.Walks.{IsFolderOf, Searches}
use Rattle.zot_outside.specs.Objects.{Follows, Objects, path_cmp}
use Rattle.std.specs.declared.cmp.Ordering.TheVariants.{Less}

-- a search takes the least path behind its bound: a file is the end, a folder is entered, and a folder that has no more is left
abbrev pub IsStep : Option (List ℕ) → Spot → Step → Spot → Type 0
IsStep (Some path) spot (End found) after = IsFilePath path × (option_map string_bytes found ≡ Some path)
IsStep (Some path) spot Folder after = (path ≡ string_bytes after.folder ++ 47 ∷ []) × (string_bytes after.bound ≡ path)
IsStep (Some path) spot Unread after = ⊥
IsStep None spot (End found) after = (string_bytes spot.folder ≡ []) × (option_map string_bytes found ≡ None)
IsStep None spot Folder after = (string_bytes spot.folder ≢ []) × IsFolderOf (string_bytes spot.folder) (string_bytes after.folder) × (string_bytes after.bound ≡ string_bytes spot.bound)
IsStep None spot Unread after = ⊥

-- a search goes on from a spot, or has come to the next path
abbrev pub Leads : Objects → List ℕ → Step → Spot → Type 0
Leads objects since (End found) spot = Follows (Some objects) since (option_map string_bytes found)
Leads objects since Folder spot = Searches objects since (string_bytes spot.folder) (string_bytes spot.bound)
Leads objects since Unread spot = Searches objects since (string_bytes spot.folder) (string_bytes spot.bound)

-- a search only goes on to greater paths, and a file that it ends with is greater than its bound
abbrev pub IsStepAbove : Spot → Step → Spot → Type 0
IsStepAbove spot (End found) after = IfSome (option_map string_bytes found) (IsFileAbove (string_bytes spot.bound))
IsStepAbove spot Folder after = (string_bytes after.bound ≡ string_bytes spot.bound) ⊎ (path_cmp (string_bytes spot.bound) (string_bytes after.bound) ≡ Less)
IsStepAbove spot Unread after = string_bytes after.bound ≡ string_bytes spot.bound
