-- Walks through the paths of a store.
use Rattle.std.specs.Prelude.{ℕ, ◌+◌, ◌<◌, ◌^◌, List, length, Option, IfSome, string_bytes}
use Rattle.zot_outside.specs.Objects.{Objects, paths_after}
use Rattle.zot_outside.specs.declared.stores.path_walk.PathWalk.{PathWalk}

-- the path that a walk found last
abbrev pub last_path : PathWalk → List ℕ
last_path walk = string_bytes walk.last

-- the paths that a walk has asked for and those that are left are fewer than 2^63, where the objects are told
abbrev pub HasRoom : Option Objects → PathWalk → Type 0
HasRoom objects walk = IfSome objects (λ told. walk.asked + length (paths_after told (last_path walk)) < 2 ^ 63)
