use Rattle.std.proofs.Common.{◌≡◌, ◌++◌, map as each, string_bytes}
use Rattle.zot_fakes.proofs.object_map.list.Given as goal

-- the objects so far, and then those that are left, are all
abbrev pub invariant-loop-path : goal.invariant-loop-path
invariant-loop-path l = each (λ o. (string_bytes o.0, o.1.items)) l.list.items ++ l.path-iterator ≡ l.tree.entries
