-- Who owns a repository: its member and its row, by the hash of its name.
use Rattle.std.specs.Prelude.{ℕ, ◌+◌, ◌*◌, ◌/◌, ◌%◌, ◌≤◌}

-- a cluster has 1 to 8 members
abbrev pub AreMembers : ℕ → Type 0
AreMembers members = (1 ≤ members) × (members ≤ 8)

-- the member that owns a hash, of so many members
abbrev pub owner : ℕ → ℕ → ℕ
owner hash members = hash % members

-- the row of a hash: eight rows a member, in the order of the members
abbrev pub row : ℕ → ℕ → ℕ
row hash members = owner hash members * 8 + hash / members % 8
