use Rattle.std.proofs.Common.{◌≡◌, ◌++◌, map}
use Rattle.std.specs.List.{filter}
use Rattle.zot_table.specs.Tables.{entry_at, is_unread}
use Rattle.zot_table.proofs.reading.unread_among.Given as goal

-- the digests so far, with those that are left, are all
abbrev pub invariant-loop-digest : goal.invariant-loop-digest
invariant-loop-digest l =
    map (λ e. e.0) (filter (λ e. is_unread (entry_at l.blobs e.0)) l.tree.entries) ≡ l.list.items ++ map (λ e. e.0) (filter (λ e. is_unread (entry_at l.blobs e.0)) l.digest-iterator)
