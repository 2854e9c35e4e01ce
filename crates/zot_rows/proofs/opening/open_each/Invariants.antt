use Rattle.std.proofs.Common.{◌≡◌, ◌≤◌, drop, take}
use Rattle.std.specs.Vec.{vec_capacity}
use Rattle.zot_rows.specs.Listing.{lists_of, rows_of}
use Rattle.zot_rows.specs.Opening.{AreOpenedOver}
use Rattle.zot_rows.proofs.opening.open_each.Given as goal

-- the rows over the first parts are opened, and the other parts and lists are left
abbrev pub invariant-loop-row : goal.invariant-loop-row
invariant-loop-row g l = record {
  opened : AreOpenedOver l.config l.moment (lists_of l.fn.lists.items) 0 (take l.row l.initial.parts.items) l.rows.items;
  parts : l.parts.items ≡ drop l.row l.initial.parts.items;
  lists : l.lists.items ≡ drop l.row l.fn.lists.items;
  capacity : vec_capacity l.initial.parts ≤ vec_capacity l.parts;
  room : rows_of l.config.members ≤ vec_capacity l.rows;
}
