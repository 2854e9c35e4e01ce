-- What a call says of the counts of faults of what it reads from and of what it writes to.
use Rattle.std.specs.Prelude.{◌≡◌, ℕ}
use Rattle.zot_outside.specs.Faults.{Rose}

-- a count rose where this failed, and stayed where it didn't
pub record Counts (failed : Type 0) (before after : ℕ) : Type 0 where
  pub rose : failed → Rose before after
  pub kept : ¬ failed → after ≡ before

-- the source's count and the sink's, by whether a read and whether a write failed
pub record Causes (read_failed write_failed : Type 0) (reads reads' writes writes' : ℕ) : Type 0 where
  pub read : Counts read_failed reads reads'
  pub write : Counts write_failed writes writes'
