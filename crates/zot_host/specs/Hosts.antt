-- What a host in memory tells.
use Rattle.std.specs.Prelude.{ℕ, ◌+◌, ◌≤◌, List, vec_capacity, vec_len}
use Rattle.zot_fakes.specs.Fakes.{clock_moment, memory_objects}
use Rattle.zot_host.specs.declared.memory_host.MemoryHost.{MemoryHost}
use Rattle.zot_outside.specs.Objects.{Objects}

module _ {S U G : Type 0} where
  -- its files by their paths
  abbrev pub host_files : MemoryHost S U G → Objects
  host_files host = memory_objects host.files

  -- the moment of its clocks
  abbrev pub host_moment : MemoryHost S U G → ℕ
  host_moment host = clock_moment host.clock

  -- the parts that it has still to hand out, and those that it was given back
  abbrev pub host_parts : MemoryHost S U G → List S
  host_parts host = host.parts.items

  abbrev pub host_kept : MemoryHost S U G → List S
  host_kept host = host.kept.items

  -- the upstreams that it has still to hand out
  abbrev pub host_upstreams : MemoryHost S U G → List U
  host_upstreams host = host.upstreams.items

  -- how many calls of it have failed
  abbrev pub host_faults : MemoryHost S U G → ℕ
  host_faults host = host.faults

  -- it has room for so many parts more
  abbrev pub HasHostRoom : MemoryHost S U G → ℕ → Type 0
  HasHostRoom host n = vec_len host.kept + n ≤ vec_capacity host.kept
