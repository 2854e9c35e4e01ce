-- What the sources, sinks, stores and clocks in memory tell.
use Rattle.std.specs.Prelude.{ℕ, ◌+◌, ◌<◌, List, drop, length, vec_capacity}
use Rattle.zot_fakes.specs.Calls.{Count}
use Rattle.zot_fakes.specs.declared.hand_clock.HandClock.{HandClock}
use Rattle.zot_fakes.specs.declared.memory_sink.MemorySink.{MemorySink}
use Rattle.zot_fakes.specs.declared.memory_source.MemorySource.{MemorySource}
use Rattle.zot_fakes.specs.declared.memory_store.MemoryStore.{MemoryStore}
use Rattle.zot_fakes.specs.declared.steady_source.SteadySource.{SteadySource}
use Rattle.zot_fakes.specs.declared.steady_store.SteadyStore.{SteadyStore}
use Rattle.zot_outside.specs.Objects.{Objects}

-- the bytes that are left of a source that never fails
abbrev pub steady_left : SteadySource → List ℕ
steady_left s = drop s.start s.bytes.items

-- of a source that fails by a list: the bytes that are left, how many of them a call gives at most, and its calls
abbrev pub source_left : MemorySource → List ℕ
source_left s = steady_left s.source

abbrev pub source_piece : MemorySource → ℕ
source_piece s = s.piece

abbrev pub source_calls : MemorySource → Count
source_calls s = s.calls

-- of a sink: the bytes that were written, how many of them a call takes at most, and its calls
abbrev pub sink_held : MemorySink → List ℕ
sink_held s = s.bytes.items

abbrev pub sink_piece : MemorySink → ℕ
sink_piece s = s.piece

abbrev pub sink_calls : MemorySink → Count
sink_calls s = s.calls

-- the sink has no room for so many bytes more
abbrev pub IsShortOf : ℕ → MemorySink → Type 0
IsShortOf n s = vec_capacity s.bytes < length s.bytes.items + n

-- the objects of a store that never fails
abbrev pub steady_objects : SteadyStore → Objects
steady_objects s = s.objects

-- of a store that fails by a list: its objects and its calls
abbrev pub memory_objects : MemoryStore → Objects
memory_objects s = steady_objects s.store

abbrev pub memory_calls : MemoryStore → Count
memory_calls s = s.calls

-- the moment of a clock that was set by hand
abbrev pub clock_moment : HandClock → ℕ
clock_moment c = c.moment
