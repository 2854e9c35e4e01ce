-- How `pipe` ends over the configured storage: its exit status and its note, and the endings for calls that have no result.
use Rattle.std.specs.Prelude.{ℕ, List, [], ◌∷◌, None, codes}
use Rattle.std.specs.List.{concat}
use Rattle.zot_commands.specs.Program.{config_line, exit_status, host_fault_line, line, line_of, missing_line, no_memory_line, words_line, words_status}
use Rattle.zot_commands.specs.declared.pipe_ending.PipeEnding.{PipeEnding}
use Rattle.zot_commands.specs.declared.pipe_ending.PipeEnding.TheVariants as endings
use Rattle.zot_host.specs.declared.host_error.HostError.{HostError}
use Rattle.zot_host.specs.declared.host_error.HostError.TheVariants as hosts
use Rattle.zot_rows.specs.declared.rows_open_error.RowsOpenError.{RowsOpenError}
use Rattle.zot_rows.specs.declared.rows_open_error.RowsOpenError.TheVariants as errors

-- the exit status for an ending
abbrev pub pipe_status : PipeEnding → ℕ
pipe_status (endings.Served end) = exit_status end
pipe_status (endings.Wrong field found) = 9
pipe_status endings.Missing = 14
pipe_status endings.OutOfRange = words_status
pipe_status endings.HostFault = 12
pipe_status (endings.BadIndex at) = 10
pipe_status (endings.BadMeta at) = 10
pipe_status endings.StorageFault = 11
pipe_status endings.NoMemory = 8

-- the line for an object at this path whose bytes have no meaning, where an index or where a record is wanted
unfoldable pub bad_index_line : List ℕ → List ℕ
bad_index_line at = concat (codes "zotd: bad index " ∷ at ∷ codes "\n" ∷ [])

unfoldable pub bad_meta_line : List ℕ → List ℕ
bad_meta_line at = concat (codes "zotd: bad meta " ∷ at ∷ codes "\n" ∷ [])

-- the line for storage that failed
unfoldable pub storage_fault_line : List ℕ
storage_fault_line = line (codes "zotd: storage fault") None

-- the line for an ending, if it has one; the path is that of the configuration
abbrev pub pipe_line : List ℕ → PipeEnding → List ℕ
pipe_line path (endings.Served end) = line_of end
pipe_line path (endings.Wrong field found) = config_line field found
pipe_line path endings.Missing = missing_line path
pipe_line path endings.OutOfRange = words_line
pipe_line path endings.HostFault = host_fault_line
pipe_line path (endings.BadIndex at) = bad_index_line at
pipe_line path (endings.BadMeta at) = bad_meta_line at
pipe_line path endings.StorageFault = storage_fault_line
pipe_line path endings.NoMemory = no_memory_line

-- the ending for a call of the host that has no result
abbrev pub declined_ending : HostError → PipeEnding
declined_ending hosts.Missing = endings.Missing
declined_ending hosts.Failed = endings.HostFault
declined_ending hosts.NoMemory = endings.NoMemory

-- the ending for storage that isn't opened
abbrev pub unopened_ending : RowsOpenError → PipeEnding
unopened_ending (errors.BadIndex path text) = endings.BadIndex path
unopened_ending (errors.BadMeta path text) = endings.BadMeta path
unopened_ending (errors.RowFault number) = endings.StorageFault
unopened_ending (errors.ShardFault number) = endings.StorageFault
unopened_ending errors.NoMemory = endings.NoMemory
