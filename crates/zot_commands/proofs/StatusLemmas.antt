-- Which statuses the commands have.
use Rattle.std.proofs.Common.{◌≡◌, ℕ, inl, inr, refl, ap, ◌∙◌, sym}
use Rattle.zot_commands.specs.PipeEndings.{pipe_status}
use Rattle.zot_commands.specs.Program.{IsStatusOf, exit_status}
use Rattle.zot_commands.specs.Verify.{ending_status}
use Rattle.zot_commands.specs.declared.ending.Ending.{Ending}
use Rattle.zot_commands.specs.declared.ending.Ending.TheVariants as endings
use Rattle.zot_commands.specs.declared.pipe_ending.PipeEnding.{PipeEnding}
use Rattle.zot_commands.specs.declared.pipe_ending.PipeEnding.TheVariants as pipes
use Rattle.zot_session.proofs.CauseLemmas.{causes_map}
use Rattle.zot_session.specs.Causes.{Causes, Counts}
use Rattle.zot_session.specs.declared.end.End.{End}
use Rattle.zot_session.specs.declared.end.End.TheVariants as ends

no_ending : (ending : Ending) → ¬ (ending_status ending ≡ 5)
no_ending endings.Done h = cc h
no_ending endings.WriteFault h = cc h
no_ending endings.NoMemory h = cc h
no_ending (endings.Wrong field found) h = cc h
no_ending endings.HostFault h = cc h
no_ending endings.Missing h = cc h

-- no command that reads a configuration has the status of a read fault
pub no_read_fault : (code : ℕ) → IsStatusOf ending_status code → ¬ (code ≡ 5)
no_read_fault code (inl words) h = cc (words, h)
no_read_fault code (inr ending) h = no_ending ending.0 (cc (ending.1, h))

host_fault : (ending : Ending) → ending_status ending ≡ 12 → ending ≡ endings.HostFault
host_fault endings.Done h = cc h
host_fault endings.WriteFault h = cc h
host_fault endings.NoMemory h = cc h
host_fault (endings.Wrong field found) h = cc h
host_fault endings.HostFault h = refl
host_fault endings.Missing h = cc h

write_fault : (ending : Ending) → ending_status ending ≡ 6 → ending ≡ endings.WriteFault
write_fault endings.Done h = cc h
write_fault endings.WriteFault h = refl
write_fault endings.NoMemory h = cc h
write_fault (endings.Wrong field found) h = cc h
write_fault endings.HostFault h = cc h
write_fault endings.Missing h = cc h

-- the causes of the statuses are those of the endings
pub causes_by : (ending : Ending) (code host host' output output' : ℕ) → code ≡ ending_status ending → Causes (ending ≡ endings.HostFault) (ending ≡ endings.WriteFault) host host' output output'
    → Causes (code ≡ 12) (code ≡ 6) host host' output output'
causes_by ending code host host' output output' is h = record {
  read = record { rose = λ t. h.read.rose (host_fault ending (sym is ∙ t)); kept = λ f. h.read.kept (λ e. f (is ∙ ap ending_status e)) };
  write = record { rose = λ t. h.write.rose (write_fault ending (sym is ∙ t)); kept = λ f. h.write.kept (λ e. f (is ∙ ap ending_status e)) };
}

-- ---- `pipe`

read_end : (end : End) → exit_status end ≡ 5 → end ≡ ends.ReadFault
read_end ends.Closed h = cc h
read_end (ends.Refused status) h = cc h
read_end (ends.Torn n) h = cc h
read_end ends.ReadFault h = refl
read_end ends.WriteFault h = cc h
read_end ends.Budget h = cc h
read_end ends.NoMemory h = cc h

write_end : (end : End) → exit_status end ≡ 6 → end ≡ ends.WriteFault
write_end ends.Closed h = cc h
write_end (ends.Refused status) h = cc h
write_end (ends.Torn n) h = cc h
write_end ends.ReadFault h = cc h
write_end ends.WriteFault h = refl
write_end ends.Budget h = cc h
write_end ends.NoMemory h = cc h

no_end : (end : End) → ¬ (exit_status end ≡ 12)
no_end ends.Closed h = cc h
no_end (ends.Refused status) h = cc h
no_end (ends.Torn n) h = cc h
no_end ends.ReadFault h = cc h
no_end ends.WriteFault h = cc h
no_end ends.Budget h = cc h
no_end ends.NoMemory h = cc h

read_ending : (ending : PipeEnding) → pipe_status ending ≡ 5 → ending ≡ pipes.Served ends.ReadFault
read_ending (pipes.Served end) h = ap pipes.Served (read_end end h)
read_ending (pipes.Wrong field found) h = cc h
read_ending pipes.Missing h = cc h
read_ending pipes.OutOfRange h = cc h
read_ending pipes.HostFault h = cc h
read_ending (pipes.BadIndex at) h = cc h
read_ending (pipes.BadMeta at) h = cc h
read_ending pipes.StorageFault h = cc h
read_ending pipes.NoMemory h = cc h

write_ending : (ending : PipeEnding) → pipe_status ending ≡ 6 → ending ≡ pipes.Served ends.WriteFault
write_ending (pipes.Served end) h = ap pipes.Served (write_end end h)
write_ending (pipes.Wrong field found) h = cc h
write_ending pipes.Missing h = cc h
write_ending pipes.OutOfRange h = cc h
write_ending pipes.HostFault h = cc h
write_ending (pipes.BadIndex at) h = cc h
write_ending (pipes.BadMeta at) h = cc h
write_ending pipes.StorageFault h = cc h
write_ending pipes.NoMemory h = cc h

host_ending : (ending : PipeEnding) → pipe_status ending ≡ 12 → ending ≡ pipes.HostFault
host_ending (pipes.Served end) h = absurd (no_end end h)
host_ending (pipes.Wrong field found) h = cc h
host_ending pipes.Missing h = cc h
host_ending pipes.OutOfRange h = cc h
host_ending pipes.HostFault h = refl
host_ending (pipes.BadIndex at) h = cc h
host_ending (pipes.BadMeta at) h = cc h
host_ending pipes.StorageFault h = cc h
host_ending pipes.NoMemory h = cc h

-- the causes of the statuses are those of the ends
pub end_causes : (end : End) (code input input' output output' : ℕ) → code ≡ exit_status end → Causes (end ≡ ends.ReadFault) (end ≡ ends.WriteFault) input input' output output' → Causes (code ≡ 5) (code ≡ 6) input input' output output'
end_causes end code input input' output output' is h =
    causes_map refl refl (λ t. read_end end (sym is ∙ t)) (λ e. is ∙ ap exit_status e) (λ t. write_end end (sym is ∙ t)) (λ e. is ∙ ap exit_status e) h

-- and those of the endings
pub pipe_causes : (ending : PipeEnding) (code input input' output output' : ℕ) → code ≡ pipe_status ending
    → Causes (ending ≡ pipes.Served ends.ReadFault) (ending ≡ pipes.Served ends.WriteFault) input input' output output' → Causes (code ≡ 5) (code ≡ 6) input input' output output'
pipe_causes ending code input input' output output' is h =
    causes_map refl refl (λ t. read_ending ending (sym is ∙ t)) (λ e. is ∙ ap pipe_status e) (λ t. write_ending ending (sym is ∙ t)) (λ e. is ∙ ap pipe_status e) h

pub host_counts : (ending : PipeEnding) (code before after : ℕ) → code ≡ pipe_status ending → Counts (ending ≡ pipes.HostFault) before after → Counts (code ≡ 12) before after
host_counts ending code before after is h = record { rose = λ t. h.rose (host_ending ending (sym is ∙ t)); kept = λ f. h.kept (λ e. f (is ∙ ap pipe_status e)) }

-- no end of a connection has the status of a fault of the host
pub no_host_fault : (end : End) (code before after : ℕ) → code ≡ exit_status end → after ≡ before → Counts (code ≡ 12) before after
no_host_fault end code before after is same = record { rose = λ t. absurd (no_end end (sym is ∙ t)); kept = λ f. same }
