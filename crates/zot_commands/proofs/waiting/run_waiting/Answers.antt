use Rattle.std.proofs.Common.{◌≡◌, inr, map, string_bytes}
use Rattle.zot_commands.proofs.StorageLemmas.{runs_pipe_at}
use Rattle.zot_commands.proofs.WordLemmas.{not_alone}
use Rattle.zot_commands.proofs.waiting.run_waiting.Goals as goal
use Rattle.zot_commands.specs.Program.{Notes}
use Rattle.zot_commands.specs.Storage.{seen}
use Rattle.zot_commands.specs.declared.pipe_ending.PipeEnding.TheVariants as endings

pub returns-then-is_pipe-clause-pipe_at : goal.returns-then-is_pipe-clause-pipe_at
returns-then-is_pipe-clause-pipe_at g c = λ path member at. absurd (not_alone (map string_bytes c.args.words.now) path member (c.is_pipe.ensures.0 c.if-is_pipe.true) at)

pub returns-then-is_pipe-clause-status : goal.returns-then-is_pipe-clause-status
returns-then-is_pipe-clause-status g c = inr (endings.Served c.pipe_in_memory-end.result, c.exit_status.ensures)

pub returns-in-Some-clause-pipe_at : goal.returns-in-Some-clause-pipe_at
returns-in-Some-clause-pipe_at g c =
    runs_pipe_at g.H.S.Store (map string_bytes c.args.words.now) (g.H.Host.files c.args.host.now) (g.H.Host.moment c.args.host.now) c.pipe_status.result
    (seen (g.H.Host.parts c.args.host.now) (g.H.Host.kept c.args.host.now) (g.C.Source.left c.args.input.now) (g.K.Sink.held c.args.output.now))
    (seen (g.H.Host.parts c.pipe_at-ending.new.host) (g.H.Host.kept c.pipe_at-ending.new.host) (g.C.Source.left c.pipe_at-ending.new.input) (g.K.Sink.held c.pipe_at-ending.new.output))
    (c.pipe_at-ending.new.input ≡ c.args.input.now × c.pipe_at-ending.new.output ≡ c.args.output.now)
    (λ line. Notes line (g.N.Sink.held c.args.notes.now) (g.N.Sink.held c.note_pipe.new.notes) (g.N.Sink.faults c.args.notes.now) (g.N.Sink.faults c.note_pipe.new.notes))
    c.in-Some.place.0.now c.in-Some.place.1 c.pipe_at-ending.result c.in-Some.ensures c.pipe_at-ending.ensures.ends c.pipe_status.ensures c.note_pipe.ensures

pub returns-in-None-clause-pipe_at : goal.returns-in-None-clause-pipe_at
returns-in-None-clause-pipe_at g c = λ path member at. absurd (c.in-None.ensures path member at)
