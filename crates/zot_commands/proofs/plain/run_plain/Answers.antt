use Rattle.std.proofs.Common.{inr, map, string_bytes, ◌≡◌}
use Rattle.zot_commands.proofs.StatusLemmas.{causes_by}
use Rattle.zot_commands.proofs.VerifyLemmas.{runs_verify}
use Rattle.zot_commands.proofs.plain.run_plain.Goals as goal
use Rattle.zot_commands.specs.Program.{Notes}
use Rattle.zot_outside.specs.Streams.{Appends}
use Rattle.zot_session.specs.Sending.{WritesPart}

pub returns-in-Some-clause-verify : goal.returns-in-Some-clause-verify
returns-in-Some-clause-verify g c =
    runs_verify (map string_bytes c.args.words.now) (g.H.Host.files c.args.host.now) c.ending_status.result (λ line. Appends (g.K.Sink.held c.args.output.now) line (g.K.Sink.held c.verify-ending.new.output))
    (λ line. WritesPart (g.K.Sink.held c.args.output.now) line (g.K.Sink.held c.verify-ending.new.output)) (c.verify-ending.new.output ≡ c.args.output.now)
    (λ line. Notes line (g.N.Sink.held c.args.notes.now) (g.N.Sink.held c.note_ending.new.notes) (g.N.Sink.faults c.args.notes.now) (g.N.Sink.faults c.note_ending.new.notes))
    c.in-Some.path.now c.verify-ending.result c.in-Some.ensures c.verify-ending.ensures.ends c.ending_status.ensures c.note_ending.ensures

pub returns-in-Some-clause-words : goal.returns-in-Some-clause-words
returns-in-Some-clause-words g c = λ others. absurd (others c.in-Some.path.now c.in-Some.ensures)

pub returns-in-Some-clause-status : goal.returns-in-Some-clause-status
returns-in-Some-clause-status g c = inr (c.verify-ending.result, c.ending_status.ensures)

pub returns-in-Some-clause-causes : goal.returns-in-Some-clause-causes
returns-in-Some-clause-causes g c = causes_by c.verify-ending.result c.ending_status.result _ _ _ _ c.ending_status.ensures c.verify-ending.ensures.causes

pub returns-in-None-clause-verify : goal.returns-in-None-clause-verify
returns-in-None-clause-verify g c = λ path is. absurd (c.in-None.ensures path is)
