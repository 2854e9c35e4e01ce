use Rattle.std.proofs.Common.{◌∙◌, refl, sym, map, string_bytes}
use Rattle.std.proofs.lemmas.Bool.{true≢false}
use Rattle.zot_commands.proofs.StatusLemmas.{no_read_fault}
use Rattle.zot_commands.proofs.WordLemmas.{pipe_at_waits, pipe_waits, verify_returns}
use Rattle.zot_commands.proofs.running.run_words.Goals as goal

pub returns-then-is_waiting-clause-verify : goal.returns-then-is_waiting-clause-verify
returns-then-is_waiting-clause-verify g c =
    λ path is. absurd (true≢false (sym c.if-is_waiting.true ∙ c.is_waiting.ensures ∙ verify_returns (map string_bytes c.args.words.now) path is))

pub returns-then-is_waiting-clause-words : goal.returns-then-is_waiting-clause-words
returns-then-is_waiting-clause-words g c = λ no_pipe no_verify. c.run_waiting.ensures.words no_pipe

pub returns-else-is_waiting-clause-pipe : goal.returns-else-is_waiting-clause-pipe
returns-else-is_waiting-clause-pipe g c =
    λ is. absurd (true≢false (sym (pipe_waits (map string_bytes c.args.words.now) is) ∙ sym c.is_waiting.ensures ∙ c.if-is_waiting.false))

pub returns-else-is_waiting-clause-pipe_at : goal.returns-else-is_waiting-clause-pipe_at
returns-else-is_waiting-clause-pipe_at g c =
    λ path member are. absurd (true≢false (sym (pipe_at_waits (map string_bytes c.args.words.now) path member are) ∙ sym c.is_waiting.ensures ∙ c.if-is_waiting.false))

pub returns-else-is_waiting-clause-words : goal.returns-else-is_waiting-clause-words
returns-else-is_waiting-clause-words g c = λ no_pipe no_verify. let h = c.run_plain.ensures.words no_verify in (h.0, (h.1.0, refl, h.1.1), h.2)

pub returns-else-is_waiting-clause-causes : goal.returns-else-is_waiting-clause-causes
returns-else-is_waiting-clause-causes g c = record {
  read = record { rose = λ t. absurd (no_read_fault c.run_plain.result.code c.run_plain.ensures.status t); kept = λ f. refl };
  write = c.run_plain.ensures.causes.write;
}

pub returns-else-is_waiting-clause-host : goal.returns-else-is_waiting-clause-host
returns-else-is_waiting-clause-host g c = c.run_plain.ensures.causes.read
