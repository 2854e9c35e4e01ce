use Rattle.std.proofs.Common.{◌∙◌, refl, ap, drop, map, string_bytes}
use Rattle.zot_commands.proofs.WordLemmas.{false_unless}
use Rattle.zot_commands.proofs.running.run_given.Goals as goal

pub returns-in-Ok-clause-pipe : goal.returns-in-Ok-clause-pipe
returns-in-Ok-clause-pipe g c =
    let same = ap (λ words. map string_bytes words) (c.after_name.ensures ∙ ap (λ words. drop 1 words) c.as_slice.ensures.value) in
    rw (c.in-Ok.is, ← same) c.run_words.ensures.pipe

pub returns-in-Ok-clause-pipe_at : goal.returns-in-Ok-clause-pipe_at
returns-in-Ok-clause-pipe_at g c =
    let same = ap (λ words. map string_bytes words) (c.after_name.ensures ∙ ap (λ words. drop 1 words) c.as_slice.ensures.value) in
    rw (c.in-Ok.is, ← same) c.run_words.ensures.pipe_at

pub returns-in-Ok-clause-verify : goal.returns-in-Ok-clause-verify
returns-in-Ok-clause-verify g c =
    let same = ap (λ words. map string_bytes words) (c.after_name.ensures ∙ ap (λ words. drop 1 words) c.as_slice.ensures.value) in
    rw (c.in-Ok.is, ← same) c.run_words.ensures.verify

pub returns-in-Ok-clause-words : goal.returns-in-Ok-clause-words
returns-in-Ok-clause-words g c =
    let same = ap (λ words. map string_bytes words) (c.after_name.ensures ∙ ap (λ words. drop 1 words) c.as_slice.ensures.value) in
    rw (c.in-Ok.is, ← same) c.run_words.ensures.words

pub returns-in-Err-clause-unread : goal.returns-in-Err-clause-unread
returns-in-Err-clause-unread g c =
    rw c.in-Err.is (record {
      memory = λ is. c.run_unread.ensures.memory (c.is_out_of_memory.ensures.1 is);
      text = λ other. c.run_unread.ensures.text (false_unless c.is_out_of_memory.result (λ is. other (c.is_out_of_memory.ensures.0 is)));
      untouched = (refl, refl, refl);
    })
