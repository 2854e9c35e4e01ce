use Rattle.zot_commands.proofs.VerifyLemmas.{missing_path_line}
use Rattle.zot_commands.proofs.notes.note_missing.Goals as goal

pub returns : goal.returns
returns g c = rw (← missing_path_line c.args.path.now c.as_bytes.result.now c.as_bytes.ensures.value) c.note_texts.ensures
