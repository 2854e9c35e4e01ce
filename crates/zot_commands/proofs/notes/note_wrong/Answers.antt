use Rattle.zot_commands.proofs.VerifyLemmas.{wrong_line}
use Rattle.zot_commands.proofs.notes.note_wrong.Goals as goal

pub returns : goal.returns
returns g c = rw (← wrong_line c.as_bytes.result.now c.as_bytes-2.result.now c.args.field.now c.args.found.now c.as_bytes.ensures.value c.as_bytes-2.ensures.value) c.note_texts.ensures
