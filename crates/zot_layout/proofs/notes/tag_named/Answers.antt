use Rattle.zot_layout.proofs.TagLemmas.{named_none, named_some}
use Rattle.zot_layout.proofs.notes.tag_named.Goals as goal

pub returns-in-Ok : goal.returns-in-Ok
returns-in-Ok c = named_some c.args.text.now c.in-Ok.tag c.in-Ok.ensures.tag c.in-Ok.ensures.read

pub returns-in-Err-Bad : goal.returns-in-Err-Bad
returns-in-Err-Bad c = named_none c.args.text.now (c.read.ensures.bad.0 cc)
