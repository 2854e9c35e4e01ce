use Rattle.std.proofs.Common.{◌≡◌, ◌∙◌, None, Some, sym, ap}
use Rattle.zot_links.proofs.LineLemmas.{on_ok}
use Rattle.zot_links.proofs.RecordLemmas.{reads_again, record_is}
use Rattle.zot_links.specs.Records.{record_of}
use Rattle.zot_links.proofs.reading.read_record.Goals as goal

pub returns-clause-text : goal.returns-clause-text
returns-clause-text c = on_ok c.read_text.result _ _ (λ lines h. (record_is c.args.bytes.now lines.items h).0) c.read_text.ensures.read

pub returns-clause-lines : goal.returns-clause-lines
returns-clause-lines c = on_ok c.read_text.result _ _ (λ lines h. (record_is c.args.bytes.now lines.items h).1) c.read_text.ensures.read

pub returns-clause-no_text : goal.returns-clause-no_text
returns-clause-no_text c = λ bad lines are is. none_some (sym (c.read_text.ensures.bad bad) ∙ ap record_of is ∙ reads_again lines are) where
  none_some : {X : Type 0} {x : X} → None ≡ Some x → ⊥
  none_some h = cc h
