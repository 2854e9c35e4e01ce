use Rattle.std.proofs.lemmas.Bool.{false≢true}
use Rattle.zot_media.proofs.FieldLemmas.{document_none, document_some}
use Rattle.zot_media.proofs.fields.read_document.Goals as goal

pub returns-in-Ok-clause-read : goal.returns-in-Ok-clause-read
returns-in-Ok-clause-read c = document_some _ _ c.in-Ok.ensures.ok.0 c.in-Ok.ensures.ok.1

pub returns-else-is_memory-clause-bad : goal.returns-else-is_memory-clause-bad
returns-else-is_memory-clause-bad c = λ _. document_none _ (c.in-Err.ensures.err (λ memory. false≢true (c.if-is_memory.ensures.1 memory)))
