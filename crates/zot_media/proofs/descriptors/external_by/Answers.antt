use Rattle.std.proofs.Common.{◌∙◌, sym}
use Rattle.zot_media.proofs.DescriptorLemmas.{external_none, external_some}
use Rattle.zot_media.proofs.descriptors.external_by.Goals as goal

pub returns-then-are_texts : goal.returns-then-are_texts
returns-then-are_texts c = external_some c.args.urls.now (sym c.are_texts.ensures ∙ c.if-are_texts.true) _ c.is_empty.ensures

pub returns-else-are_texts : goal.returns-else-are_texts
returns-else-are_texts c = external_none c.args.urls.now (sym c.are_texts.ensures ∙ c.if-are_texts.false)
