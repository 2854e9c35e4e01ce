use Rattle.std.proofs.Common.{◌∙◌, Some, ap, subst, sym}
use Rattle.zot_links.proofs.LineLemmas.{on_ok}
use Rattle.zot_links.specs.Records.{AreLines}
use Rattle.zot_links.proofs.part.text_of.Goals as goal

pub returns : goal.returns
returns c =
    let same = c.as_slice.ensures.value in
    on_ok c.record_text.result _ _ (λ text h. (c.in_ok-lines.lines.items, h (subst AreLines (sym same) c.in_ok-lines.ensures.lines) ∙ ap Some same, c.in_ok-lines.ensures.all)) c.record_text.ensures.comes_back
