use Rattle.std.proofs.Common.{◌∙◌, Err, Some, sym, ap, subst}
use Rattle.std.specs.Prelude.{IsUtf8}
use Rattle.zot_names.specs.Tag.{IsTag}
use Rattle.zot_reply.proofs.TextLemmas.{tag_is_text}
use Rattle.zot_reply.proofs.pages.tag_of.Goals as goal

pub returns-in-Ok : goal.returns-in-Ok
returns-in-Ok c = λ tag is e. ap Some (c.in-Ok.ensures.read ∙ c.text_of.ensures (subst IsUtf8 (sym e) (tag_is_text tag is)) ∙ e)

pub returns-in-Err-Bad : goal.returns-in-Err-Bad
returns-in-Err-Bad c = λ tag is e.
    absurd (c.read.ensures.bad.0 (c.in-Err-Bad.is ∙ ap Err c.in-Err-Bad.field-0-is) (subst IsTag (sym (c.text_of.ensures (subst IsUtf8 (sym e) (tag_is_text tag is)) ∙ e)) is))
