use Rattle.std.proofs.Common.{◌∙◌, [], List, Option, ℕ, sym, ap, subst, unwrap_or}
use Rattle.std.specs.Prelude.{IsUtf8}
use Rattle.zot_media.proofs.MediaLemmas.{named_text}
use Rattle.zot_media.specs.declared.media.Media.TheVariants.{Image}
use Rattle.zot_media.specs.Media.{media_named}
use Rattle.zot_reply.proofs.TextLemmas.{media_is_text}
use Rattle.zot_reply.proofs.values.content_media.Goals as goal

pub returns : goal.returns
returns c = λ media is has.
    let value = c.value.ensures ∙ ap (λ (o : Option (List ℕ)). unwrap_or o []) has in
    let named = ap media_named (c.text_of-text.ensures (subst IsUtf8 (sym value) (media_is_text media)) ∙ value) ∙ named_text media in
    sym (c.unwrap_or.ensures ∙ ap (λ found. unwrap_or found Image) (c.media_of.ensures ∙ named))
