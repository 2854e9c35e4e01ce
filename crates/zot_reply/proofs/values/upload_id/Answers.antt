use Rattle.std.proofs.Common.{◌∙◌, [], List, Option, ℕ, ap, sym, subst, unwrap_or}
use Rattle.std.specs.Prelude.{IsUtf8}
use Rattle.zot_reply.proofs.TextLemmas.{id_is_text}
use Rattle.zot_reply.proofs.values.upload_id.Goals as goal

pub returns : goal.returns
returns c = λ id is has.
    let value = c.value.ensures ∙ ap (λ (o : Option (List ℕ)). unwrap_or o []) has in
    cc (c.unwrap_or.ensures, c.read.ensures.every id is (c.text_of-text.ensures (subst IsUtf8 (sym value) (id_is_text id)) ∙ value))
