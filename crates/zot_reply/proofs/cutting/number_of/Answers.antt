use Rattle.std.proofs.Common.{◌≡◌, ◌∙◌, subst, sym}
use Rattle.std.specs.Fmt.{decimal}
use Rattle.std.specs.Prelude.{IsUtf8}
use Rattle.std.proofs.lemmas.Fmt.{IsAscii-decimal, parse-decimal}
use Rattle.std.proofs.lemmas.Str.{IsUtf8-from_ascii}
use Rattle.zot_reply.proofs.cutting.number_of.Goals as goal

pub returns : goal.returns
returns c = λ n small e.
    let text : c.text_of.result.now ≡ decimal n = c.text_of.ensures (subst IsUtf8 (sym e) (IsUtf8-from_ascii _ (IsAscii-decimal n small))) ∙ e in
    cc (c.unwrap_or.ensures, parse-decimal 64 n c.text_of.result.now c.parse.result small small text c.parse.ensures.value.0)
