use Rattle.std.proofs.Common.{string_bytes, ◌∙◌}
use Rattle.zot_spell.proofs.RequestLemmas.{line_made}
use Rattle.zot_spell.proofs.request.request_line.Goals as goal

pub returns : goal.returns
returns c =
    line_made string_bytes c.args.request.now _ _ _ _ _ c.method_of-method.ensures c.name_of-name.ensures.value
    (c.as_str.ensures.value ∙ c.in_ok-path.ensures) (c.as_str-2.ensures.value ∙ c.in_ok-query.ensures) c.concat.ensures.ok
