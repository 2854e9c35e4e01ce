use Rattle.std.proofs.Common.{length, refl, sym, ap, ◌∙◌}
use Rattle.serde_json.specs.View.{items_view}
use Rattle.zot_config.specs.Forms.{if_so}
use Rattle.zot_config.proofs.WalkLemmas.{counted_is}
use Rattle.zot_config.proofs.forms.counted.Goals as goal

pub returns-then-is_count : goal.returns-then-is_count
returns-then-is_count c =
    let xs = c.args.items.now in
    sym (counted_is xs (length xs) c.is_count.result refl c.is_count.ensures ∙ ap (λ b. if_so b (items_view xs)) c.if-is_count.true)

pub returns-else-is_count : goal.returns-else-is_count
returns-else-is_count c =
    let xs = c.args.items.now in
    sym (counted_is xs (length xs) c.is_count.result refl c.is_count.ensures ∙ ap (λ b. if_so b (items_view xs)) c.if-is_count.false)
