use Rattle.std.proofs.Common.{◌≡◌, ◌∷◌, ◌++◌, ◌+◌, ◌<◌, length, drop, get_or, ap, sym, ◌∙◌, rules}
use Rattle.std.specs.String.{string_bytes}
use Rattle.std.proofs.lemmas.List.{at_drop_more, at_drop_all}
use Rattle.zot_route.proofs.NameLemmas.{join_first, join_last, join_next}
use Rattle.zot_route.proofs.name.joined.Goals as goal

pub loop-segment-init : goal.loop-segment-init
loop-segment-init c =
    join_first c.args.segments.now c.in-Some.more.now c.in-Some.first.now _ _ c.in-Some.ensures.cases.0 c.new-text.ensures.bytes
    (c.in_ok-push_str.ensures.bytes ∙ ap (λ t. string_bytes c.new-text.result ++ t) c.as_str.ensures)

pub loop-segment-preserved : goal.loop-segment-preserved
loop-segment-preserved c =
    let within : c.loop-segment.segment-index < length c.in-Some.more.now = search rules in
    let same : c.segment-item.result ≡ get_or c.in-Some.more.now c.loop-segment.segment-index c.segment-item.result = search rules in
    let here = at_drop_more (λ p. p) c.in-Some.more.now c.loop-segment.segment-index c.segment-item.result within ∙ ap (λ p. p ∷ drop (c.loop-segment.segment-index + 1) c.in-Some.more.now) (sym same) in
    join_next _ _ _ _ _ _ c.segment-item.result c.loop-segment.invariant here
    c.in_ok-push_str-2.ensures.bytes (c.in_ok-push_str-3.ensures.bytes ∙ ap (λ t. string_bytes c.push_str-in-loop-segment.new.self ++ t) c.as_str-in-loop-segment.ensures)

pub returns : goal.returns
returns c = join_last _ _ _ c.loop-segment.invariant (at_drop_all (λ p. p) c.in-Some.more.now c.loop-segment.segment-index (search rules))
