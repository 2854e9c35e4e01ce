use Rattle.std.proofs.Common.{[], map as each, arith, ap, ◌∙◌}
use Rattle.std.specs.List.{range_with_len}
use Rattle.zot_rows.proofs.ListingLemmas.{none_more}
use Rattle.zot_rows.specs.Listing.{lists_of, of_row}
use Rattle.zot_rows.proofs.listing.empty_lists.Goals as goal

pub loop-init : goal.loop-init
loop-init c = ap lists_of c.new-lists.ensures.items

pub loop-preserved : goal.loop-preserved
loop-preserved c = ap lists_of c.in_ok-push.ensures.items ∙ none_more [] 0 c.loop.lists.items c.new.result c.loop.counter c.new.ensures.items c.loop.invariant

pub returns : goal.returns
returns c key = c.loop.invariant ∙ ap (λ n. each (λ row. of_row key c.args.members row []) (range_with_len 0 n)) (omega (arith, c.loop-test.false, c.loop.auto.counter-end))
