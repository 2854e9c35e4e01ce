use Rattle.std.proofs.Common.{arith, ap, subst, sym, ◌<◌, ◌∙◌}
use Rattle.std.specs.Vec.Iter.{into_iter_items}
use Rattle.std.proofs.lemmas.List.{nil_from_length}
use Rattle.zot_rows.proofs.ListingLemmas.{all_put, none_put, one_put, row_within}
use Rattle.zot_rows.specs.Listing.{row_at, rows_of}
use Rattle.zot_siphash.specs.SipHash.{siphash}
use Rattle.zot_rows.proofs.listing.put_by_row.Goals as goal

pub loop-holding-init : goal.loop-holding-init
loop-holding-init c = none_put c.args.key.now c.args.members c.args.lists.now.items c.args.holdings.items (into_iter_items c.into_iter-holding-iterator.result) c.requires.many c.into_iter-holding-iterator.ensures.into_iter_gives.0

pub index_mut-requires : goal.index_mut-requires
index_mut-requires c =
    let within : c.row_of-row.result < rows_of c.args.members = subst (λ r. r < rows_of c.args.members) (sym c.row_of-row.ensures) (row_within c.args.key.now c.args.members (siphash c.args.key.now c.as_slice.result.now) c.requires.members.0) in
    omega (arith, within, c.loop-holding.invariant.many, c.loop-holding.lists.ok.0)

pub loop-holding-preserved : goal.loop-holding-preserved
loop-holding-preserved c =
    one_put c.args.key.now c.args.members c.args.lists.now.items c.loop-holding.lists.items c.row_of-row.result c.index_mut.result.now c.push.new.self c.in-Some.holding c.args.holdings.items (into_iter_items c.loop-holding.holding-iterator) (into_iter_items c.next.new.self)
    c.loop-holding.invariant c.in-Some.ensures.steps.0 c.as_slice.ensures.name (c.row_of-row.ensures ∙ ap (row_at c.args.key.now c.args.members) c.as_slice.ensures.value) c.requires.members.0
    c.index_mut.ensures.value c.in_ok-push.ensures.items

pub returns-clause-named : goal.returns-clause-named
returns-clause-named c = (all_put c.args.key.now c.args.members c.args.lists.now.items c.loop-holding.lists.items c.args.holdings.items (into_iter_items c.loop-holding.holding-iterator) c.loop-holding.invariant (nil_from_length (into_iter_items c.loop-holding.holding-iterator) (sym c.loop-holding.holding-iterator.rest.ok.0 ∙ c.in-None.ensures.steps.0))).0

pub returns-clause-put : goal.returns-clause-put
returns-clause-put c = (all_put c.args.key.now c.args.members c.args.lists.now.items c.loop-holding.lists.items c.args.holdings.items (into_iter_items c.loop-holding.holding-iterator) c.loop-holding.invariant (nil_from_length (into_iter_items c.loop-holding.holding-iterator) (sym c.loop-holding.holding-iterator.rest.ok.0 ∙ c.in-None.ensures.steps.0))).1
