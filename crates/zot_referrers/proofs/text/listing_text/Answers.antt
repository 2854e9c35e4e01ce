use Rattle.std.proofs.Common.{map, ap, ◌∙◌}
use Rattle.serde_json.proofs.Views.{view-Array}
use Rattle.serde_json.specs.View.{items_of, items_view, view}
use Rattle.serde_json.specs.Written.{items_have_float}
use Rattle.zot_referrers.proofs.PlainLemmas.{descriptors_plain, listing_is, listing_plain, plain_text}
use Rattle.zot_referrers.specs.Listing.{listing_value}
use Rattle.zot_referrers.proofs.text.listing_text.Goals as goal

pub returns : goal.returns
returns c = λ referrers is.
    let items = items_view c.args.descriptors.items in
    listing_is c.to_string.result (map view c.args.descriptors.items) referrers is
    (plain_text c.to_string.result (view c.in_ok-value.value) (listing_value items) (c.in_ok-value.ensures items (view-Array c.args.descriptors))
    (listing_plain items (ap (λ ds. items_have_float (items_of ds)) is ∙ descriptors_plain referrers)) c.to_string.ensures.text)
