use Rattle.std.specs.Prelude.{option_map}
use Rattle.zot_media.specs.Referrers.{referrers_among, referrers_text}
use Rattle.zot_referrers.specs.Listing.{all_pushed}
use Rattle.zot_referrers.proofs.subject_index.SubjectIndex.text.Goals as goal

pub returns : goal.returns
unfolding referrers_text
returns g c =
    c.listing_text.ensures (referrers_among (all_pushed (g.H.Held.sizes c.args.held.now) c.args.manifests.now.manifests) c.args.subject.now (option_map (λ text. text.now) c.args.wanted)) c.in_ok-descriptors.ensures
