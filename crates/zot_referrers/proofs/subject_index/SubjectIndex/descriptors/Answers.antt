use Rattle.std.proofs.Common.{map, ap, ◌∙◌}
use Rattle.std.specs.Prelude.{option_map}
use Rattle.serde_json.specs.View.{view}
use Rattle.zot_referrers.proofs.ListingLemmas.{all_listed, none_listed}
use Rattle.zot_referrers.proofs.subject_index.SubjectIndex.descriptors.Goals as goal

pub returns-in-Some : goal.returns-in-Some
returns-in-Some g c =
    all_listed (g.H.Held.sizes c.args.held.now) c.args.manifests.now.manifests c.args.subject.now (option_map (λ text. text.now) c.args.wanted)
    c.descriptors.result c.args.self.now.index.sets c.in-Some.listed.now c.requires c.in-Some.ensures c.descriptors.ensures.ordered c.descriptors.ensures.found

pub returns-in-None : goal.returns-in-None
returns-in-None g c =
    ap (map view) c.new.ensures.items
    ∙ none_listed (g.H.Held.sizes c.args.held.now) c.args.manifests.now.manifests c.args.subject.now (option_map (λ text. text.now) c.args.wanted)
    c.args.self.now.index.sets c.requires c.in-None.ensures
