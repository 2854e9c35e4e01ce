use Rattle.std.proofs.Common.{sym, ap, ◌∙◌}
use Rattle.std.specs.FinMap as finite
use Rattle.zot_maps.proofs.Maps.{byte_order, get-entries}
use Rattle.zot_manifests.proofs.tag_map.TagMap.get.Goals as goal

pub returns : goal.returns
returns c =
    c.get.ensures.value ∙ sym (get-entries byte_order c.self.inside.tree.entries c.words.result.now) ∙ ap (λ m. finite.get m c.words.result.now) c.self.view_is
    ∙ ap (finite.get c.args.self.now) c.words.ensures.value
