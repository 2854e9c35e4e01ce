use Rattle.std.proofs.Common.{ap, sym, ◌∙◌}
use Rattle.std.specs.FinMap as map
use Rattle.zot_maps.proofs.Maps.{byte_order, get-entries}
use Rattle.zot_fakes.proofs.object_map.ObjectMap.get.Goals as goal

pub returns : goal.returns
returns c =
    c.get.ensures.value ∙ sym (get-entries byte_order c.self.inside.tree.entries c.in_ok-key.key)
    ∙ ap (λ m. map.get m c.in_ok-key.key) c.self.view_is ∙ ap (map.get c.args.self.now) c.in_ok-key.ensures
