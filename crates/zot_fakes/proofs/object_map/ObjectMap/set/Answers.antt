use Rattle.std.proofs.Common.{ap, ◌∙◌}
use Rattle.zot_maps.proofs.Maps.{byte_order, entries-insert}
use Rattle.zot_outside.specs.Objects.{Objects, with_object}
use Rattle.zot_fakes.proofs.object_map.ObjectMap.set.Goals as goal

pub returns-clause-ok : goal.returns-clause-ok
returns-clause-ok c =
    entries-insert byte_order c.self.inside.tree.entries c.insert.new.self.entries c.args.path c.args.bytes c.in_ok-insert.ensures.updates.0
    ∙ ap (λ (m : Objects). with_object m c.args.path c.args.bytes) c.self.view_is
