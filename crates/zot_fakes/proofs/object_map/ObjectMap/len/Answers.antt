use Rattle.std.proofs.Common.{arith, ap}
use Rattle.std.specs.FinMap as map
use Rattle.zot_maps.proofs.Maps.{byte_order, few_entries}
use Rattle.zot_fakes.proofs.object_map.ObjectMap.len.Goals as goal

pub returns-clause-at_least : goal.returns-clause-at_least
returns-clause-at_least c = omega (arith, ap (λ m. map.len m) c.self.view_is, few_entries byte_order c.self.inside.tree.entries, c.len.ensures.len)
