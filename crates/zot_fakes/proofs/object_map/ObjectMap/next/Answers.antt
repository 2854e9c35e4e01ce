use Rattle.zot_fakes.proofs.MapLemmas.{first_after, none_after}
use Rattle.zot_fakes.proofs.object_map.ObjectMap.next.Goals as goal

pub returns-in-Some : goal.returns-in-Some
returns-in-Some c = first_after c.self.inside.tree c.args.self.now c.in_ok-words.field-0 c.args.after.now _ c.range.result _ c.self.view_is c.in_ok-words.ensures c.in-Some.ensures.steps (c.range.ensures.in_range tt)

pub returns-in-None : goal.returns-in-None
returns-in-None c = none_after c.self.inside.tree c.args.self.now c.in_ok-words.field-0 c.args.after.now c.range.result c.self.view_is c.in_ok-words.ensures (c.in-None.ensures.steps).0 (c.range.ensures.in_range tt)
