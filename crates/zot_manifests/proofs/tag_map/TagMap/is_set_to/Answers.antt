use Rattle.std.proofs.Common.{List, ℕ, Some, None, sym, ap, ◌∙◌}
use Rattle.std.specs.Str.{bytes_eq}
use Rattle.zot_maps.proofs.Maps.{byte_order, found_at}
use Rattle.zot_model.specs.Manifests.{is_tag_of}
use Rattle.zot_manifests.proofs.tag_map.TagMap.is_set_to.Goals as goal

pub returns-in-Some : goal.returns-in-Some
returns-in-Some c =
    c.eq.ensures ∙ ap (λ (d : List ℕ). bytes_eq d c.args.digest.now) c.digest.ensures
    ∙ sym (ap (is_tag_of c.args.digest.now) (found_at byte_order c.self.inside.tree.entries c.args.self.now c.args.text.now (Some c.in-Some.entry.now) c.self.view_is c.in-Some.ensures.value))

pub returns-in-None : goal.returns-in-None
returns-in-None c = sym (ap (is_tag_of c.args.digest.now) (found_at byte_order c.self.inside.tree.entries c.args.self.now c.args.text.now None c.self.view_is c.in-None.ensures.value))
