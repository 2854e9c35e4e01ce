use Rattle.std.proofs.Common.{sym, ap, ◌∙◌}
use Rattle.std.specs.FinMap as finite
use Rattle.zot_digest.specs.ByteMap.{ByteMap}
use Rattle.zot_maps.proofs.Maps.{byte_order, entries-remove, get-entries}
use Rattle.zot_manifests.specs.declared.kept.Kept.{Kept}
use Rattle.zot_manifests.proofs.manifest_map.ManifestMap.remove.Goals as goal

pub returns-clause-was : goal.returns-clause-was
returns-clause-was c =
    c.remove.ensures.value ∙ sym (get-entries byte_order c.self.inside.tree.entries c.args.digest.now) ∙ ap (λ m. finite.get m c.args.digest.now) c.self.view_is

pub returns-clause-removed : goal.returns-clause-removed
returns-clause-removed c =
    entries-remove byte_order c.self.inside.tree.entries c.remove.new.self.entries c.args.digest.now c.remove.ensures.updates.0
    ∙ ap (λ (m : ByteMap Kept). finite.remove m c.args.digest.now) c.self.view_is
