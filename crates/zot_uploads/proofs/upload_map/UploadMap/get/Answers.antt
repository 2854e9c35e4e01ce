use Rattle.std.proofs.Common.{sym, ap, ◌∙◌}
use Rattle.std.specs.FinMap as map
use Rattle.zot_maps.proofs.Maps.{get-entries, number_order}
use Rattle.zot_uploads.proofs.upload_map.UploadMap.get.Goals as goal

pub returns : goal.returns
returns c = c.get.ensures.value ∙ sym (get-entries number_order c.self.inside.tree.entries c.args.id) ∙ ap (λ m. map.get m c.args.id) c.self.view_is
