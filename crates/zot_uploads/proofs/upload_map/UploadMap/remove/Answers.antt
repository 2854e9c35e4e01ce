use Rattle.std.proofs.Common.{ap, ◌∙◌}
use Rattle.std.specs.FinMap as map
use Rattle.zot_maps.proofs.Maps.{entries-remove, number_order}
use Rattle.zot_model.specs.Uploads.{NumberMap, OpenUpload}
use Rattle.zot_uploads.proofs.upload_map.UploadMap.remove.Goals as goal

pub returns : goal.returns
returns c =
    entries-remove number_order c.self.inside.tree.entries c.remove.new.self.entries c.args.id c.remove.ensures.updates.0
    ∙ ap (λ (m : NumberMap OpenUpload). map.remove m c.args.id) c.self.view_is
