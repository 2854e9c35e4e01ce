use Rattle.std.proofs.Common.{ap, ◌∙◌}
use Rattle.std.specs.FinMap as map
use Rattle.zot_maps.proofs.Maps.{entries-insert, number_order}
use Rattle.zot_model.specs.Uploads.{NumberMap, OpenUpload}
use Rattle.zot_uploads.proofs.upload_map.UploadMap.set.Goals as goal

pub returns-clause-ok : goal.returns-clause-ok
returns-clause-ok c =
    entries-insert number_order c.self.inside.tree.entries c.insert.new.self.entries c.args.id c.args.upload c.in_ok-insert.ensures.updates.0
    ∙ ap (λ (m : NumberMap OpenUpload). map.insert m c.args.id c.args.upload) c.self.view_is
