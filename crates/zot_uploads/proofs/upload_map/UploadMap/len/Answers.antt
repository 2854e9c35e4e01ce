use Rattle.std.proofs.Common.{sym, ap, ◌∙◌}
use Rattle.std.specs.FinMap as map
use Rattle.zot_maps.proofs.Maps.{len-sorted, number_order}
use Rattle.zot_uploads.proofs.upload_map.UploadMap.len.Goals as goal

pub returns : goal.returns
returns c = c.len.ensures.len ∙ sym (len-sorted number_order c.self.inside.tree.entries c.len.ensures.ordered) ∙ ap (λ m. map.len m) c.self.view_is
