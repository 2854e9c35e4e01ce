use Rattle.std.proofs.Common.{Ok, Err, ap}
use Rattle.std.specs.Prelude.{if◌then◌else◌}
use Rattle.zot_layout.specs.Marker.{marker_text}
use Rattle.zot_layout.specs.declared.layout_error.LayoutError.TheVariants.{BadIndex}
use Rattle.zot_layout.proofs.WritingLemmas.{own_marker}
use Rattle.zot_layout.proofs.written_laws.the_own_marker_is_read.Goals as goal

pub returns : goal.returns
returns c = λ path. ap (λ b. if b then Ok tt else Err (BadIndex path marker_text)) own_marker
