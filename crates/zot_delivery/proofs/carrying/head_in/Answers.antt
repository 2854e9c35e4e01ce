use Rattle.std.proofs.Common.{Err, ap, ◌∙◌}
use Rattle.zot_delivery.proofs.carrying.head_in.Goals as goal

pub unreachable-requires : goal.unreachable-requires
unreachable-requires c = (c.read_head.ensures.bad (c.in-Err-Bad.is ∙ ap Err c.in-Err-Bad.field-0-is)).none c.requires.0 c.requires.1
