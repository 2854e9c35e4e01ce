use Rattle.std.proofs.Common.{◌∷◌, Some, sym, ◌∙◌}
use Rattle.atomic_table.specs.Table.{rest}
use Rattle.zot_turn.proofs.steps.lift.Goals as goal

pub exchange-slot-requires : goal.exchange-slot-requires
exchange-slot-requires g c = let e = c.requires.1.1 in (c.requires.0, (Some c.requires.1.0, e ∙ (λ i. (0, Some c.requires.1.0) ∷ rest (sym e i))))
