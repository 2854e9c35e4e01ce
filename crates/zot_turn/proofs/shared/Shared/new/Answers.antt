use Rattle.std.proofs.Common.{◌≡◌, [], ◌∷◌, Some, List, Option, sym, subst}
use Rattle.atomic_table.specs.Table.{opening}
use Rattle.zot_turn.specs.Steps.{Kept, first_known}
use Rattle.zot_turn.proofs.Opening.{pushed, opens}
use Rattle.zot_turn.proofs.shared.Shared.new.Goals as goal

pub new-requires : goal.new-requires
new-requires g c =
    let value = c.of-opening.result.value in
    let E = g.row.O-Entry.Denot in
    let items : c.push.new.self.items ≡ Some value ∷ [] = pushed c.new-slots.result.items c.push.new.self.items c.args.value value c.new-slots.ensures.items c.in_ok-push.ensures.items c.of-opening.ensures in
    subst (λ (xs : List (Option g.row.O.Denot)). Kept g.O.Object.step value (opening (0 ∷ 1 ∷ []) xs (first_known {E = E} value))) (sym items) (opens g.O.Object.step value)
