use Rattle.std.proofs.Common.{◌≡◌, ◌+◌, List, arith, refl, sym, subst}
use Rattle.atomic_table.specs.Table.{Allows, rest}
use Rattle.zot_turn.specs.Steps.{Kept, after_turn}
use Rattle.zot_turn.proofs.Giving.{gives_turn}
use Rattle.zot_turn.proofs.steps.give.Goals as goal

pub swap-requires : goal.swap-requires
swap-requires g c =
    let b = c.requires.board in (
      b.0,
      omega (arith, b.1),
      subst (λ (es : List g.row.O-Entry.Denot). Allows (Kept g.O.Object.step c.args.board.now.key.value) c.args.board.now.table_id.slots c.args.seat.now.id c.args.seat.now.me 0 (λ _. c.args.found + 2)
          (λ _ now. now ≡ (after_turn es c.args.seat.now.me.0, rest c.args.seat.now.me.1))) (sym c.requires.entries)
          (gives_turn g.O.Object.step c.args.board.now.key.value c.args.found (c.args.found + 2) c.args.seat.now.id c.args.board.now.table_id.slots _ c.args.seat.now.me c.requires.may refl),
    )
