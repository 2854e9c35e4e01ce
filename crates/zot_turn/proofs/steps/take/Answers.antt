use Rattle.std.proofs.Common.{ℕ, Option, arith, refl, sym, ◌∙◌, subst}
use Rattle.atomic_table.specs.Table.{Me}
use Rattle.atomic_table.specs.Seated.{TableId}
use Rattle.zot_turn.specs.declared.known.Known.{Known}
use Rattle.zot_turn.specs.Steps.{TakesTurn, HasNumber}
use Rattle.zot_turn.proofs.Changes.{same_still}
use Rattle.zot_turn.proofs.Taking.{takes_turn, took, not_taken}
use Rattle.zot_turn.proofs.steps.take.Goals as goal

pub compare_exchange-found-requires : goal.compare_exchange-found-requires
compare_exchange-found-requires g c =
    let i = c.loop.invariant in
    let acts = subst (λ (m : Me (Option g.row.O.Denot) (Known g.row.O.Denot g.row.O-Entry.Denot)). HasNumber m.0.mine) (sym i.2) c.requires.acts in
    (i.0 ∙ c.requires.board.0, omega (arith, c.requires.board.1), takes_turn g.O.Object.step c.args.board.now.key.value c.peek-word.result c.loop.seat.id c.args.board.now.table_id.slots c.loop.seat.me acts (c.if-is_free.ensures.0 refl).0)

pub returns-then-found-word-clause-taken : goal.returns-then-found-word-clause-taken
returns-then-found-word-clause-taken g c =
    let i = c.loop.invariant in
    let acts = subst (λ (m : Me (Option g.row.O.Denot) (Known g.row.O.Denot g.row.O-Entry.Denot)). HasNumber m.0.mine) (sym i.2) c.requires.acts in
    let now = c.compare_exchange-found.new.seat.me in
    subst (λ (m : Me (Option g.row.O.Denot) (Known g.row.O.Denot g.row.O-Entry.Denot)). TakesTurn g.O.Object.step c.peek-word.result m now) i.2
    (took g.O.Object.step c.args.board.now.key.value c.peek-word.result c.loop.seat.id c.args.board.now.table_id.slots c.loop.seat.me acts (c.if-is_free.ensures.0 refl).0 c.compare_exchange-found.result now c.if-found-word.true c.compare_exchange-found.ensures.2)

pub loop-preserved-else-found-word : goal.loop-preserved-else-found-word
loop-preserved-else-found-word g c =
    let i = c.loop.invariant in
    let e = c.compare_exchange-found.ensures in
    let acts = subst (λ (m : Me (Option g.row.O.Denot) (Known g.row.O.Denot g.row.O-Entry.Denot)). HasNumber m.0.mine) (sym i.2) c.requires.acts in
    let same = not_taken g.O.Object.step c.args.board.now.key.value c.peek-word.result c.loop.seat.id c.args.board.now.table_id.slots c.loop.seat.me acts (c.if-is_free.ensures.0 refl).0 c.compare_exchange-found.result c.compare_exchange-found.new.seat.me c.if-found-word.false e.2 in
    (◌∙◌ {A = TableId} e.0 i.0, ◌∙◌ {A = ℕ} e.1 i.1, same_still _ _ _ same i.2)
