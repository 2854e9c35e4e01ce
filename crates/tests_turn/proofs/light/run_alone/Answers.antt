use Rattle.std.proofs.Common.{ℕ, List, ap, ◌∙◌, subst}
use Rattle.zot_history.specs.History.{Replays}
use Rattle.zot_turn.specs.Seats.{Home, Standing, Turned, acting, seen}
use Rattle.tests_turn.proofs.Carried.{from_opening}
use Rattle.tests_turn.proofs.Counting.{alone}
use Rattle.tests_turn.proofs.light.run_alone.Goals as goal

pub returns : goal.returns
returns g c =
    let made = c.in_ok-shared.ensures in
    let step = g.O.Object.step in
    let es = g.J.Job.entries c.turn.new.job in
    let ran = λ (v w : g.row.O.Denot). g.J.Job.does c.args.job.now (acting c.in_ok-shared.seat.mine) v w c.turn.new.job in
    let turned = subst (λ (s : Standing g.row.O.Denot g.row.O-Entry.Denot). Turned step es ran s c.turn.new.seat) made.seat c.turn.ensures.turned in
    let opening = ap (λ (h : Home g.row.O.Denot). h.opening) (c.turn.ensures.later.home ∙ ap (λ (s : Standing g.row.O.Denot g.row.O-Entry.Denot). s.home) made.seat) ∙ made.opening in
    let legal = from_opening step c.turn.new.seat.home c.args.value c.close.result (seen c.turn.new.seat) opening c.close.ensures.stands in
    subst (λ (h : List (ℕ × g.row.O-Entry.Denot)). Replays step c.args.value h c.close.result) (alone step es ran c.in_ok-shared.shared c.turn.new.seat turned c.close.ensures.all) legal
