use Rattle.std.proofs.Common.{◌∙◌, ℕ, Option, Some, IsSomeAnd, ap, sym, arith, subst}
use Rattle.tests_turn.specs.declared.row.Row.{Row}
use Rattle.zot_turn.specs.Seats.{Standing}
use Rattle.tests_turn.specs.Raising.{HasMore}
use Rattle.tests_turn.proofs.Counting.{kept_is, paired_idle, given_acts, pair_has_all, pair_raised}
use Rattle.tests_turn.proofs.row.visited.Goals as goal

pub close-requires-clause-all : goal.close-requires-clause-all
close-requires-clause-all g c =
    let more = subst (λ (o : Option Row). IsSomeAnd o (λ opened. HasMore 2 opened.seat c.in_ok-inner-2.field-0.seat)) c.in_ok-rows.ensures.opening c.in_ok-inner-2.ensures in
    pair_has_all 0 2 c.join.new.seat (paired_idle c.in_ok-numbers.numbers c.in_ok-numbers.seat c.split.new.seat c.in_ok-inner.inner c.in_ok-numbers.ensures.seat c.in_ok-inner.ensures.parted _ c.in_ok-inner-2.field-0.seat c.join.new.seat c.join.ensures 2 more)

pub returns : goal.returns
returns g c =
    let more = subst (λ (o : Option Row). IsSomeAnd o (λ opened. HasMore 2 opened.seat c.in_ok-inner-2.field-0.seat)) c.in_ok-rows.ensures.opening c.in_ok-inner-2.ensures in
    let pair = paired_idle c.in_ok-numbers.numbers c.in_ok-numbers.seat c.split.new.seat c.in_ok-inner.inner c.in_ok-numbers.ensures.seat c.in_ok-inner.ensures.parted _ c.in_ok-inner-2.field-0.seat c.join.new.seat c.join.ensures 2 more in
    let kept = kept_is c.in_ok-numbers.numbers c.in_ok-numbers.seat c.split.new.seat c.in_ok-inner.inner c.in_ok-numbers.ensures.seat c.in_ok-inner.ensures.parted in
    let opening = ap (λ (s : Standing ℕ ℕ). s.home.opening) c.join.ensures.known ∙ ap (λ (s : Standing ℕ ℕ). s.home.opening) kept ∙ c.in_ok-numbers.ensures.opening ∙ ap Some c.zero.ensures in (
      λ e. given_acts c.in_ok-numbers.numbers c.in_ok-numbers.seat c.split.new.seat c.in_ok-inner.inner c.in_ok-numbers.ensures.seat c.in_ok-inner.ensures.parted c.in_ok-inner-2.field-0.seat more.2.later (sym c.number-by.ensures ∙ e),
      c.value.ensures ∙ pair_raised 0 2 c.join.new.seat pair opening (omega arith) c.close.result c.close.ensures.stands c.close.ensures.all c.close.ensures.own,
    )
