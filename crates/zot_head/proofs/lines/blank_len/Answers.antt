use Rattle.std.proofs.Common.{arith, inl, inr, sym, ◌∙◌}
use Rattle.zot_head.proofs.LineLemmas.{blank_len_feed_at, blank_len_return_at, blank_len_none_at}
use Rattle.zot_head.proofs.lines.blank_len.Goals as goal
use Rattle.zot_head.proofs.lines.blank_len.Goals.{else-bytes-at-eq13-via-then-bytes-at-eq13+else-has_feed, else-bytes-at-eq13-via-else-bytes-at-eq13}

pub loop-at-preserved-then-bytes-at-eq10 : goal.loop-at-preserved-then-bytes-at-eq10
loop-at-preserved-then-bytes-at-eq10 c =
    let step = blank_len_feed_at c.args.bytes.now c.loop-at.at c.loop-at-test.true c.if-bytes-at-eq10.true in
    (omega arith, omega (arith, c.loop-at.invariant.1, step))

pub loop-at-preserved : goal.loop-at-preserved
loop-at-preserved c =
    let feed = sym c.has_feed.ensures ∙ c.if-has_feed.true in
    let step = blank_len_return_at c.args.bytes.now c.loop-at.at c.loop-at-test.true c.if-bytes-at-eq13.true feed in
    (step.1, omega (arith, c.loop-at.invariant.1, step.0))

pub returns-else-bytes-at-eq13-clause-value : goal.returns-else-bytes-at-eq13-clause-value
returns-else-bytes-at-eq13-clause-value c =
    elim c.else-bytes-at-eq13.branch [
      | else-bytes-at-eq13-via-then-bytes-at-eq13+else-has_feed w ↦
          let step = blank_len_none_at c.args.bytes.now c.loop-at.at c.loop-at-test.true c.if-bytes-at-eq10.false (inr (sym w.has_feed.ensures ∙ w.if-has_feed.false)) in
          omega (arith, c.loop-at.invariant.1, step)
      | else-bytes-at-eq13-via-else-bytes-at-eq13 w ↦
          let step = blank_len_none_at c.args.bytes.now c.loop-at.at c.loop-at-test.true c.if-bytes-at-eq10.false (inl w.if-bytes-at-eq13.false) in
          omega (arith, c.loop-at.invariant.1, step)
    ]
