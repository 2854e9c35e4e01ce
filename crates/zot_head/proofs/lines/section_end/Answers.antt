use Rattle.std.proofs.Common.{inl, inr, sym, ◌∙◌}
use Rattle.zot_head.proofs.LineLemmas.{section_end-step}
use Rattle.zot_head.proofs.lines.section_end.Goals as goal
use Rattle.zot_head.proofs.lines.section_end.Goals.{else-starts-via-then-starts+else-b-eq10, else-starts-via-else-starts, else-starts-2-via-then-starts-2+then-b-eq13+else-has_feed, else-starts-2-via-then-starts-2+else-b-eq13, else-starts-2-via-else-starts-2}

pub loop-i-preserved : goal.loop-i-preserved
loop-i-preserved c =
    section_end-step c.args.bytes.now c.loop-i.i c.loop-i.starts c.loop-i-test.true
    (λ starts. elim c.else-starts.branch [
      | else-starts-via-then-starts+else-b-eq10 w ↦ w.if-b-eq10.false
      | else-starts-via-else-starts w ↦ absurd cc
    ])
    (λ starts. elim c.else-starts-2.branch [
      | else-starts-2-via-then-starts-2+then-b-eq13+else-has_feed w ↦ inr (sym w.has_feed.ensures ∙ w.if-has_feed.false)
      | else-starts-2-via-then-starts-2+else-b-eq13 w ↦ inl w.if-b-eq13.false
      | else-starts-2-via-else-starts-2 w ↦ absurd cc
    ])
    c.loop-i.invariant
