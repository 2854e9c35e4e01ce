use Rattle.std.proofs.Common.{sym, ◌∙◌, arith}
use Rattle.zot_config.proofs.WalkLemmas.{counted_here, counted_later}
use Rattle.zot_config.proofs.object.count.Goals as goal
use Rattle.zot_config.proofs.object.count.Goals.{then-eq, else-eq}

pub loop-member-preserved : goal.loop-member-preserved
loop-member-preserved c =
    let l = c.loop-member in
    let xs = c.deref-member-items.result.now in
    let name = c.args.name.now in
    elim c.if-eq.branch [
      | then-eq w ↦
          let more = counted_here name xs l.member-index c.member-item.result l.count _ (omega arith) c.member-item.is (sym c.eq.ensures ∙ w.if-eq.true) l.invariant.0 in
          rw w.count-is (more, omega arith)
      | else-eq w ↦
          let more = counted_later name xs l.member-index c.member-item.result l.count _ (omega arith) c.member-item.is (sym c.eq.ensures ∙ w.if-eq.false) l.invariant.0 in
          rw w.count-is (more, omega arith)
    ]
