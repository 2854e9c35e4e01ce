use Rattle.std.proofs.Common.{◌≡◌, ◌-◌, length, take, drop, ap, sym, subst, ◌∙◌, refl, arith}
use Rattle.std.proofs.lemmas.List.{length-drop, take_all}
use Rattle.zot_head.specs.Progress.{Progress, IsSound}
use Rattle.zot_head.proofs.ProgressLemmas.{GoesOn, feeds-done, feeds-goes, feeds-failed, feeds-stopped, goes-otherwise, goes-not-over}
use Rattle.zot_head.proofs.chunks.Chunks.feed.Goals as goal
use Rattle.zot_head.proofs.chunks.Chunks.feed.Goals.{then-loop-taken-test+else-goes_on, else-loop-taken-test, in-Failed, in-Done, in_default-stage}

pub returns-in_default : goal.returns-in_default
returns-in_default c =
    let rest : take (length c.args.piece.now - c.loop-taken.taken) (drop c.loop-taken.taken c.args.piece.now) ≡ drop c.loop-taken.taken c.args.piece.now =
    take_all (length c.args.piece.now - c.loop-taken.taken) (drop c.loop-taken.taken c.args.piece.now) (omega (arith, length-drop c.loop-taken.taken c.args.piece.now)) in
    feeds-stopped c.args.self.now c.loop-taken.self c.step.new.self c.args.piece.now _ c.args.out.now.items c.loop-taken.out.items c.step.new.out.items
    c.loop-taken.invariant.1 c.in_default.ensures.0 c.in_default.ensures.1 (rw rest at c.in_default.ensures.2)

pub returns : goal.returns
returns c =
    let old = c.args.self.now in
    let new = c.loop-taken.self in
    let piece = c.args.piece.now in
    let before = c.args.out.now.items in
    let after = c.loop-taken.out.items in
    let stage : c.loop-taken.self.stage ≡ c.self-2.inside.stage = ap (λ (p : Progress). p.stage) (sym c.self-2.view_is) in
    elim c.match-self.branch [
      | in-Failed w ↦ rw w.result-is (feeds-failed old new piece _ before after w.in-Failed.error c.loop-taken.invariant.1 (stage ∙ w.in-Failed.is))
      | in-Done w ↦ rw w.result-is (feeds-done old new piece before after _ c.loop-taken.invariant.1 c.loop-taken.invariant.0 refl (stage ∙ w.in-Done.is))
      | in_default-stage w ↦
          let goes : GoesOn c.self-2.inside.stage = goes-otherwise c.self-2.inside.stage w.in_default-stage.not-Done w.in_default-stage.not-Failed in
          let all : c.loop-taken.taken ≡ length c.args.piece.now =
          elim c.loop-taken-test.branch [
            | then-loop-taken-test+else-goes_on v ↦
                absurd (goes-not-over c.loop-taken.self.stage (subst GoesOn (sym stage) goes) (sym v.goes_on.ensures ∙ v.if-goes_on.false))
            | else-loop-taken-test v ↦ omega (arith, v.loop-taken-test.false)
          ]
          in
          rw w.result-is (feeds-goes old new piece before after _ c.loop-taken.invariant.1 all refl
          (subst (λ (p : Progress). IsSound p.stage p.line) c.self-2.view_is c.self-2.invariant)
          (subst GoesOn (sym stage) goes))
    ]
