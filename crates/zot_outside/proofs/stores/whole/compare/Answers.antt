use Rattle.std.proofs.Common.{rules, ◌≡◌, ◌+◌, ◌-◌, ◌≤◌, ◌↔◌, Bool, true, false, IsTrue, length, take, drop, arith, Ok, refl, sym, ◌∙◌, subst}
use Rattle.zot_outside.specs.Faults.{HasStoreCause}
use Rattle.zot_outside.specs.Whole.{HasObject, Reaches}
use Rattle.zot_outside.proofs.WholeLemmas.{agrees_further, differs, follows, is_whole, reaches_piece}
use Rattle.zot_outside.proofs.stores.whole.compare.Goals as goal

pub loop-at-init : goal.loop-at-init
loop-at-init g c = (refl, refl, search rules, follows (g.S.Store.objects c.args.store.now) c.args.path.now _ _ (λ object _. refl) c.requires.size)

pub has_piece-requires-clause-reach : goal.has_piece-requires-clause-reach
has_piece-requires-clause-reach g c =
    let at = c.loop-at.at in
    let n = c.min-n.result in
    subst (λ o. Reaches o c.args.path.now (at + length (take (at + n - at) (drop at c.args.bytes.now)))) (sym c.loop-at.invariant.1)
    (reaches_piece (g.S.Store.objects c.args.store.now) c.args.path.now c.args.bytes.now at n (omega (arith, c.min-n.ensures, c.loop-at-test.true)) c.requires.size)

pub returns-in_err-has_piece-clause-cause : goal.returns-in_err-has_piece-clause-cause
returns-in_err-has_piece-clause-cause g c =
    subst (λ f. HasStoreCause {T = Bool} f (g.S.Store.faults c.has_piece.new.store) c.from_residual.result) c.loop-at.invariant.0 (search rules)

pub returns-in_err-has_piece-clause-kept : goal.returns-in_err-has_piece-clause-kept
returns-in_err-has_piece-clause-kept g c = c.in_err-has_piece.ensures.kept ∙ c.loop-at.invariant.1

pub returns-then-not-branch-clause-cause : goal.returns-then-not-branch-clause-cause
returns-then-not-branch-clause-cause g c =
    subst (λ f. HasStoreCause {T = Bool} f (g.S.Store.faults c.has_piece.new.store) (Ok false)) c.loop-at.invariant.0 (search rules)

pub returns-then-not-branch-clause-kept : goal.returns-then-not-branch-clause-kept
returns-then-not-branch-clause-kept g c = c.in_ok-has_piece.ensures.kept ∙ c.loop-at.invariant.1

pub returns-then-not-branch-clause-ok : goal.returns-then-not-branch-clause-ok
returns-then-not-branch-clause-ok g c =
    let at = c.loop-at.at in
    let n = c.min-n.result in
    let bytes = c.args.bytes.now in
    let path = c.args.path.now in
    let same = c.in_ok-has_piece.field-0 in
    differs (g.S.Store.objects c.args.store.now) path bytes at n same (search rules) (omega (arith, c.min-n.ensures, c.loop-at-test.true))
    (subst (λ o. HasObject o path (λ object. IsTrue same ↔ (take (length (take (at + n - at) (drop at bytes))) (drop at object) ≡ take (at + n - at) (drop at bytes)))) c.loop-at.invariant.1 c.in_ok-has_piece.ensures.ok)

pub loop-at-preserved : goal.loop-at-preserved
loop-at-preserved g c =
    let at = c.loop-at.at in
    let n = c.min-n.result in
    let bytes = c.args.bytes.now in
    let path = c.args.path.now in
    let same = c.in_ok-has_piece.field-0 in
    let within : at + n ≤ length bytes = omega (arith, c.min-n.ensures, c.loop-at-test.true) in (
      c.in_ok-has_piece.ensures.cause.kept ∙ c.loop-at.invariant.0,
      c.in_ok-has_piece.ensures.kept ∙ c.loop-at.invariant.1,
      within,
      agrees_further (g.S.Store.objects c.args.store.now) path bytes at n same (search rules) within
          (subst (λ o. HasObject o path (λ object. IsTrue same ↔ (take (length (take (at + n - at) (drop at bytes))) (drop at object) ≡ take (at + n - at) (drop at bytes)))) c.loop-at.invariant.1 c.in_ok-has_piece.ensures.ok)
          c.loop-at.invariant.3,
    )

pub returns-clause-cause : goal.returns-clause-cause
returns-clause-cause g c = subst (λ f. HasStoreCause {T = Bool} f (g.S.Store.faults c.loop-at.store) (Ok true)) c.loop-at.invariant.0 (search rules)

pub returns-clause-kept : goal.returns-clause-kept
returns-clause-kept g c = c.loop-at.invariant.1

pub returns-clause-ok : goal.returns-clause-ok
returns-clause-ok g c =
    is_whole (g.S.Store.objects c.args.store.now) c.args.path.now c.args.bytes.now c.loop-at.at (omega (arith, c.loop-at-test.false)) c.requires.size c.loop-at.invariant.3
