use Rattle.std.proofs.Common.{String, Vec, Global, ℕ, List, string_bytes, sym, subst, arith, ◌∙◌}
use Rattle.std.proofs.lemmas.Bool.{true≢false}
use Rattle.zot_fakes.proofs.SplitLemmas.{other_next, own_next, owns_none, same_pair}
use Rattle.zot_fakes.proofs.splitting.part_of.Goals as goal
use Rattle.zot_fakes.proofs.splitting.part_of.Goals.{then-branch+in_ok-copy_of+in_ok-push, else-branch}
use Rattle.zot_fakes.specs.Owners.{Owns}

-- an object's path and bytes
abbrev object_of : String Global × Vec ℕ Global → List ℕ × List ℕ
object_of o = (string_bytes o.0, o.1.items)

pub loop-object-init : goal.loop-object-init
loop-object-init c = rw c.new-own.ensures.items (owns_none c.args.part.now)

pub loop-object-preserved : goal.loop-object-preserved
loop-object-preserved c =
    elim c.if-branch.branch [
      | then-branch+in_ok-copy_of+in_ok-push w ↦
          rw (w.own-is, w.in_ok-push.ensures.items)
          (own_next object_of c.args.part.now c.args.objects.now c.loop-object.own.items c.loop-object.object-index c.object-item.result w.in_ok-copy_of.field-0
          (omega (arith, c.loop-object-test.true, c.loop-object.auto.object-index-end)) c.object-item.is
          (same_pair _ _ _ _ w.in_ok-copy_of.ensures.0 w.in_ok-copy_of.ensures.1)
          (subst (λ p. Owns c.args.part.now p) c.as_str.ensures.value (c.in_ok-owns.ensures.0 w.if-branch.true))
          c.loop-object.invariant)
      | else-branch w ↦
          rw w.own-is
          (other_next object_of c.args.part.now c.args.objects.now c.loop-object.own.items c.loop-object.object-index c.object-item.result
          (omega (arith, c.loop-object-test.true, c.loop-object.auto.object-index-end)) c.object-item.is
          (λ h. true≢false (sym (c.in_ok-owns.ensures.1 (subst (λ p. Owns c.args.part.now p) (sym c.as_str.ensures.value) h)) ∙ w.if-branch.false))
          c.loop-object.invariant)
    ]
