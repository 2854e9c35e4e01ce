use Rattle.std.proofs.Common.{◌≡◌, ap, subst, ◌∙◌, refl, inl, inr, arith, rules}
use Rattle.zot_head.specs.declared.stage.Stage.{Stage}
use Rattle.zot_head.specs.declared.stage.Stage.TheVariants.{Bytes}
use Rattle.zot_head.specs.Progress.{Progress, IsSound}
use Rattle.zot_head.proofs.ProgressLemmas.{advances-bytes, bytes-owed}
use Rattle.zot_head.proofs.chunks.Chunks.take_bytes.Goals as goal
use Rattle.zot_head.proofs.chunks.Chunks.take_bytes.Goals.{then-n-size, else-n-size}

pub returns-then-is_err : goal.returns-then-is_err
returns-then-is_err c =
    let stage : c.self.inside.stage ≡ Bytes c.args.size = ap (λ (p : Progress). p.stage) c.self.view_is ∙ c.requires.stage in
    let sound = subst (λ (s : Stage). IsSound s c.self.inside.line) stage c.self.invariant in
    (refl, search rules, bytes-owed c.args.self.now c.args.size c.args.piece.now c.requires.stage sound.0 c.requires.some)

pub returns : goal.returns
returns c =
    let stage : c.self.inside.stage ≡ Bytes c.args.size = ap (λ (p : Progress). p.stage) c.self.view_is ∙ c.requires.stage in
    let sound = subst (λ (s : Stage). IsSound s c.self.inside.line) stage c.self.invariant in (
      omega (arith, c.min-n.ensures, sound.0),
      omega (arith, c.min-n.ensures),
      advances-bytes c.args.self.now _ c.args.size c.min-n.result c.args.piece.now c.args.out.now.items c.extend_from_slice.new.self.items
          c.requires.stage
          (ap (λ (p : Progress). p.room) c.self.view_is)
          (omega (arith, c.min-n.ensures))
          (omega (arith, c.min-n.ensures))
          (elim c.if-n-size.branch [
            | then-n-size w ↦ inl (w.self-is, w.if-n-size.true)
            | else-n-size w ↦ inr w.self-is
          ])
          (search rules),
    )
