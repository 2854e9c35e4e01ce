use Rattle.std.proofs.Common.{◌≡◌, ◌∙◌, length, take, ap}
use Rattle.std.proofs.Math.Seq.{take-append_seam}
use Rattle.std.proofs.lemmas.Slice.Eq.{bytes_eq-Decides}
use Rattle.zot_spell.proofs.cutting.after.Goals as goal

pub returns-else-eq-clause-found : goal.returns-else-eq-clause-found
returns-else-eq-clause-found c = λ rest e.
    let front = c.args.front.now in
    let start : c.split_at.result.0.now ≡ front = c.split_at.ensures.front ∙ ap (λ bytes. take (length front) bytes) e ∙ take-append_seam front rest in
    cc (c.if-eq.false, c.eq.ensures, (bytes_eq-Decides c.split_at.result.0.now front).1 start)
