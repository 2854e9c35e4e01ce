use Rattle.std.proofs.Common.{◌≡◌, ◌++◌, ℕ, List, sym, ap, ◌∙◌}
use Rattle.std.proofs.lemmas.Slice.Eq.{bytes_eq-Decides}
use Rattle.zot_spell.proofs.reply.is_joined.Goals as goal

pub returns-in-Some : goal.returns-in-Some
returns-in-Some c =
    let front = c.args.front.now in
    let same = bytes_eq-Decides c.in-Some.last.now c.args.rest.now in (
      λ t. c.in-Some.ensures.joined ∙ ap (λ (x : List ℕ). front ++ x) (same.0 (sym c.eq.ensures ∙ t)),
      λ e. let s : c.in-Some.last.now ≡ c.args.rest.now = cc (c.in-Some.ensures.found c.args.rest.now e) in c.eq.ensures ∙ same.1 s,
    )
