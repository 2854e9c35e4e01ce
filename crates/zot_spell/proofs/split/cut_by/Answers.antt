use Rattle.std.proofs.Common.{◌++◌, ◌∷◌, ℕ, List, sym, ap, ◌∙◌}
use Rattle.zot_spell.proofs.split.cut_by.Goals as goal

pub returns-in_default-clause-found : goal.returns-in_default-clause-found
returns-in_default-clause-found c = λ text rest free e. c.in_default.ensures.found text (c.args.next ∷ rest) free e

pub returns-in-Some-after-clause-found : goal.returns-in-Some-after-clause-found
returns-in-Some-after-clause-found c = λ text rest free e.
    let p = c.in-Some.ensures.found text (c.args.next ∷ rest) free e in
    (p.0, cc (c.in-Some-after.ensures.found rest (p.1 ∙ ap (λ (x : List ℕ). x ++ rest) (sym c.as_slice.ensures))))

pub returns-in-None-clause-found : goal.returns-in-None-clause-found
returns-in-None-clause-found c = λ text rest free e.
    let p = c.in-Some.ensures.found text (c.args.next ∷ rest) free e in
    cc (c.in-None.ensures.found rest (p.1 ∙ ap (λ (x : List ℕ). x ++ rest) (sym c.as_slice.ensures)))
