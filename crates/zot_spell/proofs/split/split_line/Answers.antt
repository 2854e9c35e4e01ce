use Rattle.std.proofs.Common.{◌++◌, ◌∷◌, [], length, ap, arith}
use Rattle.zot_spell.proofs.SplitLemmas.{line_at, line_free}
use Rattle.zot_spell.proofs.split.split_line.Goals as goal

pub returns-in_default-clause-apart : goal.returns-in_default-clause-apart
returns-in_default-clause-apart c = λ name value rest f g h e.
    c.in_default.ensures.found (name ++ (58 ∷ (32 ∷ value))) rest (line_free name value g h) (line_at c.args.bytes.now name value rest e)

pub returns-in_default-cut_by-clause-apart : goal.returns-in_default-cut_by-clause-apart
returns-in_default-cut_by-clause-apart c = λ name value rest f g h e.
    let l = c.in-Some.ensures.found (name ++ (58 ∷ (32 ∷ value))) rest (line_free name value g h) (line_at c.args.bytes.now name value rest e) in
    c.in_default-cut_by.ensures.found name value f l.0

pub returns-clause-apart : goal.returns-clause-apart
returns-clause-apart c = λ name value rest f g h e.
    let l = c.in-Some.ensures.found (name ++ (58 ∷ (32 ∷ value))) rest (line_free name value g h) (line_at c.args.bytes.now name value rest e) in
    let t = c.in-Some-cut_by.ensures.found name value f l.0 in
    (t.0, t.1, l.1)

pub returns-clause-end : goal.returns-clause-end
returns-clause-end c = λ rest e.
    let l = c.in-Some.ensures.found [] rest (λ k lt. absurd (omega (arith, lt))) e in
    let n = ap length l.0 in
    cc (c.in-Some-cut_by.ensures.none (λ k lt. absurd (omega (arith, lt, n))))
