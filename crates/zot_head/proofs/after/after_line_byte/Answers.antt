use Rattle.std.proofs.Common.{◌≡◌, suc, ℕ, length, [], ◌∷◌, ◌++◌, sym, ap, ◌∙◌, arith}
use Rattle.std.proofs.lemmas.List.{length-append}
use Rattle.zot_head.specs.Chunked.{size_of}
use Rattle.zot_head.specs.Limits.{chunk_line_limit}
use Rattle.zot_head.proofs.ProgressLemmas.{chunked-feed, chunked-passes, line_more}
use Rattle.zot_head.proofs.after.after_line_byte.Goals as goal

pub push-requires : goal.push-requires
unfolding chunk_line_limit
push-requires c = c.requires.1

pub returns-then-byte-eq10-clause-same : goal.returns-then-byte-eq10-clause-same
returns-then-byte-eq10-clause-same c = λ more.
    let size : size_of (c.args.line.now ++ 10 ∷ []) ≡ c.size_of-size.result =
    ap (λ (b : ℕ). size_of (c.args.line.now ++ b ∷ [])) (sym c.if-byte-eq10.true) ∙ ap size_of (sym c.push.ensures ∙ sym c.as_slice.ensures) ∙ sym c.size_of-size.ensures in
    rw (c.if-byte-eq10.true, c.clear.ensures, chunked-feed c.args.room c.args.line.now more c.requires, size) (c.after_size.ensures.same more)

pub returns-then-len-eq-CHUNK_LINE_LIMIT-clause-same : goal.returns-then-len-eq-CHUNK_LINE_LIMIT-clause-same
unfolding chunk_line_limit
returns-then-len-eq-CHUNK_LINE_LIMIT-clause-same c = λ more.
    let full : 256 ≡ suc (length c.args.line.now) = omega (arith, c.len.ensures, c.if-len-eq-CHUNK_LINE_LIMIT.true, ap length c.push.ensures, length-append c.args.line.now (c.args.byte ∷ [])) in
    chunked-passes c.args.room c.args.line.now c.args.byte more c.requires c.if-byte-eq10.false full

pub returns-clause-sound : goal.returns-clause-sound
unfolding chunk_line_limit
returns-clause-sound c =
    rw c.push.ensures
    (line_more c.args.line.now c.args.byte c.requires c.if-byte-eq10.false
    (λ full. c.if-len-eq-CHUNK_LINE_LIMIT.false (omega (arith, c.len.ensures, full, ap length c.push.ensures, length-append c.args.line.now (c.args.byte ∷ [])))))
