use Rattle.std.proofs.Common.{◌≡◌, ◌++◌, ◌∙◌, ℕ, List, length, take, sym, ap, arith}
use Rattle.std.proofs.Math.Seq.{take-append_seam}
use Rattle.std.proofs.lemmas.List.{length-append}
use Rattle.zot_digest.specs.Digest.{digest_text}
use Rattle.zot_spell.proofs.AlikeLemmas.{digest_length}
use Rattle.zot_reply.proofs.cutting.first_digest.Goals as goal

front : (text rest : List ℕ) (n : ℕ) → length text ≡ n → take n (text ++ rest) ≡ text
front text rest n l = ap (λ (m : ℕ). take m (text ++ rest)) (sym l) ∙ take-append_seam text rest

pub returns-then-bytes-lt-DIGEST_LENGTH : goal.returns-then-bytes-lt-DIGEST_LENGTH
returns-then-bytes-lt-DIGEST_LENGTH c = λ digest rest is e. absurd (omega (arith, c.if-bytes-lt-DIGEST_LENGTH.true, digest_length digest is, length-append (digest_text digest) rest, ap length e))

pub returns : goal.returns
returns c = λ digest rest is e.
    c.digest_of.ensures digest is (c.split_at.ensures.front ∙ ap (take 71) e ∙ front (digest_text digest) rest 71 (digest_length digest is))
