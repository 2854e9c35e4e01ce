use Rattle.std.proofs.Common.{List, ℕ, ◌∙◌, ◌++◌, ap, refl, sym}
use Rattle.std.specs.Prelude.{codes}
use Rattle.zot_digest.specs.Digest.{digest_text}
use Rattle.zot_reply.proofs.RefusalLemmas.{front_pieces}
use Rattle.zot_reply.proofs.details.digest_at.Goals as goal

pub returns : goal.returns
returns c = λ front digest rest at is e.
    let text = front ++ (digest_text digest ++ rest) in
    let pieces = front_pieces c.args.code text ∙ ap (λ (t : List ℕ). codes "{\"errors\":[{\"code\":\"" ++ (t ++ (codes "\",\"detail\":\"" ++ text))) (sym c.text.ensures) in
    let detail = c.skip_text-detail.ensures (codes "{\"errors\":[{\"code\":\"") (codes "\",\"detail\":\"") text refl refl (e ∙ pieces) in
    c.first_digest.ensures digest rest is (c.skip.ensures front (digest_text digest ++ rest) at detail)
