use Rattle.zot_digest.proofs.DigestLemmas.{digest_named-digest_text}
use Rattle.zot_reply.proofs.cutting.digest_of.Goals as goal

pub returns-in-Ok : goal.returns-in-Ok
returns-in-Ok c = λ digest is e. cc (c.in-Ok.ensures.named, digest_named-digest_text digest is, e)

pub returns-in-Err : goal.returns-in-Err
returns-in-Err c = λ digest is e. absurd (c.in-Err.ensures.bad digest is e)
