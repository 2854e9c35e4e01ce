use Rattle.std.proofs.Common.{◌++◌, take, ◌∙◌}
use Rattle.zot_outside.proofs.StreamLemmas.{Appends-append, written_more}
use Rattle.zot_session.proofs.sending.write_all.Goals as goal

pub loop-rest-preserved : goal.loop-rest-preserved
loop-rest-preserved g c =
    let i = c.loop-rest.invariant in
    let w = c.in-Ok.ensures.ok in
    let k = c.in-Ok.ensures.cause.kept in (
      i.0 ++ take c.in-Ok.n c.loop-rest.rest.now,
      written_more c.args.bytes.now i.0 c.loop-rest.rest.now c.in-Ok.n i.1,
      Appends-append _ _ _ _ _ i.2 w.appended,
      k ∙ i.3,
    )
