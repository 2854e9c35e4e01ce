use Rattle.std.proofs.Common.{refl}
use Rattle.zot_member.specs.Places.{place_by}
use Rattle.zot_cluster.proofs.ConnectionLemmas.{makes_keeps}
use Rattle.zot_cluster.proofs.answering.MemberAnswersAnswers.answer.Goals as goal

pub returns-clause-meets : goal.returns-clause-meets
returns-clause-meets g c =
    let self = c.args.self.now in
    let old = self.rows.now in
    let new = c.answer_at.new.rows in
    let request = c.args.request.now in (
      record {
        makes = c.answer_at.ensures.makes;
        kept = makes_keeps (place_by old.config self.member request) (g.T.Clock.moment self.clock.now) (g.T.Clock.moment c.answer_at.new.clock) old new request c.answer_at.result c.answer_at.ensures.clock c.answer_at.ensures.makes;
      },
      refl,
      c.answer_at.ensures.scratch,
      c.answer_at.ensures.upstream,
      refl,
      refl,
      refl,
      refl,
    )
