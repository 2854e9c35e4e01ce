use Rattle.zot_route.proofs.OneLemmas.{answer_one}
use Rattle.zot_route.proofs.ValidLemmas.{answer_declines, answer_hides, answer_valid}
use Rattle.zot_route.proofs.message.route.Goals as goal

pub returns : goal.returns
returns c =
    let head = c.args.head.now in
    let body = c.args.body.items in
    let given = c.outcome.result in
    record {
      outcome = c.outcome.ensures;
      only = λ other is. answer_one head body given other c.outcome.ensures is;
      valid = answer_valid head body given c.outcome.ensures;
      declines = answer_declines head body given c.outcome.ensures;
      hides = answer_hides head body given c.outcome.ensures;
    }
