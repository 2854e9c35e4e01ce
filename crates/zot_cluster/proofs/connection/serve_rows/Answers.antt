use Rattle.std.proofs.Common.{rules}
use Rattle.zot_session.specs.Session.{Served}
use Rattle.zot_cluster.proofs.ConnectionLemmas.{given_back}
use Rattle.zot_cluster.specs.Connections.{IsConducted}
use Rattle.zot_cluster.proofs.connection.serve_rows.Goals as goal

pub returns-clause-served : goal.returns-clause-served
returns-clause-served g c =
    let told = g.T.Clock.moment in
    let now = c.serve.new.self in
    given_back
    (λ rows clock. Served (λ exchanges. IsConducted c.args.rows.now c.args.member (told c.args.clock.now) (told clock) exchanges rows) c.serve.result (g.C.Source.left c.args.source.now) (g.C.Source.left c.serve.new.source) (g.K.Sink.held c.args.sink.now) (g.K.Sink.held c.serve.new.sink))
    now.rows.now _ now.clock.now _ (search rules) (search rules) c.serve.ensures.served
