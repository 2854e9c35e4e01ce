use Rattle.zot_session.proofs.SessionLemmas.{served_map}
use Rattle.zot_cluster.proofs.ConnectionLemmas.{conducts_rows}
use Rattle.zot_cluster.proofs.answering.MemberAnswers.serve.Goals as goal

pub returns-clause-rows_named : goal.returns-clause-rows_named
returns-clause-rows_named g c = (conducts_rows _ _ _ _ _ _ _ _ _ c.args.self.now c.session.new.answers c.session.ensures.served.exchanges c.session.ensures.served.has_history).1.rows_named

pub returns-clause-scratch_named : goal.returns-clause-scratch_named
returns-clause-scratch_named g c = (conducts_rows _ _ _ _ _ _ _ _ _ c.args.self.now c.session.new.answers c.session.ensures.served.exchanges c.session.ensures.served.has_history).1.scratch_named

pub returns-clause-upstream_named : goal.returns-clause-upstream_named
returns-clause-upstream_named g c = (conducts_rows _ _ _ _ _ _ _ _ _ c.args.self.now c.session.new.answers c.session.ensures.served.exchanges c.session.ensures.served.has_history).1.upstream_named

pub returns-clause-clock_named : goal.returns-clause-clock_named
returns-clause-clock_named g c = (conducts_rows _ _ _ _ _ _ _ _ _ c.args.self.now c.session.new.answers c.session.ensures.served.exchanges c.session.ensures.served.has_history).1.clock_named

pub returns-clause-scratch : goal.returns-clause-scratch
returns-clause-scratch g c = (conducts_rows _ _ _ _ _ _ _ _ _ c.args.self.now c.session.new.answers c.session.ensures.served.exchanges c.session.ensures.served.has_history).1.scratch_is

pub returns-clause-upstream : goal.returns-clause-upstream
returns-clause-upstream g c = (conducts_rows _ _ _ _ _ _ _ _ _ c.args.self.now c.session.new.answers c.session.ensures.served.exchanges c.session.ensures.served.has_history).1.upstream_is

pub returns-clause-kept : goal.returns-clause-kept
returns-clause-kept g c = (conducts_rows _ _ _ _ _ _ _ _ _ c.args.self.now c.session.new.answers c.session.ensures.served.exchanges c.session.ensures.served.has_history).0.kept

pub returns-clause-served : goal.returns-clause-served
returns-clause-served g c = served_map _ (λ exchanges routed history. (conducts_rows _ _ _ _ _ _ _ _ _ c.args.self.now c.session.new.answers exchanges history).0) c.session.ensures.served
