use Rattle.std.proofs.Common.{refl}
use Rattle.zot_fakes.specs.contracts.steady_store.SteadyStoreStore.TheImpl.{ghosts}
use Rattle.zot_commands.proofs.PipeLemmas.{pipes, unserved}
use Rattle.zot_commands.proofs.memory.pipe_in_memory.Goals as goal

pub returns-in-Ok-clause-served : goal.returns-in-Ok-clause-served
returns-in-Ok-clause-served g c =
    pipes {G = ghosts} (λ s. refl) c.in-Ok.rows c.serve_rows.new.rows c.in-Ok.ensures.config c.in-Ok.ensures.agreed c.in-Ok.ensures.empty c.in-Ok.ensures.failed _ _ _ _ _ _ _ _ c.clock-clock.ensures.clock
    c.serve_rows.ensures.served c.serve_rows.ensures.of_bytes

pub returns-in-Err-clause-served : goal.returns-in-Err-clause-served
returns-in-Err-clause-served g c = unserved (g.H.Host.moment c.args.host.now) (g.C.Source.left c.args.input.now) (g.K.Sink.held c.args.output.now)
