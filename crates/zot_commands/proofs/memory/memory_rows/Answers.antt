use Rattle.std.proofs.Common.{Some, ap, refl}
use Rattle.zot_fakes.specs.Fakes.{steady_objects}
use Rattle.zot_fakes.specs.contracts.steady_store.SteadyStoreStore.TheImpl.{ghosts}
use Rattle.zot_commands.proofs.MemoryLemmas.{bare_tight, only_memory, pool_steady, states_none}
use Rattle.zot_commands.proofs.memory.memory_rows.Goals as goal

pub of_memory-requires : goal.of_memory-requires
of_memory-requires c =
    only_memory (λ s. 0) (λ s. refl) (λ s. Some (steady_objects s)) _ 0 c.in_ok-parts.parts.items c.in-Err.unopened.parts.items c.in_ok-shards.shards.items c.in-Err.unopened.shards.items c.in-Err.unopened.error
    (λ k d within. ap Some (c.in_ok-parts.ensures.empty k d within)) (λ k d within. ap Some (c.in_ok-shards.ensures.empty k d within)) c.in_ok-parts.ensures.many c.in_ok-shards.ensures.many c.in-Err.ensures.cause c.in-Err.ensures.bad

pub returns-in-Ok-clause-empty : goal.returns-in-Ok-clause-empty
returns-in-Ok-clause-empty c =
    states_none {G = ghosts} (λ s. refl) _ 0 c.in_ok-parts.parts.items (λ k d within. ap Some (c.in_ok-parts.ensures.empty k d within)) c.in_ok-parts.ensures.many c.in-Ok.rows c.in_ok-shards.shards.items c.in-Ok.ensures.config
    (λ k d within. ap Some (c.in_ok-shards.ensures.empty k d within)) c.in-Ok.ensures.pooled c.in-Ok.ensures.failed c.in-Ok.ensures.agreed c.in-Ok.ensures.state

pub returns-in-Ok-clause-faults : goal.returns-in-Ok-clause-faults
returns-in-Ok-clause-faults c = pool_steady {G = ghosts} (λ s. refl) c.in-Ok.rows

pub returns-in-Ok-clause-tight : goal.returns-in-Ok-clause-tight
returns-in-Ok-clause-tight c =
    c.in-Ok.ensures.tight (bare_tight (λ s. Some (steady_objects s)) c.in_ok-shards.shards.items (λ k d within. ap Some (c.in_ok-shards.ensures.empty k d within)) c.in_ok-shards.ensures.many)
