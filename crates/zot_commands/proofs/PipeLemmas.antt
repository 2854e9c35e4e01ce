-- A connection that `pipe` serves over rows in memory, and one for which there was no memory to begin with.
use Rattle.std.proofs.Common.{◌≡◌, ℕ, List, [], Option, inr, refl, subst}
use Rattle.std.specs.List.{All}
use Rattle.std.specs.Prelude.{IfSome, IsSomeAnd, unwrap_or}
use Rattle.zot_cluster.proofs.EntryLemmas.{records_none}
use Rattle.zot_cluster.specs.Connections.{IsConducted}
use Rattle.zot_cluster.specs.Entries.{Records}
use Rattle.zot_outside.specs.declared.stores.store.Store.{Ghosts}
use Rattle.zot_repo.specs.declared.row_config.RowConfig.{RowConfig}
use Rattle.zot_rows.specs.Histories.{BothTell, EachRuns, empty_rows}
use Rattle.zot_rows.specs.Rows.{AreAgreedIn, failed_in, states_of}
use Rattle.zot_rows.specs.declared.rows.Rows.{Rows}
use Rattle.zot_session.proofs.SessionLemmas.{never_began, served_map}
use Rattle.zot_session.specs.Ends.{EndsAs, HasFailed}
use Rattle.zot_session.specs.Exchanges.{Exchange}
use Rattle.zot_session.specs.Session.{Served}
use Rattle.zot_session.specs.declared.end.End.{End}
use Rattle.zot_session.specs.declared.end.End.TheVariants as ends
use Rattle.zot_commands.proofs.MemoryLemmas.{in_memory, states_steady, still_none}
use Rattle.zot_commands.specs.Memory.{Pipes, memory_config}

module _ {S : Type 0} {G : Ghosts S} (steady : (s : S) → G.faults s ≡ 0) (first last : Rows S G) (config : first.config ≡ memory_config) (agreed : AreAgreedIn first) (empty : IsSomeAnd (states_of first) (EachRuns empty_rows []))
    (none : All (λ count. count ≡ 0) (failed_in first)) where
  -- the exchanges of a connection over rows without a repository, at the moment that another clock tells too
  recorded_so : (told other later : Option ℕ) (exchanges : List Exchange) → told ≡ other → IsConducted first 0 told later exchanges last → Records memory_config 0 other empty_rows exchanges (unwrap_or (states_of last) empty_rows)
  recorded_so told other later exchanges same conducted =
      in_memory memory_config 0 other (states_of first) (states_of last) exchanges empty
      (subst (λ (c : RowConfig). BothTell (states_of first) (states_of last) (λ before after. Records c 0 other before exchanges after)) config
      (subst (λ (t : Option ℕ). BothTell (states_of first) (states_of last) (λ before after. Records first.config 0 t before exchanges after)) same (conducted.history agreed)))

  -- a connection was served over them
  pub pipes : (told other later : Option ℕ) (end : End) (left left' held held' : Option (List ℕ)) → told ≡ other → Served (λ exchanges. IsConducted first 0 told later exchanges last) end left left' held held'
      → (¬ HasFailed end → IfSome left (λ bytes. EndsAs bytes end)) → Pipes other end left left' held held'
  pipes told other later end left left' held held' same served of_bytes = record {
    table = unwrap_or (states_of last) empty_rows;
    served = served_map _ (λ exchanges routed conducted. recorded_so told other later exchanges same conducted) served;
    of_bytes = of_bytes;
    faults = states_steady steady last (still_none steady first last served.has_history.kept.cause none);
  }

-- nothing was read, and nothing written
pub unserved : (told : Option ℕ) (left held : Option (List ℕ)) → Pipes told ends.NoMemory left left held held
unserved told left held = record {
  table = empty_rows;
  served = never_began (λ exchanges. Records memory_config 0 told empty_rows exchanges empty_rows) (records_none memory_config 0 told empty_rows) left held;
  of_bytes = λ failed. absurd (failed (inr (inr refl)));
  faults = λ row. refl;
}
