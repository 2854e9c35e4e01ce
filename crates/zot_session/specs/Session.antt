-- What a connection was from its first byte to its end.
use Rattle.std.specs.Prelude.{ℕ, ◌≤◌, List, length, map, Option}
use Rattle.std.specs.List.{AllByRecursion}
use Rattle.zot_outside.specs.Streams.{Appends, Takes}
use Rattle.zot_session.specs.declared.end.End.{End}
use Rattle.zot_session.specs.Cuts.{budget}
use Rattle.zot_session.specs.Ending.{Ending}
use Rattle.zot_session.specs.Exchanges.{Exchange, IsRouted, message_of}
use Rattle.zot_session.specs.Messages.{Messages}

-- A connection was served. The bytes taken are those of the exchanges' messages and of a rest; what was written is what the exchanges and the end say;
-- and the exchanges have a history.
pub record Served (history : List Exchange → Type 0) (end : End) (left_before left_after held_before held_after : Option (List ℕ)) : Type 0 where
  pub taken : List ℕ
  pub exchanges : List Exchange
  pub rest : List ℕ
  pub sent : List ℕ
  pub reads : Takes left_before taken left_after
  pub writes : Appends held_before sent held_after
  pub messages : Messages taken (map message_of exchanges) rest
  pub routed : AllByRecursion IsRouted exchanges
  pub has_history : history exchanges
  pub within : length taken ≤ budget
  pub ending : Ending end (length taken) exchanges rest left_after sent
