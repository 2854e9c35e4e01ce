-- What was seen of the rows, and a connection after it.
use Rattle.std.proofs.Common.{ℕ, List, Option}
use Rattle.zot_repo.specs.declared.row_config.RowConfig.{RowConfig}
use Rattle.zot_rows.proofs.HistoryLemmas.{each_append}
use Rattle.zot_rows.specs.Histories.{RowStates}
use Rattle.zot_session.specs.Exchanges.{Exchange}
use Rattle.zot_cluster.specs.Entries.{Records}
use Rattle.zot_cluster.specs.Views.{Follows, IsOf, View}

-- the entries of the exchanges are behind those that were seen
pub follows : (config : RowConfig) (member : ℕ) (told : Option ℕ) (view : View) (before after : RowStates) (exchanges : List Exchange) → IsOf view before → Records config member told before exchanges after → Follows config member told view exchanges after
follows config member told view before after exchanges is ran = record { made = ran.made; own = ran.own; is_of = each_append view.opening before after view.entries ran.made is ran.run }
