use Rattle.zot_contents.proofs.HolderLemmas.{own_run}
use Rattle.zot_contents.proofs.holder_laws.own_entries_are_a_run.Goals as goal

pub returns : goal.returns
returns c mine opening new entries history = own_run mine opening new entries history
