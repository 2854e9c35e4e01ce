use Rattle.zot_contents.proofs.HolderLemmas.{own_leads}
use Rattle.zot_contents.proofs.holder_laws.holders_follow.Goals as goal

pub returns : goal.returns
returns c mine opening new entries digest name is named own history = own_leads digest name mine own opening new entries is named history
