use Rattle.std.proofs.Common.{refl, ◌∙◌}
use Rattle.zot_contents.proofs.HolderLemmas.{own_leads, owner_at}
use Rattle.zot_contents.proofs.holder_laws.owner_decides.Goals as goal

pub returns : goal.returns
returns c owner mine opening new entries digest name is named own owns history =
    own_leads digest name mine own opening new entries is named history ∙ owner_at digest name mine own owner entries opening opening owns refl
