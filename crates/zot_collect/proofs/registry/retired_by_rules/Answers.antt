use Rattle.zot_collect.proofs.RegistryLemmas.{no_others, retires}
use Rattle.zot_collect.proofs.registry.retired_by_rules.Goals as goal

pub returns : goal.returns
returns c = record { retires = retires; no_others = no_others }
