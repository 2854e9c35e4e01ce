use Rattle.zot_collect.proofs.RegistryLemmas.{first_sweeps, none_left, others_left}
use Rattle.zot_collect.proofs.registry.swept_one_by_one.Goals as goal

pub returns : goal.returns
returns c = record { first = first_sweeps; others = others_left; none = none_left }
