use Rattle.std.proofs.Common.{inl}
use Rattle.zot_fakes.proofs.OwnerLemmas.{repository_by}
use Rattle.zot_fakes.proofs.owners.repository_of.Goals as goal
use Rattle.zot_fakes.specs.Owners.{marker_path}

pub returns-in-Some : goal.returns-in-Some
unfolding marker_path
returns-in-Some c = record { is_name = c.in-Some.ensures.0; spelled = inl c.in-Some.ensures.1 }

pub returns-in-None : goal.returns-in-None
returns-in-None c = repository_by c.name_before-in-None.result c.args.path.now c.in-None.ensures c.name_before-in-None.ensures
