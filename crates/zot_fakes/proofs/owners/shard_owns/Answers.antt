use Rattle.zot_fakes.proofs.OwnerLemmas.{none_by_parts, owns_by_parts, same_test}
use Rattle.zot_fakes.proofs.owners.shard_owns.Goals as goal

pub returns-in-Some : goal.returns-in-Some
returns-in-Some c =
    same_test c.is_file_of_shard.result
    (owns_by_parts c.args.shard c.args.path.now c.in-Some.folder.now c.in-Some.digits.now c.in-Some.ensures.0 c.in-Some.ensures.1) c.is_file_of_shard.ensures

pub returns-in-None : goal.returns-in-None
returns-in-None c = (λ f. cc f, λ h. absurd (none_by_parts c.args.shard c.args.path.now c.in-None.ensures h))
