use Rattle.std.proofs.Common.{ap, ◌∙◌}
use Rattle.zot_fakes.proofs.OwnerLemmas.{row_by}
use Rattle.zot_fakes.proofs.owners.row_owns.Goals as goal
use Rattle.zot_siphash.specs.Owners.{row}
use Rattle.zot_siphash.specs.SipHash.{siphash}

pub returns-in-Some : goal.returns-in-Some
returns-in-Some c =
    row_by c.args.key.now c.args.members c.args.row c.args.path.now c.in-Some.name.now c.row_of.result c.in-Some.ensures
    (c.row_of.ensures ∙ ap (λ n. row (siphash c.args.key.now n) c.args.members) c.as_bytes.ensures.value)
