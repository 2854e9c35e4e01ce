use Rattle.std.proofs.Common.{ap, slice_index, ◌∙◌}
use Rattle.zot_fakes.proofs.OwnerLemmas.{no_digits, shard_by}
use Rattle.zot_fakes.proofs.owners.is_of_shard.Goals as goal

pub returns-in-Ok : goal.returns-in-Ok
returns-in-Ok c =
    shard_by c.as_str.result.now c.args.digits.now c.in-Ok.digest (slice_index c.as_bytes.result.now 0) c.args.shard
    (c.as_str.ensures.value ∙ c.in_ok-text.ensures.ok) c.in-Ok.ensures.read c.as_bytes.ensures.digest (ap (λ b. slice_index b 0) c.as_bytes.ensures.value)

pub returns : goal.returns
returns c = (
  λ f. cc f,
  λ h. absurd (no_digits c.as_str.result.now c.args.digits.now c.args.shard (c.as_str.ensures.value ∙ c.in_ok-text.ensures.ok) c.in-Err.ensures.bad h),
)
