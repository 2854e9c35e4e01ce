use Rattle.std.proofs.Common.{◌&&◌, not, ℕ, List, sym, subst}
use Rattle.std.specs.BTreeSet.{contains}
use Rattle.zot_collect.proofs.SetLemmas.{ascend_filter}
use Rattle.zot_model.specs.Ages.{is_aged}
use Rattle.zot_model.specs.Sweep.{blob_digests}
use Rattle.zot_digest.specs.ByteMap.{byte_cmp}
use Rattle.zot_retention.specs.Kept.{Ascend}
use Rattle.zot_collect.proofs.sweeping.sweepable.Goals as goal

pub returns-clause-ascend : goal.returns-clause-ascend
returns-clause-ascend c = λ up.
    let test = λ (blob : List ℕ × ℕ). is_aged c.args.moment c.args.delay blob.1 && not (contains byte_cmp c.in_ok-held.held blob.0) in
    subst (λ found. Ascend found) (sym c.in_ok-found.ensures)
    (ascend_filter (λ (blob : List ℕ × ℕ). blob.0) test c.as_slice-2.result.now
    (subst (λ blobs. Ascend (blob_digests blobs)) (sym c.as_slice-2.ensures.value) up))
