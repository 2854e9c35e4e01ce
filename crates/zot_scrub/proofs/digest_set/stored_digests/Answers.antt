use Rattle.std.proofs.Common.{ℕ, List}
use Rattle.std.specs.Str.{bytes_eq}
use Rattle.zot_scrub.proofs.SetLemmas.{any_further}
use Rattle.zot_scrub.proofs.digest_set.stored_digests.Goals as goal

pub loop-blob-preserved : goal.loop-blob-preserved
loop-blob-preserved c = λ digest.
    any_further (λ (blob : List ℕ × List ℕ). bytes_eq blob.0 digest) c.args.contents.now c.loop-blob.blob-index c.blob-item.result
    c.loop-blob-test.true c.blob-item.is _ _ (c.loop-blob.invariant digest) (c.in_ok-add.ensures digest)
