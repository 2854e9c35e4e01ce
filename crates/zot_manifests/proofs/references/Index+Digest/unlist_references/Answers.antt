use Rattle.std.proofs.Common.{false}
use Rattle.zot_manifests.proofs.IndexLemmas.{by_reading}
use Rattle.zot_manifests.proofs.references.Index+Digest.unlist_references.Goals as goal

pub returns : goal.returns
returns c =
    by_reading false c.args.digest.now c.args.self.now.sets c.unlist_each.new.self.sets c.unlist_each-2.new.self.sets c.args.reading.now c.as_slice.result.now c.as_slice-2.result.now c.as_slice.ensures c.as_slice-2.ensures
    c.unlist_each.ensures c.unlist_each-2.ensures
