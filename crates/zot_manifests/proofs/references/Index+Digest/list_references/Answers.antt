use Rattle.std.proofs.Common.{true}
use Rattle.std.proofs.lemmas.Result.{on_ok_weaker}
use Rattle.zot_manifests.proofs.IndexLemmas.{by_reading}
use Rattle.zot_manifests.proofs.references.Index+Digest.list_references.Goals as goal

pub returns-clause-ok : goal.returns-clause-ok
returns-clause-ok c =
    on_ok_weaker c.list_each-2.result (λ children.
    by_reading true c.args.digest.now c.args.self.now.sets c.list_each.new.self.sets c.list_each-2.new.self.sets c.args.reading.now c.as_slice.result.now c.as_slice-2.result.now c.as_slice.ensures c.as_slice-2.ensures
    c.in_ok-list_each.ensures.ok children)
    c.list_each-2.ensures.ok
