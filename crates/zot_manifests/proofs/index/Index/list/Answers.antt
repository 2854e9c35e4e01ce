use Rattle.std.proofs.Common.{true}
use Rattle.std.proofs.lemmas.Result.{on_err_weaker, on_ok_weaker}
use Rattle.zot_manifests.proofs.SetLemmas.{kept, written}
use Rattle.zot_manifests.proofs.index.Index.list.Goals as goal

pub returns-in-Some-clause-ok : goal.returns-in-Some-clause-ok
returns-in-Some-clause-ok g c =
    on_ok_weaker c.add_to.result (λ one.
    written g.K.Ord.cmp c.args.self.now.sets.entries (c.get_mut.follows.lender c.add_to.new.set).entries c.args.digest true c.args.value c.in-Some.set.now c.add_to.new.set c.in-Some.ensures.value (c.get_mut.follows.holds c.add_to.new.set).3 one)
    c.add_to.ensures.ok

pub returns-in-Some-clause-err : goal.returns-in-Some-clause-err
returns-in-Some-clause-err g c =
    on_err_weaker c.add_to.result (λ same.
    kept g.K.Ord.cmp c.args.self.now.sets.entries (c.get_mut.follows.lender c.add_to.new.set).entries c.args.digest c.in-Some.set.now c.add_to.new.set c.in-Some.ensures.value (c.get_mut.follows.holds c.add_to.new.set).3 same)
    c.add_to.ensures.err
