use Rattle.std.proofs.Common.{None, Some, subst, sym}
use Rattle.zot_links.proofs.AimLemmas.{all_there, chosen, some_bytes}
use Rattle.zot_links.specs.Meaning.{StandsWhereTold}
use Rattle.zot_links.proofs.attaching.choose.Goals as goal

pub least_in-requires : goal.least_in-requires
least_in-requires g c =
    all_there (g.S.Store.objects c.holds_already.new.part) c.args.digest.now c.args.links.now c.tree.result.now.entries c.tree.ensures
    (subst (λ o. StandsWhereTold o c.args.digest.now c.args.links.now) (sym c.in_ok-holds_already.ensures.kept) c.requires)

pub returns-in-Some-clause-ok : goal.returns-in-Some-clause-ok
returns-in-Some-clause-ok g c =
    chosen (g.S.Store.objects c.args.part.now) (g.S.Store.objects c.holds_already.new.part) c.args.dedupe c.args.digest.now c.args.links.now c.args.name.now c.args.bytes.now c.tree.result.now.entries
    c.in_ok-holds_already.field-0 (Some c.in-Some.origin) c.tree.ensures c.in_ok-origin.ensures.ordered c.in_ok-holds_already.ensures.kept c.if-branch.false
    (c.if-not-dedupe.false, some_bytes c.args.bytes.now c.is_empty.result c.is_empty.ensures c.if-is_empty.false) c.in_ok-holds_already.ensures.ok (rw c.in-Some.is at c.in_ok-origin.ensures.ok)

pub returns-in-None-clause-ok : goal.returns-in-None-clause-ok
returns-in-None-clause-ok g c =
    chosen (g.S.Store.objects c.args.part.now) (g.S.Store.objects c.holds_already.new.part) c.args.dedupe c.args.digest.now c.args.links.now c.args.name.now c.args.bytes.now c.tree.result.now.entries
    c.in_ok-holds_already.field-0 None c.tree.ensures c.in_ok-origin.ensures.ordered c.in_ok-holds_already.ensures.kept c.if-branch.false
    (c.if-not-dedupe.false, some_bytes c.args.bytes.now c.is_empty.result c.is_empty.ensures c.if-is_empty.false) c.in_ok-holds_already.ensures.ok (rw c.in-None.is at c.in_ok-origin.ensures.ok)
