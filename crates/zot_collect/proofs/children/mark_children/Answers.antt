use Rattle.std.proofs.Common.{◌≡◌, ◌∙◌, true, subst, sym, arith, true≢false}
use Rattle.std.proofs.lemmas.List.{take_all}
use Rattle.zot_collect.proofs.SpreadLemmas.{spreads_further, spreads_none}
use Rattle.zot_collect.specs.Marks.{Spreads}
use Rattle.zot_media.specs.References.{has_digest}
use Rattle.zot_collect.proofs.children.mark_children.Goals as goal

pub loop-child-init : goal.loop-child-init
loop-child-init c = spreads_none _ c.args.manifests.now c.args.state.now (λ place row at h. true≢false (sym h))

pub mark_digest-requires : goal.mark_digest-requires
mark_digest-requires c = record { long = c.loop-child.invariant.grows.long ∙ c.requires.long; ascend = c.requires.ascend }

pub loop-child-preserved : goal.loop-child-preserved
loop-child-preserved c =
    spreads_further c.args.manifests.now c.args.children.now c.loop-child.child-index c.child-item.result c.args.state.now c.loop-child.state c.mark_digest.new.self
    c.loop-child-test.true c.child-item.is c.loop-child.invariant c.in_ok-mark_digest.ensures

pub returns : goal.returns
returns c =
    subst (λ children. Spreads (λ row. has_digest row.digest children ≡ true) c.args.manifests.now c.args.state.now c.loop-child.state)
    (take_all c.loop-child.child-index c.args.children.now (omega (arith, c.loop-child-test.false))) c.loop-child.invariant
