use Rattle.std.proofs.Common.{ℕ, List, refl, is_some, not, sym, ap, ◌∙◌}
use Rattle.zot_model.specs.Manifests.{first_missing}
use Rattle.std.proofs.lemmas.List.{drop_all}
use Rattle.zot_manifests.proofs.CheckLemmas.{missing_here, missing_later}
use Rattle.zot_manifests.proofs.checking.first_missing.Goals as goal

pub loop-digest-init : goal.loop-digest-init
loop-digest-init g c = refl

pub returns-then-is_none : goal.returns-then-is_none
returns-then-is_none g c =
    sym (missing_here (λ (digest : List ℕ). is_some (g.H.Held.sizes c.args.held.now digest)) c.args.digests.now c.loop-digest.digest-index c.digest-item.result c.loop-digest-test.true c.digest-item.is
    (ap is_some (sym c.size.ensures) ∙ c.is_none.ensures ∙ ap not c.if-is_none.true))
    ∙ c.loop-digest.invariant

pub loop-digest-preserved : goal.loop-digest-preserved
loop-digest-preserved g c =
    missing_later (λ (digest : List ℕ). is_some (g.H.Held.sizes c.args.held.now digest)) c.args.digests.now c.loop-digest.digest-index c.digest-item.result c.loop-digest-test.true c.digest-item.is
    (ap is_some (sym c.size.ensures) ∙ c.is_none.ensures ∙ ap not c.if-is_none.false)
    ∙ c.loop-digest.invariant

pub returns : goal.returns
returns g c =
    sym (ap (first_missing (λ (digest : List ℕ). is_some (g.H.Held.sizes c.args.held.now digest))) (drop_all c.loop-digest.digest-index c.args.digests.now c.loop-digest-test.false)) ∙ c.loop-digest.invariant
