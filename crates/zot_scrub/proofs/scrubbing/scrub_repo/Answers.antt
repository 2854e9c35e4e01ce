use Rattle.std.proofs.Common.{◌++◌, ap, sym, ◌∙◌, append-nil}
use Rattle.std.specs.BTreeSet.{contains}
use Rattle.std.specs.List.{flat_map}
use Rattle.std.proofs.lemmas.List.{take_all}
use Rattle.zot_digest.specs.ByteMap.{byte_cmp}
use Rattle.zot_model.specs.Findings.{damaged, findings}
use Rattle.zot_scrub.specs.Missing.{missing_by}
use Rattle.zot_scrub.proofs.WalkLemmas.{found_further}
use Rattle.zot_scrub.proofs.scrubbing.scrub_repo.Goals as goal

pub loop-row-init : goal.loop-row-init
loop-row-init g c = c.in_ok-found.ensures ∙ sym (append-nil (damaged c.args.contents.now))

pub loop-row-preserved : goal.loop-row-preserved
loop-row-preserved g c =
    found_further (missing_by (contains byte_cmp c.in_ok-stored.stored)) (damaged c.args.contents.now) c.args.manifests.now c.loop-row.row-index c.row-item.result
    _ _ c.loop-row-test.true c.row-item.is c.loop-row.invariant c.in_ok-add_missing.ensures

pub returns : goal.returns
unfolding findings
returns g c =
    c.loop-row.invariant
    ∙ ap (λ rows. damaged c.args.contents.now ++ flat_map (missing_by (contains byte_cmp c.in_ok-stored.stored)) rows)
    (take_all c.loop-row.row-index c.args.manifests.now c.loop-row-test.false)
    ∙ (λ i. damaged c.args.contents.now ++ flat_map (missing_by (λ digest. c.in_ok-stored.ensures digest i)) c.args.manifests.now)
