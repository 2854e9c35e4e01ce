use Rattle.std.proofs.Common.{◌≡◌, not, ℕ, List, Bor, ap, subst, ◌∙◌}
use Rattle.std.specs.List.{AllZip}
use Rattle.rayon.specs.Lists.{filter_base, iter_slice, min_len_base}
use Rattle.rayon.proofs.ListFacts.{IfOk-then}
use Rattle.zot_digest.specs.Digest.{is_sound}
use Rattle.zot_model.specs.declared.finding.Finding.TheVariants.{Damaged}
use Rattle.zot_scrub.proofs.ChainLemmas.{picked}
use Rattle.zot_scrub.proofs.damaged.damaged.Goals as goal

pub returns : goal.returns
returns g c =
    let slice =
    ap (λ it. iter_slice (min_len_base (filter_base it))) c.map.ensures.base
    ∙ ap (λ it. iter_slice (min_len_base it)) c.filter.ensures.base
    ∙ ap (λ it. iter_slice it) c.with_min_len.ensures.base
    ∙ c.par_iter.ensures in
    IfOk-then c.collect.result _ _ c.collect.ensures (λ v h.
    let kept = h.1.1 in
    h.2
    ∙ picked (λ (blob : List ℕ × List ℕ). not (is_sound blob.0 blob.1)) (λ blob. Damaged blob.0) c.args.contents.now kept.0 kept.1 h.0
    (kept.2 ∙ slice) kept.3
    (subst (λ zs. AllZip (λ (z : Bor (List ℕ × List ℕ)) y. y ≡ Damaged z.now.0) zs h.0) kept.4 h.1.2))
