use Rattle.std.proofs.Common.{◌≡◌, ◌++◌, map, sym, subst, ◌∙◌}
use Rattle.std.specs.BTreeSet.{contains}
use Rattle.std.specs.Result.{OnOk}
use Rattle.std.proofs.lemmas.Bool.{cond-true}
use Rattle.zot_digest.specs.ByteMap.{byte_cmp}
use Rattle.zot_model.specs.Findings.{in_order}
use Rattle.zot_model.specs.declared.finding.Finding.TheVariants.{Missing}
use Rattle.zot_scrub.specs.Missing.{lacking}
use Rattle.zot_scrub.proofs.missing.add_missing.Goals as goal

pub returns : goal.returns
returns c =
    let is_there = contains byte_cmp c.args.stored.now in
    let row = c.args.row.now in
    let digests = lacking is_there row in
    subst (λ missing. OnOk c.add_each.result (c.add_each.new.found.items ≡ c.args.found.now.items ++ missing))
    (sym (cond-true (is_there row.digest) (map (λ digest. Missing row.digest digest) (in_order digests)) _ (sym c.contains.ensures ∙ c.if-not-contains.false)))
    (c.add_each.ensures digests c.in_ok-lacking.ensures)
