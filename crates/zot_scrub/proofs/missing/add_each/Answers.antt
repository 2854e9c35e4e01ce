use Rattle.std.proofs.Common.{◌≡◌, ◌++◌, map, rules, ap, ◌∙◌}
use Rattle.std.specs.Map.Iter.{deref}
use Rattle.std.proofs.lemmas.Map.Iter.{iter_end}
use Rattle.zot_model.specs.declared.finding.Finding.TheVariants.{Missing}
use Rattle.zot_scrub.proofs.SetLemmas.{set_in_order}
use Rattle.zot_scrub.proofs.missing.add_each.Goals as goal

pub returns : goal.returns
returns c = λ digests same.
    let all : map deref c.loop-digest.yielded ≡ c.args.lacking.now.keys = search (rules, iter_end) in
    c.loop-digest.invariant
    ∙ ap (λ found. c.args.found.now.items ++ map (λ digest. Missing c.args.manifest digest) found)
    (all ∙ set_in_order c.args.lacking.now.keys digests c.into_iter-digest-iterator.ensures.into_iter_gives.4 same)
