use Rattle.std.proofs.Common.{rules}
use Rattle.zot_links.proofs.OpeningLemmas.{told_lacks, told_stands}
use Rattle.zot_links.proofs.opening.open_links.Goals as goal

pub returns-in-Ok-clause-ok : goal.returns-in-Ok-clause-ok
returns-in-Ok-clause-ok g c =
    told_stands (g.S.Store.objects c.args.part.now) c.args.digest.now c.in_ok-text.text.items c.as_slice.result.now c.args.found.now c.in-Ok.links c.as_slice.ensures.value c.in_ok-text.ensures.ok c.in-Ok.ensures.read c.in-Ok.ensures.ok

pub returns-in-Err-Bad-clause-bad : goal.returns-in-Err-Bad-clause-bad
returns-in-Err-Bad-clause-bad g c =
    told_lacks (g.S.Store.objects c.args.part.now) c.args.digest.now c.in_ok-text.text.items c.as_slice.result.now c.args.found.now c.as_slice.ensures.value c.in_ok-text.ensures.ok (c.in-Err-Bad.ensures.bad (search rules))
