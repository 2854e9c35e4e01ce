use Rattle.std.proofs.Common.{◌∙◌, subst}
use Rattle.zot_links.proofs.PartLemmas.{ok_so, record_written}
use Rattle.zot_outside.specs.Objects.{Told}
use Rattle.zot_links.specs.Changes.{WritesRecord}
use Rattle.zot_links.proofs.part.replace_record.Goals as goal

pub returns-clause-ok : goal.returns-clause-ok
returns-clause-ok g c =
    let says = c.in_ok-text.ensures in
    let at = c.as_str.ensures.value ∙ c.in_ok-path.ensures.path in
    ok_so c.write_record.result _ _ (λ k. record_written c.args.digest.now c.as_str.result.now c.in_ok-text.text.items says.0 c.args.links.now c.in_ok-path.ensures.digest at says.1 says.2
    (g.S.Store.objects c.args.part.now) (g.S.Store.objects c.write_record.new.part)
    (subst (λ t. Told (g.S.Store.objects c.args.part.now) (g.S.Store.objects c.write_record.new.part) (λ old new. WritesRecord old c.as_str.result.now t new)) c.as_slice.ensures.value k)) c.write_record.ensures.ok
