use Rattle.std.proofs.Common.{◌∙◌, Option, subst}
use Rattle.zot_outside.specs.Objects.{Objects, Told}
use Rattle.zot_links.proofs.PartLemmas.{ok_so, record_stands_so, record_written, stands_where}
use Rattle.zot_links.specs.Changes.{WritesRecord}
use Rattle.zot_links.proofs.part.put_record.Goals as goal

pub returns-then-branch-clause-ok : goal.returns-then-branch-clause-ok
returns-then-branch-clause-ok g c =
    let says = c.in_ok-text.ensures in
    let at = c.as_str.ensures.value ∙ c.in_ok-path.ensures.path in
    record_stands_so c.args.digest.now c.as_str.result.now c.in_ok-text.text.items says.0 c.args.links.now c.in_ok-path.ensures.digest at says.1 says.2
    (g.S.Store.objects c.args.part.now) (g.S.Store.objects c.record_is.new.part)
    (stands_where (g.S.Store.objects c.args.part.now) c.as_str.result.now c.as_slice.result.now c.in_ok-text.text.items c.in_ok-record_is.field-0 c.if-branch.true c.as_slice.ensures.value c.in_ok-record_is.ensures.ok)
    c.in_ok-record_is.ensures.kept

pub returns-clause-ok : goal.returns-clause-ok
returns-clause-ok g c =
    let says = c.in_ok-text.ensures in
    let at = c.as_str-2.ensures.value ∙ c.in_ok-path.ensures.path in
    ok_so c.write_record.result _ _ (λ k. record_written c.args.digest.now c.as_str-2.result.now c.in_ok-text.text.items says.0 c.args.links.now c.in_ok-path.ensures.digest at says.1 says.2
    (g.S.Store.objects c.args.part.now) (g.S.Store.objects c.write_record.new.part)
    (subst (λ (o : Option Objects). Told o (g.S.Store.objects c.write_record.new.part) (λ old new. WritesRecord old c.as_str-2.result.now c.in_ok-text.text.items new)) c.in_ok-record_is.ensures.kept
    (subst (λ t. Told (g.S.Store.objects c.record_is.new.part) (g.S.Store.objects c.write_record.new.part) (λ old new. WritesRecord old c.as_str-2.result.now t new)) c.as_slice-2.ensures.value k)))
    c.write_record.ensures.ok
