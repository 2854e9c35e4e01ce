use Rattle.std.proofs.Common.{Option, List, ℕ, refl, ap, ◌∙◌, arith}
use Rattle.zot_model.specs.declared.reply.Reply.TheVariants.{ManifestMade}
use Rattle.zot_outside.specs.declared.stores.store_error.StoreError.TheVariants.{NoMemory}
use Rattle.zot_row.proofs.AttachLemmas.{manifest_made, manifest_refused}
use Rattle.zot_table.specs.Changes.{with_checked}
use Rattle.zot_table.specs.Tables.{RepoTable}
use Rattle.zot_row.proofs.holding.keep.Goals as goal

pub returns-in_default : goal.returns-in_default
returns-in_default g c = λ table digest size is known.
    let objects = g.S.Store.objects c.args.part.now in
    let faults = g.S.Store.faults c.args.part.now in
    manifest_refused c.args.moment c.args.name.now table digest size c.args.checked known objects objects faults faults NoMemory c.no_memory.result c.put_manifest.new.self c.no_memory.ensures
    (c.in_default.ensures.err ∙ is) (record { later = omega arith; failed = tt; kept = refl }) refl

pub returns-in-Ok-write_index : goal.returns-in-Ok-write_index
returns-in-Ok-write_index g c = λ table digest size is known.
    let objects = g.S.Store.objects in
    let faults = g.S.Store.faults in
    manifest_made c.args.moment c.args.name.now table digest size c.args.checked known (objects c.args.part.now) (objects c.write_index.new.part) (faults c.args.part.now) (faults c.write_index.new.part)
    (ManifestMade c.args.checked.digest c.subject_digest-subject.result) c.put_manifest.new.self (ap (λ (s : Option (List ℕ)). ManifestMade c.args.checked.digest s) c.subject_digest-subject.ensures)
    (c.in-Ok.ensures.ok ∙ ap (λ (t : RepoTable). with_checked c.args.moment t c.args.checked) is) c.in-Ok-write_index.ensures.cause.kept c.in-Ok-write_index.ensures.ok

pub returns-in-Err : goal.returns-in-Err
returns-in-Err g c = λ table digest size is known.
    let objects = g.S.Store.objects in
    let faults = g.S.Store.faults in
    manifest_refused c.args.moment c.args.name.now table digest size c.args.checked known (objects c.args.part.now) (objects c.write_index.new.part) (faults c.args.part.now) (faults c.write_index.new.part)
    c.in-Err.error c.refused.result c.take_back.new.self c.refused.ensures (c.take_back.ensures c.args.repo.now c.in-Ok.ensures.put ∙ is) c.in-Err.ensures.cause c.in-Err.ensures.err
