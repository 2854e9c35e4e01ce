use Rattle.std.proofs.Common.{arith, IfSome, map as each, sym, subst, ◌∙◌}
use Rattle.zot_pool.specs.Pools.{holds, objects_of}
use Rattle.zot_rows.proofs.OpeningLemmas.{closed_parts, rows_agreed, rows_failed, rows_faults, rows_numbered, rows_objects, rows_opened, rows_state, rows_whole}
use Rattle.zot_rows.specs.Agreed.{AreAgreed}
use Rattle.zot_rows.specs.Opening.{AreOpenedRows, HasRowsCause}
use Rattle.zot_rows.specs.Rows.{states_beside}
use Rattle.zot_rows.proofs.rows.Rows.open.Goals as goal

pub invariant_of-result : goal.invariant_of-result
invariant_of-result g c =
    let all = c.in-Ok-open_rows.ensures.opened in
    record {
      members = c.requires.members;
      numbered = rows_numbered c.args.config c.args.moment all.lists c.args.parts.items c.in-Ok-open_rows.rows.items c.requires.parts all.opened;
      roomy = record { none = c.in-Ok-open_rows.ensures.left; enough = omega (arith, c.args.parts.ok.0, c.args.parts.ok.1, c.requires.parts, c.in-Ok-open_rows.ensures.capacity) };
    }

pub returns-in-Ok-open_rows-clause-agreed : goal.returns-in-Ok-open_rows-clause-agreed
returns-in-Ok-open_rows-clause-agreed g c =
    let all = c.in-Ok-open_rows.ensures.opened in
    subst (λ objects. IfSome (holds objects) (AreAgreed c.args.config c.in-Ok-open_rows.rows.items)) (sym c.in-Ok-open_rows.ensures.kept)
    (rows_agreed c.args.config c.args.moment all.lists (holds (objects_of c.in-Ok.pool.shards.items)) c.args.parts.items c.in-Ok-open_rows.rows.items c.requires.parts all.many all.held all.opened)

pub returns-in-Ok-open_rows-clause-failed : goal.returns-in-Ok-open_rows-clause-failed
returns-in-Ok-open_rows-clause-failed g c =
    let all = c.in-Ok-open_rows.ensures.opened in
    rows_failed c.args.config c.args.moment all.lists 0 c.args.parts.items c.in-Ok-open_rows.rows.items all.opened

pub returns-in-Ok-open_rows-clause-opened : goal.returns-in-Ok-open_rows-clause-opened
returns-in-Ok-open_rows-clause-opened g c =
    let all = c.in-Ok-open_rows.ensures.opened in
    rows_opened c.args.config c.args.moment all.lists 0 c.args.parts.items c.in-Ok-open_rows.rows.items all.opened

pub returns-in-Ok-open_rows-clause-state : goal.returns-in-Ok-open_rows-clause-state
returns-in-Ok-open_rows-clause-state g c =
    let all = c.in-Ok-open_rows.ensures.opened in
    subst (λ objects. IfSome (holds objects) (λ held. AreOpenedRows c.args.config c.args.moment (each g.S.Store.objects c.args.parts.items) held (states_beside held c.in-Ok-open_rows.rows.items))) c.in-Ok.ensures.objects
    (rows_state c.args.config c.args.moment all.lists (holds (objects_of c.in-Ok.pool.shards.items)) c.args.parts.items c.in-Ok-open_rows.rows.items c.requires.parts all.many all.held all.opened)

pub returns-in-Ok-open_rows-clause-objects : goal.returns-in-Ok-open_rows-clause-objects
returns-in-Ok-open_rows-clause-objects g c =
    let all = c.in-Ok-open_rows.ensures.opened in
    rows_objects c.args.config c.args.moment all.lists 0 c.args.parts.items c.in-Ok-open_rows.rows.items all.opened

pub returns-in-Ok-open_rows-clause-quiet : goal.returns-in-Ok-open_rows-clause-quiet
returns-in-Ok-open_rows-clause-quiet g c =
    let all = c.in-Ok-open_rows.ensures.opened in
    rows_faults c.args.config c.args.moment all.lists 0 c.args.parts.items c.in-Ok-open_rows.rows.items all.opened

pub returns-in-Ok-open_rows-clause-whole : goal.returns-in-Ok-open_rows-clause-whole
returns-in-Ok-open_rows-clause-whole g c =
    let all = c.in-Ok-open_rows.ensures.opened in
    rows_whole c.args.config c.args.moment all.lists c.args.parts.items c.in-Ok-open_rows.rows.items all.opened

pub returns-in-Ok-open_rows-clause-tight : goal.returns-in-Ok-open_rows-clause-tight
returns-in-Ok-open_rows-clause-tight g c trees = c.in-Ok-open_rows.ensures.tight (c.in-Ok.ensures.tight trees)

pub returns-in-Ok-open_rows-clause-dedupe : goal.returns-in-Ok-open_rows-clause-dedupe
returns-in-Ok-open_rows-clause-dedupe g c dedupes = c.in-Ok-open_rows.ensures.dedupe (c.in-Ok.ensures.dedupe dedupes)

pub returns-in-Err-open_rows-clause-shards : goal.returns-in-Err-open_rows-clause-shards
returns-in-Err-open_rows-clause-shards g c =
    closed_parts g.S.Store.objects c.open_rows.new.pool.shards.items c.close.result.items c.close.ensures.parts ∙ c.in-Err-open_rows.ensures.kept ∙ c.in-Ok.ensures.objects

pub returns-in-Err-open_rows-clause-cause : goal.returns-in-Err-open_rows-clause-cause
returns-in-Err-open_rows-clause-cause g c =
    let rows_old = each g.S.Store.faults c.args.parts.items in
    let rows_new = each g.S.Store.faults c.open_rows.new.parts.items in
    subst (λ l. HasRowsCause c.args.config.members rows_old rows_new l (each g.S.Store.faults c.close.result.items) c.in-Err-open_rows.error) c.in-Ok.ensures.quiet
    (subst (λ l. HasRowsCause c.args.config.members rows_old rows_new (each (λ s. g.S.Store.faults s.part) c.in-Ok.pool.shards.items) l c.in-Err-open_rows.error)
    (sym (closed_parts g.S.Store.faults c.open_rows.new.pool.shards.items c.close.result.items c.close.ensures.parts)) c.in-Err-open_rows.ensures.cause)
