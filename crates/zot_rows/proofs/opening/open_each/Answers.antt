use Rattle.std.proofs.Common.{◌≡◌, ◌<◌, ◌+◌, [], ◌∷◌, ◌++◌, IfSome, Err, suc, arith, drop, length, take, sym, subst, ap, ◌∙◌}
use Rattle.std.proofs.lemmas.List.{length-take-le}
use Rattle.zot_repo.specs.Opening.{AreAllOf, IsOpenedRow}
use Rattle.zot_repo.specs.RowGoing.{IsOwn}
use Rattle.zot_repo.specs.Rows.{AgreesRow, state_of}
use Rattle.zot_contents.specs.Pool.{Holders}
use Rattle.zot_layout.specs.Rows.{OpensRow}
use Rattle.zot_pool.proofs.OpeningLemmas.{first_left, one_taken, split_at}
use Rattle.zot_rows.proofs.OpeningLemmas.{list_is, list_own, opened_whole, rows_long, rows_more}
use Rattle.zot_rows.specs.Listing.{lists_of}
use Rattle.zot_rows.specs.Opening.{AreOpenedOver, IsOpenedOver, row_error}
use Rattle.zot_rows.proofs.opening.open_each.Goals as goal

pub open-requires-clause-own : goal.open-requires-clause-own
open-requires-clause-own g c =
    let ls = c.args.lists.items in
    let k = c.loop-row.row in
    let within : k < length ls = omega (arith, c.requires.lists, c.loop-row-test.true) in
    let held = first_left ls c.loop-row.lists.items c.remove-held.new.self.items c.remove-held.result k within c.loop-row.invariant.lists c.remove-held.ensures.value c.remove-held.ensures.items in
    list_own c.args.config.now ls k c.remove-held.result within held.0 c.requires.own

pub put_last-requires : goal.put_last-requires
put_last-requires g c =
    let ps = c.args.parts.now.items in
    let k = c.loop-row.row in
    let within : k < length ps = omega (arith, c.requires.many, c.loop-row-test.true) in
    omega (arith, c.loop-row.rows.ok.0, rows_long c.args.config.now c.args.moment (lists_of c.args.lists.items) 0 (take k ps) c.loop-row.rows.items c.loop-row.invariant.opened, length-take-le k ps (omega arith), c.loop-row.invariant.room, c.loop-row-test.true)

pub returns-in-Err-clause-err : goal.returns-in-Err-clause-err
returns-in-Err-clause-err g c =
    let ps = c.args.parts.now.items in
    let k = c.loop-row.row in
    let within : k < length ps = omega (arith, c.requires.many, c.loop-row-test.true) in
    let first = first_left ps c.loop-row.parts.items c.remove-part.new.self.items c.remove-part.result k within c.loop-row.invariant.parts c.remove-part.ensures.value c.remove-part.ensures.items in
    let long : k ≡ length (take k ps) = sym (length-take-le k ps (omega arith)) in
    record {
      done = take k ps;
      part = c.remove-part.result;
      back = c.in-Err.unopened.part;
      rest = drop (suc k) ps;
      split = split_at ps c.remove-part.result k within first.0;
      left_is = c.put_first.ensures.items ∙ ap (λ l. c.in-Err.unopened.part ∷ l) first.1;
      opened = c.loop-row.invariant.opened;
      objects = c.in-Err.ensures.back;
      fault = c.in-Err.unopened.error;
      error_is = c.refused.ensures ∙ ap (λ n. row_error n c.in-Err.unopened.error) long;
      cause = c.in-Err.ensures.cause;
      bad = subst (λ n. IfSome (g.S.Store.objects c.remove-part.result) (λ told. OpensRow told (IsOwn c.args.config.now n) c.args.moment (Err c.in-Err.unopened.error))) long c.in-Err.ensures.opens;
    }

pub loop-row-preserved : goal.loop-row-preserved
loop-row-preserved g c =
    let config = c.args.config.now in
    let moment = c.args.moment in
    let ps = c.args.parts.now.items in
    let ls = c.args.lists.items in
    let k = c.loop-row.row in
    let within : k < length ps = omega (arith, c.requires.many, c.loop-row-test.true) in
    let among : k < length ls = omega (arith, c.requires.lists, c.loop-row-test.true) in
    let first = first_left ps c.loop-row.parts.items c.remove-part.new.self.items c.remove-part.result k within c.loop-row.invariant.parts c.remove-part.ensures.value c.remove-part.ensures.items in
    let held = first_left ls c.loop-row.lists.items c.remove-held.new.self.items c.remove-held.result k among c.loop-row.invariant.lists c.remove-held.ensures.value c.remove-held.ensures.items in
    let own = list_is ls k c.remove-held.result among held.0 in
    let long : k ≡ 0 + length (take k ps) = sym (length-take-le k ps (omega arith)) ∙ omega arith in
    let next : suc k ≡ k + 1 = omega arith in
    let is : IsOpenedOver config moment (lists_of ls) k c.remove-part.result c.in-Ok.opened = record {
      objects = c.in-Ok.ensures.objects;
      faults = c.in-Ok.ensures.quiet;
      is = record { number_is = c.in-Ok.ensures.row; config_is = c.in-Ok.ensures.config };
      failed = c.in-Ok.ensures.failed;
      opened = c.in-Ok.ensures.opened;
      whole = opened_whole (g.S.Store.objects c.remove-part.result) (IsOwn config k) moment c.remove-held.result.items c.in-Ok.opened.core.repos c.in-Ok.ensures.tables;
      agrees = subst (λ l. (holders : Holders) → AreAllOf (IsOwn config k) holders l → AgreesRow (IsOwn config k) c.in-Ok.opened.core.repos holders) (sym own) c.in-Ok.ensures.agrees;
      state = subst (λ l. IfSome (g.S.Store.objects c.remove-part.result) (λ told. (holders : Holders) → AreAllOf (IsOwn config k) holders l
          → IsOpenedRow told moment (IsOwn config k) holders (state_of c.in-Ok.opened.core.repos holders 0))) (sym own) c.in-Ok.ensures.state;
    } in
    record {
      opened = subst (λ l. AreOpenedOver config moment (lists_of ls) 0 l c.put_last.new.items.items) (sym (one_taken ps c.remove-part.result k within first.0))
          (subst (λ l. AreOpenedOver config moment (lists_of ls) 0 (take k ps ++ (c.remove-part.result ∷ [])) l) (sym c.put_last.ensures.items)
          (rows_more config moment (lists_of ls) 0 (take k ps) c.loop-row.rows.items c.remove-part.result c.in-Ok.opened c.loop-row.invariant.opened (subst (λ n. IsOpenedOver config moment (lists_of ls) n c.remove-part.result c.in-Ok.opened) long is)));
      parts = first.1 ∙ ap (λ n. drop n ps) next;
      lists = held.1 ∙ ap (λ n. drop n ls) next;
      capacity = omega (arith, c.loop-row.invariant.capacity, c.remove-part.ensures.capacity);
      room = omega (arith, c.loop-row.invariant.room, c.put_last.ensures.room);
    }
