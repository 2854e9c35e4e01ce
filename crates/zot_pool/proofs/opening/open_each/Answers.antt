use Rattle.std.proofs.Common.{◌≡◌, ◌<◌, ◌+◌, [], ◌∷◌, ◌++◌, IfSome, suc, arith, drop, length, take, sym, subst, ap, ◌∙◌}
use Rattle.std.proofs.lemmas.List.{length-take-le}
use Rattle.zot_contents.specs.Opening.{IsFirstBad, OnBadMeta}
use Rattle.zot_pool.proofs.OpeningLemmas.{first_left, one_taken, opened_long, opened_more, split_at}
use Rattle.zot_pool.specs.Opening.{AreOpened, IsOpened, open_error}
use Rattle.zot_pool.proofs.opening.open_each.Goals as goal

pub put_last-requires : goal.put_last-requires
put_last-requires g c =
    let ps = c.args.parts.now.items in
    let k = c.loop-number.number in
    let within : k < length ps = subst (λ n. k < n) (sym c.requires.many) c.loop-number-test.true in
    omega (arith, c.loop-number.owned.ok.0, opened_long c.args.dedupe 0 (take k ps) c.loop-number.owned.items c.loop-number.invariant.0, length-take-le k ps (omega arith), c.loop-number.invariant.3, c.loop-number-test.true)

pub returns-in-Err-clause-err : goal.returns-in-Err-clause-err
returns-in-Err-clause-err g c =
    let ps = c.args.parts.now.items in
    let k = c.loop-number.number in
    let within : k < length ps = subst (λ n. k < n) (sym c.requires.many) c.loop-number-test.true in
    let first = first_left ps c.loop-number.parts.items c.remove-part.new.self.items c.remove-part.result k within c.loop-number.invariant.1 c.remove-part.ensures.value c.remove-part.ensures.items in
    let long : k ≡ length (take k ps) = sym (length-take-le k ps (omega arith)) in
    record {
      done = take k ps;
      part = c.remove-part.result;
      back = c.in-Err.unopened.part;
      rest = drop (suc k) ps;
      split = split_at ps c.remove-part.result k within first.0;
      left_is = c.put_first.ensures.items ∙ ap (λ l. c.in-Err.unopened.part ∷ l) first.1;
      opened = c.loop-number.invariant.0;
      objects = c.in-Err.ensures.back;
      fault = c.in-Err.unopened.fault;
      error_is = c.refused.ensures ∙ ap (λ n. open_error n c.in-Err.unopened.fault) long;
      cause = c.in-Err.ensures.cause;
      bad = subst (λ n. OnBadMeta c.in-Err.unopened.fault (λ path text. IfSome (g.S.Store.objects c.remove-part.result) (λ told. IsFirstBad told n path text))) long c.in-Err.ensures.bad;
    }

pub loop-number-preserved : goal.loop-number-preserved
loop-number-preserved g c =
    let ps = c.args.parts.now.items in
    let k = c.loop-number.number in
    let within : k < length ps = subst (λ n. k < n) (sym c.requires.many) c.loop-number-test.true in
    let first = first_left ps c.loop-number.parts.items c.remove-part.new.self.items c.remove-part.result k within c.loop-number.invariant.1 c.remove-part.ensures.value c.remove-part.ensures.items in
    let long : k ≡ 0 + length (take k ps) = sym (length-take-le k ps (omega arith)) ∙ omega arith in
    let next : suc k ≡ k + 1 = omega arith in
    let is : IsOpened c.args.dedupe k c.remove-part.result c.in-Ok.shard = record {
      objects = c.in-Ok.ensures.part;
      faults = c.in-Ok.ensures.quiet;
      number_is = c.in-Ok.ensures.number;
      dedupe_is = c.in-Ok.ensures.dedupe;
      meaning = c.in-Ok.ensures.meaning;
      tight = c.in-Ok.ensures.tight;
    } in (
      subst (λ l. AreOpened c.args.dedupe 0 l c.put_last.new.items.items) (sym (one_taken ps c.remove-part.result k within first.0))
          (subst (λ l. AreOpened c.args.dedupe 0 (take k ps ++ (c.remove-part.result ∷ [])) l) (sym c.put_last.ensures.items)
          (opened_more c.args.dedupe 0 (take k ps) c.loop-number.owned.items c.remove-part.result c.in-Ok.shard c.loop-number.invariant.0 (subst (λ n. IsOpened c.args.dedupe n c.remove-part.result c.in-Ok.shard) long is))),
      first.1 ∙ ap (λ n. drop n ps) next,
      omega (arith, c.loop-number.invariant.2, c.remove-part.ensures.capacity),
      omega (arith, c.loop-number.invariant.3, c.put_last.ensures.room),
    )
