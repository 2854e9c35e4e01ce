use Rattle.std.proofs.Common.{◌==◌, length, arith, rules, tests}
use Rattle.std.proofs.lemmas.Iterator.Consumers.{YieldsList-turn, YieldsList-end}
use Rattle.std.proofs.lemmas.Iterator.Splits.{YieldsList-from_slice_split}
use Rattle.std.proofs.lemmas.List.{length_push}
use Rattle.zot_names.specs.Name.{slash}
use Rattle.zot_route.proofs.SegmentLemmas.{all_are, all_done, all_more, first_left, is_no_text, is_text, none_left, not_all, one_more}
use Rattle.zot_route.proofs.target.read_segments.Goals as goal

pub returns-in-None-2 : goal.returns-in-None-2
returns-in-None-2 c =
    let t = YieldsList-turn (YieldsList-from_slice_split _ (λ b. b == slash) c.args.path.now (cc) (cc) (cc) (λ x r q k. search (rules, tests))) c.loop-bytes.yielded _ c.loop-bytes.yielded_by _ _ c.in-Some.bytes c.in-Some.is c.next.ensures.steps in
    let here = first_left c.args.path.now c.in-Some.bytes.now (length c.loop-bytes.yielded) t in
    not_all _ _ _ _ c.loop-bytes.invariant.1 here (is_no_text _ _ c.in_ok-segment.ensures c.in-None-2.is)

pub loop-bytes-preserved : goal.loop-bytes-preserved
loop-bytes-preserved c =
    let t = YieldsList-turn (YieldsList-from_slice_split _ (λ b. b == slash) c.args.path.now (cc) (cc) (cc) (λ x r q k. search (rules, tests))) c.loop-bytes.yielded _ c.loop-bytes.yielded_by _ _ c.in-Some.bytes c.in-Some.is c.next.ensures.steps in
    let here = first_left c.args.path.now c.in-Some.bytes.now (length c.loop-bytes.yielded) t in
    let read = is_text _ _ _ c.in_ok-segment.ensures c.in-Some-2.is in
    rw (length_push c.loop-bytes.yielded c.in-Some.bytes) (
      one_more _ _ _ _ _ _ _ c.loop-bytes.invariant.0 here c.in_ok-push-in-Some-2.ensures.items read.0,
      all_more _ _ _ _ c.loop-bytes.invariant.1 here read.1,
    )

pub returns : goal.returns
returns c =
    let t = YieldsList-end (YieldsList-from_slice_split _ (λ b. b == slash) c.args.path.now (cc) (cc) (cc) (λ x r q k. search (rules, tests))) c.loop-bytes.yielded _ c.loop-bytes.yielded_by _ _ c.in-None.is c.next.ensures.steps in
    let none = none_left c.args.path.now (length c.loop-bytes.yielded) (omega (arith, t.1)) in
    (all_done _ _ _ c.loop-bytes.invariant.0 none, all_are _ _ c.loop-bytes.invariant.1 none)
