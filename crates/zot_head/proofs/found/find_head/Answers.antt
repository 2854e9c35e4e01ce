use Rattle.std.proofs.Common.{◌≡◌, ap, sym, arith}
use Rattle.zot_head.specs.Found.{found_of}
use Rattle.zot_head.specs.Limits.{head_limit}
use Rattle.zot_head.specs.Lines.{head_end}
use Rattle.zot_head.proofs.FoundLemmas.{extent_ends, extent_goes, extent_passes}
use Rattle.zot_head.proofs.LineLemmas.{head_end_is, extent_within}
use Rattle.zot_head.proofs.found.find_head.Goals as goal

pub returns-in-Some-clause-found : goal.returns-in-Some-clause-found
unfolding head_limit
returns-in-Some-clause-found c =
    ap found_of (sym (extent_ends head_end head_limit c.min.result c.args.bytes.now c.min.ensures c.in-Some.n c.in-Some.ensures.value))

pub returns-in-Some-clause-within : goal.returns-in-Some-clause-within
unfolding head_limit
returns-in-Some-clause-within c =
    let ends = extent_ends head_end head_limit c.min.result c.args.bytes.now c.min.ensures c.in-Some.n c.in-Some.ensures.value in
    let w = extent_within head_end head_limit c.in-Some.n c.args.bytes.now head_end_is ends in
    λ n e. let same : c.in-Some.n ≡ n = cc in (omega (arith, w.0), omega (arith, w.1))

pub returns-in-None-clause-found : goal.returns-in-None-clause-found
unfolding head_limit
returns-in-None-clause-found c =
    ap found_of (sym (extent_goes head_end head_limit c.min.result c.args.bytes.now c.min.ensures c.in-None.ensures.value c.if-bytes-lt-HEAD_LIMIT.true))

pub returns-in-None-2-clause-found : goal.returns-in-None-2-clause-found
unfolding head_limit
returns-in-None-2-clause-found c =
    ap found_of (sym (extent_passes head_end head_limit c.min.result c.args.bytes.now c.min.ensures c.in-None-2.ensures.value c.if-bytes-lt-HEAD_LIMIT.false))
