use Rattle.std.proofs.Common.{◌==◌, Bool, cond, ap}
use Rattle.std.specs.List.{list_any}
use Rattle.zot_fakes.specs.Calls.{one_more}
use Rattle.zot_fakes.proofs.laws.empty_list_fails_none.Goals as goal

pub returns : goal.returns
returns c = λ count empty.
    let none = ap (list_any (λ n. n == one_more count.made)) empty in
    (none, ap (λ (b : Bool). record count { made = one_more count.made; faults = cond b (one_more count.faults) count.faults }) none)
