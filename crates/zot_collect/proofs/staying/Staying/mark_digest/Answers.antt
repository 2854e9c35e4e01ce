use Rattle.std.specs.Prelude.{Result, Ok, Err, OnOk}
use Rattle.zot_collect.proofs.SpreadLemmas.{spreads_one}
use Rattle.zot_collect.proofs.staying.Staying.mark_digest.Goals as goal

on_both : {X E : Type 0} {P Q R : Type 0} (r : Result X E) → (P → Q → R) → OnOk r P → OnOk r Q → OnOk r R
on_both (Ok x) f p q = f p q
on_both (Err e) f p q = tt

pub returns-in-Some : goal.returns-in-Some
returns-in-Some c =
    on_both c.mark.result (λ grows marked.
    spreads_one c.args.manifests.now c.args.digest.now c.in-Some.place c.args.self.now c.mark.new.self c.requires.ascend c.in-Some.ensures.found grows marked)
    c.mark.ensures.grows c.mark.ensures.marked
