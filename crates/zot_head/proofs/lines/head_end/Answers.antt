use Rattle.std.proofs.Common.{ℕ, Some, None, arith}
use Rattle.std.proofs.lemmas.List.{length-drop, length-take}
use Rattle.zot_head.proofs.LineLemmas.{head_end-after}
use Rattle.zot_head.proofs.lines.head_end.Goals as goal

pub returns-in-Some : goal.returns-in-Some
returns-in-Some c = record {
  value = head_end-after c.args.bytes.now c.blank_len-blank.result (Some c.in-Some.n) c.blank_len-blank.ensures.value c.in-Some.ensures.value;
  within = omega (arith, length-take {A = ℕ}, length-drop {A = ℕ}, c.in-Some.ensures.within);
}

pub returns-in-None : goal.returns-in-None
returns-in-None c = record {
  value = head_end-after c.args.bytes.now c.blank_len-blank.result None c.blank_len-blank.ensures.value c.in-None.ensures.value;
  within = tt;
}
