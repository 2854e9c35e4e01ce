use Rattle.std.proofs.Common.{◌≡◌, take}
use Rattle.zot_retention.proofs.words_list.copy_texts.Given as goal

abbrev pub invariant-loop-text : goal.invariant-loop-text
invariant-loop-text l = l.copies.items ≡ take l.text-index l.texts
