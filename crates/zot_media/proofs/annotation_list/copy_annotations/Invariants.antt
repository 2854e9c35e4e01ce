use Rattle.std.proofs.Common.{◌≡◌, take}
use Rattle.zot_media.proofs.annotation_list.copy_annotations.Given as goal

abbrev pub invariant-loop-item : goal.invariant-loop-item
invariant-loop-item l = l.copies.items ≡ take l.item-index l.items
