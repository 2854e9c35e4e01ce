use Rattle.std.proofs.Common.{◌≡◌, ℕ, List, false, length}
use Rattle.std.specs.List.{AllByRecursion}
use Rattle.zot_names.specs.Tag.{IsTag}
use Rattle.zot_reply.proofs.PageLemmas.{AreLeft}
use Rattle.zot_reply.specs.Pages.{tags_text}
use Rattle.zot_reply.proofs.pages.tags_in.Given as goal

abbrev pub invariant-loop-tags : goal.invariant-loop-tags
invariant-loop-tags l = (tags : List (List ℕ)) → AllByRecursion IsTag tags → l.bytes ≡ tags_text false tags → AreLeft tags l.tags.items l.left

abbrev pub decreases-loop-tags : goal.decreases-loop-tags
decreases-loop-tags l = length l.left
