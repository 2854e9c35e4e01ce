use Rattle.std.proofs.Common.{◌≡◌, ℕ, Bool, List, map, take}
use Rattle.std.specs.BTreeSet.{contains}
use Rattle.zot_collect.specs.Retire.{is_tagged}
use Rattle.zot_digest.specs.ByteMap.{byte_cmp}
use Rattle.zot_retention.specs.declared.tag_row.TagRow.{TagRow}
use Rattle.zot_collect.proofs.roots.tagged_by.Given as goal

abbrev pub invariant-loop-place : goal.invariant-loop-place
invariant-loop-place l =
    (test : TagRow → Bool) → l.marks ≡ map test l.tags → (digest : List ℕ) → contains byte_cmp l.tagged digest ≡ is_tagged test (take l.place l.tags) digest
