-- What ranks by pushes say, as the code has them. The contracts for other crates say `rank`.
use Rattle.std.specs.Prelude.{ℕ, not, Bool, true, false, List}
use Rattle.std.specs.List.{count_by}
use Rattle.std.specs.List.Sorted.{IsSortedBy}
use Rattle.std.specs.Ordering.{is_lt, nat_cmp, ordering_then}
use Rattle.std.specs.declared.cmp.Ordering.{Ordering}
use Rattle.zot_digest.specs.ByteMap.{byte_cmp}
use Rattle.zot_retention.specs.declared.first.First.{First}
use Rattle.zot_retention.specs.declared.first.First.TheVariants as first
use Rattle.zot_retention.specs.declared.recency.Recency.{Recency}
use Rattle.zot_retention.specs.declared.tag_row.TagRow.{TagRow}

-- a push: its moment and the tag
abbrev pub Key : Type 0
Key = ℕ × List ℕ

abbrev pub key_of : Recency → Key
key_of recency = (recency.pushed.0, recency.tag.now)

abbrev pub key_of_row : TagRow → Key
key_of_row row = (row.pushed, row.tag)

-- the order of pushes: a later moment first, then the lesser text
abbrev pub key_cmp : Key → Key → Ordering
key_cmp x y = ordering_then (nat_cmp y.0 x.0) (byte_cmp x.1 y.1)

-- whether a tag is among the first
abbrev pub has_first : First → TagRow → Bool
has_first first.None row = false
has_first first.All row = true
has_first (first.UpTo last) row = not (is_lt (key_cmp (key_of last) (key_of_row row)))

-- pushes are in order
abbrev pub IsInOrder : List Recency → Type 0
IsInOrder pushes = IsSortedBy (λ x y. is_lt (key_cmp (key_of x) (key_of y))) pushes

-- how many pushes come before that of a tag
abbrev pub count_before : TagRow → List Recency → ℕ
count_before row pushes = count_by (λ push. is_lt (key_cmp (key_of push) (key_of_row row))) pushes
