-- Pages of a repository's tags (OCI Distribution Specification, "Listing Tags").
use Rattle.std.specs.Prelude.{◌≡◌, ℕ, nat_lt, Bool, true, ◌&&◌, List, [], ◌∷◌, ◌++◌, length, take, Option, Some, None, if◌then◌else◌}
use Rattle.std.specs.FinMap as map
use Rattle.std.specs.List.{filter}
use Rattle.std.specs.Ordering.{is_lt}
use Rattle.zot_digest.specs.ByteMap.{ByteMap, byte_cmp}
use Rattle.zot_model.specs.State.{StoredTag}

-- whether a tag comes after the last one of the page before, in byte order
abbrev pub comes_after : Option (List ℕ) → List ℕ → Bool
comes_after None tag = true
comes_after (Some last) tag = is_lt (byte_cmp last tag)

-- the tags that come after it, in byte order
abbrev pub tags_after : ByteMap StoredTag → Option (List ℕ) → List (List ℕ)
tags_after tags last = filter (comes_after last) (map.keys tags)

-- a page: its tags, and where the next one goes on, if more follow
pub record Page : Type 0 where
  pub tags : List (List ℕ)
  pub next : Option (List ℕ)

-- the last of a list
abbrev pub last_of : List (List ℕ) → Option (List ℕ)
last_of [] = None
last_of (tag ∷ []) = Some tag
last_of (tag ∷ other ∷ tags) = last_of (other ∷ tags)

-- the first of these tags, as many as are asked for; the last of them is where the next page goes on, if at least one is asked for and more follow
abbrev pub page_of : Option ℕ → List (List ℕ) → Page
page_of None tags = record { tags = tags; next = None }
page_of (Some n) tags = record { tags = take n tags; next = if nat_lt 0 n && nat_lt n (length tags) then last_of (take n tags) else None }

-- the page of so many tags after the last one of the page before
abbrev pub page : ByteMap StoredTag → Option ℕ → Option (List ℕ) → Page
page tags n last = page_of n (tags_after tags last)

-- these are all pages from the one after `last` on, each asked by where the one before it says that the next one goes on
abbrev pub ArePages : ByteMap StoredTag → ℕ → Option (List ℕ) → List Page → Type 0
ArePages tags n last [] = ⊥
ArePages tags n last (first ∷ []) = (first ≡ page tags (Some n) last) × (first.next ≡ None)
ArePages tags n last (first ∷ other ∷ pages) = (first ≡ page tags (Some n) last) × ((next : List ℕ) × (first.next ≡ Some next) × ArePages tags n (Some next) (other ∷ pages))

-- the tags of pages, joined
abbrev pub joined : List Page → List (List ℕ)
joined [] = []
joined (first ∷ pages) = first.tags ++ joined pages
