-- Which tags a policy keeps, of a list of tags with the moments of their pushes: rules of this project.
use Rattle.std.specs.Prelude.{ℕ, ◌-◌, ◌==◌, ◌&&◌, ◌||◌, nat_lt, nat_le, not, is_some, Bool, true, false, List, [], ◌∷◌, map, Option, None, Some}
use Rattle.std.specs.List.{filter, list_any, count_by}
use Rattle.std.specs.List.Sorted.{IsStrictlySortedBy}
use Rattle.std.specs.Ordering.{is_lt}
use Rattle.zot_digest.specs.ByteMap.{byte_cmp}
use Rattle.zot_retention.specs.Patterns.{finds}
use Rattle.zot_retention.specs.Policies.{patterns_of}
use Rattle.zot_retention.specs.declared.keep.Keep.{Keep}
use Rattle.zot_retention.specs.declared.policy.Policy.{Policy}
use Rattle.zot_retention.specs.declared.tag_row.TagRow.{TagRow}

-- one of the patterns finds the tag, or there are none
abbrev pub patterns_find : List (List ℕ) → List ℕ → Bool
patterns_find [] tag = true
patterns_find (first ∷ more) tag = list_any (λ pattern. finds pattern tag) (first ∷ more)

-- a rule finds a tag where one of its patterns does, and where it has no patterns
abbrev pub is_found : Keep → TagRow → Bool
is_found rule row = patterns_find (patterns_of rule) row.tag

-- the first of two tags has a later push, or the same push and the lesser text
abbrev pub comes_before : TagRow → TagRow → Bool
comes_before first second = nat_lt second.pushed first.pushed || (second.pushed == first.pushed && is_lt (byte_cmp first.tag second.tag))

-- a tag's rank in a rule: how many of the tags that the rule finds come before it
abbrev pub rank : Keep → List TagRow → TagRow → ℕ
rank rule tags row = count_by (λ other. is_found rule other && comes_before other row) tags

-- the criterion of a count: the rank is below it
abbrev pub is_first : Option ℕ → ℕ → Bool
is_first None rank = false
is_first (Some count) rank = nat_lt rank count

-- the criterion of a time: the push is no more seconds ago, or later than the moment
abbrev pub is_recent : Option ℕ → ℕ → ℕ → Bool
is_recent None moment pushed = false
is_recent (Some within) moment pushed = nat_lt moment pushed || nat_le (moment - pushed) within

-- a rule keeps a tag that it finds and that meets a criterion, or has none to meet
abbrev pub is_kept_by : Keep → List TagRow → ℕ → TagRow → Bool
is_kept_by rule tags moment row =
    is_found rule row
    && (not (is_some rule.count || is_some rule.within) || (is_first rule.count (rank rule tags row) || is_recent rule.within moment row.pushed))

-- some rule keeps the tag, or there is no list of rules
abbrev pub is_kept_under : Option (List Keep) → List TagRow → ℕ → TagRow → Bool
is_kept_under None tags moment row = true
is_kept_under (Some rules) tags moment row = list_any (λ rule. is_kept_by rule tags moment row) rules

abbrev pub is_kept : Policy → List TagRow → ℕ → TagRow → Bool
is_kept policy tags moment row = is_kept_under policy.keep tags moment row

-- the tags that a policy keeps at a moment: with their moments, and as texts
unfoldable pub kept_rows : Policy → List TagRow → ℕ → List TagRow
kept_rows policy tags moment = filter (is_kept policy tags moment) tags

abbrev pub texts : List TagRow → List (List ℕ)
texts tags = map (λ row. row.tag) tags

abbrev pub kept : Policy → List TagRow → ℕ → List (List ℕ)
kept policy tags moment = texts (kept_rows policy tags moment)

-- the texts ascend in byte order, none twice
abbrev pub Ascend : List (List ℕ) → Type 0
Ascend found = IsStrictlySortedBy byte_cmp found
