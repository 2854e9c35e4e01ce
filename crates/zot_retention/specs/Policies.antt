-- Policies and their keep rules: rules of this project.
use Rattle.std.specs.Prelude.{◌≡◌, ℕ, List, [], take, Some, unwrap_or, slice_get}
use Rattle.std.specs.List.{All, Any}
use Rattle.zot_names.specs.Glob.{Matches}
use Rattle.zot_retention.specs.Patterns.{IsPattern, IsRefused}
use Rattle.zot_retention.specs.declared.keep.Keep.{Keep}
use Rattle.zot_retention.specs.declared.policy.Policy.{Policy}

-- the keep rules of a policy, and the patterns of a rule: a list that isn't there has none
abbrev pub rules_of : Policy → List Keep
rules_of policy = unwrap_or policy.keep []

abbrev pub patterns_of : Keep → List (List ℕ)
patterns_of rule = unwrap_or rule.patterns []

-- each pattern of a rule, and of a policy, is one that the grammar of `regex` reads
abbrev pub HasPatterns : Keep → Type 0
HasPatterns rule = All IsPattern (patterns_of rule)

abbrev pub IsReadable : Policy → Type 0
IsReadable policy = All HasPatterns (rules_of policy)

-- P holds of the element at this place, and Q of each before it
pub record IsFirst {X : Type 0} (Q P : X → Type 0) (xs : List X) (place : ℕ) : Type 0 where
  pub item : X
  pub stands : slice_get xs place ≡ Some item
  pub holds : P item
  pub earlier : All Q (take place xs)

-- the first pattern of a rule, and of a policy's rules, that `regex` refused for another cause than memory
abbrev pub IsRefusedIn : Keep → ℕ → Type 0
IsRefusedIn rule pattern = IsFirst IsPattern IsRefused (patterns_of rule) pattern

abbrev pub IsRefusedAt : Policy → ℕ → ℕ → Type 0
IsRefusedAt policy rule pattern = IsFirst HasPatterns (λ keep. IsRefusedIn keep pattern) (rules_of policy) rule

-- a policy is for the names that one of its globs matches
abbrev pub IsFor : List ℕ → Policy → Type 0
IsFor name policy = Any (λ glob. Matches glob name) policy.globs

-- the policy of a name is the first that is for it
pub record IsPolicyOf (name : List ℕ) (policies : List Policy) (policy : Policy) : Type 0 where
  pub place : ℕ
  pub first : IsFirst (λ other. ¬ IsFor name other) (λ other. IsFor name other × (other ≡ policy)) policies place
