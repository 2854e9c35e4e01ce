-- What is opened of a row is indexes under its own names, whether or not the store tells its objects.
use Rattle.std.proofs.Common.{◌≡◌, ◌<◌, ℕ, zero, suc, List, [], ◌∷◌, ◌++◌, Contains, Option, Some, None, IfSome, Vec, Global, Result, Ok, Err, append-nil, refl, sym, subst, ◌∙◌, arith}
use Rattle.std.specs.Prelude.{◌^◌, IfOk, option_to_list}
use Rattle.std.specs.List.{AllByRecursion}
use Rattle.zot_layout.specs.Reading.{IsJust, meaning}
use Rattle.zot_layout.specs.Rows.{AreIndexes, Opened, before}
use Rattle.zot_layout.specs.State.{IsIndex}
use Rattle.zot_layout.specs.Walks.{IsMarkerOf}
use Rattle.zot_layout.specs.declared.index_state.IndexState.{IndexState}
use Rattle.zot_layout.specs.declared.layout_error.LayoutError.{LayoutError}
use Rattle.zot_layout.proofs.BackLemmas.{all_joined, all_of}
use Rattle.zot_layout.proofs.OrderLemmas.{meaning_ordered}

-- what is read of bytes is an index
pub just_index : (result : Result IndexState LayoutError) (path bytes : List ℕ) (moment : ℕ) → moment < 2 ^ 64 → IsJust result (meaning path bytes moment) → IfOk result IsIndex
just_index (Ok index) path bytes moment small is = meaning_ordered path bytes moment index small is
just_index (Err error) path bytes moment small is = tt

-- ---- names that a list has

pub all_in : (names : List (List ℕ)) → AllByRecursion (Contains names) names
all_in [] = tt
all_in (n ∷ names) = ((zero, omega arith, refl), all_of (Contains names) (Contains (n ∷ names)) more names (all_in names)) where
  more : (name : List ℕ) → Contains names name → Contains (n ∷ names) name
  more name (k, within, is) = (suc k, omega (arith, within), is)

all_at : (P : List ℕ → Type 0) (names : List (List ℕ)) (name : List ℕ) → AllByRecursion P names → Contains names name → P name
all_at P [] name all (k, within, is) = absurd (omega (arith, within))
all_at P (n ∷ names) name all (zero, within, is) = subst P is all.0
all_at P (n ∷ names) name all (suc k, within, is) = all_at P names name all.1 (k, omega (arith, within), is)

-- ---- one more

module _ (Of : List ℕ → Type 0) where
  -- a name that was found
  pub own_more : (names new : List (List ℕ)) (path : List ℕ) (found : Option (List ℕ)) → AllByRecursion Of names → IsMarkerOf Of path found → new ≡ names ++ option_to_list found → AllByRecursion Of new
  own_more names new path None all is made = subst (AllByRecursion Of) (sym (made ∙ append-nil names)) all
  own_more names new path (Some name) all is made = subst (AllByRecursion Of) (sym made) (all_joined Of names (name ∷ []) all (is.0, tt))

  -- a repository that is known
  pub indexes_more : (repos new : List Opened) (name : List ℕ) (found : Option IndexState) → AreIndexes Of repos → Of name → IfSome found IsIndex → new ≡ repos ++ before name found [] → AreIndexes Of new
  indexes_more repos new name None all own is made = subst (AreIndexes Of) (sym (made ∙ append-nil repos)) all
  indexes_more repos new name (Some index) all own is made = subst (AreIndexes Of) (sym made) (all_joined (λ (o : Opened). Of o.0 × IsIndex o.1) repos ((name, index) ∷ []) all ((own, is), tt))

  -- names of a list of own ones are own
  pub own_indexes : (result : Result (Vec Opened Global) LayoutError) (names : List (List ℕ)) → AllByRecursion Of names → IfOk result (λ repos. AreIndexes (Contains names) repos.items) → IfOk result (λ repos. AreIndexes Of repos.items)
  own_indexes (Ok repos) names own all =
      all_of (λ (o : Opened). Contains names o.0 × IsIndex o.1) (λ (o : Opened). Of o.0 × IsIndex o.1) (λ o h. (all_at Of names o.0 own h.0, h.1)) repos.items all
  own_indexes (Err error) names own all = tt
