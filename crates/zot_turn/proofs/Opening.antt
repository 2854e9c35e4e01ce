-- The rule at the start.
use Rattle.std.proofs.Common.{◌≡◌, ◌≢◌, ◌+◌, ◌++◌, ◌∙◌, ℕ, zero, suc, List, [], ◌∷◌, false, ltb, Option, Some, sym, refl, ap, subst, arith, lt-ltb, le-ltb}
use mathlib.Core.Logic.{dite}
use mathlib.Core.Option.{some, some-injective, some-ne-none}
use native.Mathlib.Decide.{ℕ_discrete}
use lib.ListN.{get_elem?}
use Rattle.atomic_table.specs.Table.{opening}
use Rattle.zot_turn.specs.declared.known.Known.{Known}
use Rattle.zot_turn.specs.Steps.{times, once, Knows, Kept, first_known}
use Rattle.zot_history.proofs.Prefixes.{prefix_refl}
use Rattle.zot_turn.proofs.Totals.{times_one, times_other}
use Rattle.zot_turn.proofs.Changes.{never}

-- a list that was empty, to which one value was added
pub pushed : {O : Type 0} (was now : List (Option O)) (put value : O) → was ≡ [] → now ≡ was ++ Some put ∷ [] → value ≡ put → now ≡ Some value ∷ []
pushed was now put value empty more same = more ∙ (λ i. empty i ++ Some (sym same i) ∷ [])

module _ {O E : Type 0} (step : O → ℕ → E → O → Type 0) (origin : O) where
  knows_first : Knows origin [] 1 (first_known {E = E} origin)
  knows_first = record {
    opening = λ o e. cc e;
    seen = prefix_refl [];
    beside = prefix_refl [];
    whole = (refl, tt);
    own = (refl, tt);
    given = tt;
    shown = omega arith;
    holds = λ h. never h;
    acts = λ h. never h;
  }

  below_one : (n : ℕ) → times n (0 ∷ []) + 0 ≡ once (ltb n 1)
  below_one n = dite (ℕ_discrete 0 n)
      (λ (e : 0 ≡ n). let a : times n (0 ∷ []) ≡ 1 = subst (λ (m : ℕ). times n (m ∷ []) ≡ 1) (sym e) (times_one n) in let b : once (ltb n 1) ≡ 1 = ap once (lt-ltb n 1 (omega arith)) in omega (arith, a, b))
      (λ (ne : 0 ≢ n). let a : times n (0 ∷ []) ≡ 0 = times_other n 0 ne in let b : once (ltb n 1) ≡ 0 = ap once (le-ltb n 1 (omega arith)) in omega (arith, a, b))

  pub opens : Kept step origin (opening (0 ∷ 1 ∷ []) (Some origin ∷ []) (first_known {E = E} origin))
  opens = record {
    log = [];
    value = origin;
    held = false;
    drawn = 1;
    words = refl;
    legal = refl;
    slot = refl;
    known = one;
    apart = below_one;
    recorded = λ n l ne. absurd (ne (omega arith));
    undrawn = λ n l. refl;
    zero_drawn = omega arith;
    holder = refl;
  }
    where
      one : (id : ℕ) (v : Known O E) → get_elem? (first_known {E = E} origin ∷ []) id ≡ some v → Knows origin [] 1 v
      one zero v e = subst (Knows origin [] 1) (some-injective _ _ e) knows_first
      one (suc id) v e = absurd (some-ne-none v (sym e))
