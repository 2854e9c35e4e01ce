-- Runs: what leads from one state to another, one step after another. The states and the steps are of any type.
use Rattle.std.specs.Prelude.{◌≡◌, List, [], ◌∷◌}

-- the steps lead from the state a to the state b, where two states are compared so
abbrev pub RunTo : {S X : Type 0} → (S → S → Type 0) → (S → X → S → Type 0) → S → List X → S → Type 0
RunTo Alike step a [] b = Alike a b
RunTo {S} Alike step a (x ∷ xs) b = (m : S) × step a x m × RunTo Alike step m xs b

-- the steps lead from the state a to just the state b
abbrev pub Run : {S X : Type 0} → (S → X → S → Type 0) → S → List X → S → Type 0
Run step a xs b = RunTo (λ s t. s ≡ t) step a xs b

-- two states that are alike are so for every step: what one may do, the other may do
pub record IsAlikeFor {S X : Type 0} (Alike : S → S → Type 0) (step : S → X → S → Type 0) : Type 0 where
  pub itself : (a : S) → Alike a a
  pub through : (a m b : S) → Alike a m → Alike m b → Alike a b
  pub first : (a m b : S) (x : X) → Alike a m → step m x b → step a x b
