-- Runs joined end to end, split, and seen by a part of their states.
use Rattle.std.proofs.Common.{◌≡◌, List, [], ◌∷◌, ◌++◌, Bool, true, false, map, cond, refl, sym, ◌∙◌, subst}
use Rattle.std.specs.List.{filter}
use Rattle.zot_history.specs.Run.{IsAlikeFor, RunTo}

-- a state is alike to itself alone
pub same_alike : {S X : Type 0} (step : S → X → S → Type 0) → IsAlikeFor (λ (s : S) t. s ≡ t) step
same_alike {S} step = record {
  itself = λ a. refl;
  through = λ a m b h k. h ∙ k;
  first = λ a m b x h k. subst (λ (s : S). step s x b) (sym h) k;
}

module _ {S X : Type 0} (Alike : S → S → Type 0) (step : S → X → S → Type 0) (alike : IsAlikeFor Alike step) where
  -- a run from a state that is alike
  pub run_from : (a m b : S) (xs : List X) → Alike a m → RunTo Alike step m xs b → RunTo Alike step a xs b
  run_from a m b [] h k = alike.through a m b h k
  run_from a m b (x ∷ xs) h k = (k.0, alike.first a m k.0 x h k.1, k.2)

  -- a run to a state that is alike
  pub run_to : (a m b : S) (xs : List X) → RunTo Alike step a xs m → Alike m b → RunTo Alike step a xs b
  run_to a m b [] h k = alike.through a m b h k
  run_to a m b (x ∷ xs) h k = (h.0, h.1, run_to h.0 m b xs h.2 k)

  -- a run of one step
  pub run_one : (a b : S) (x : X) → step a x b → RunTo Alike step a (x ∷ []) b
  run_one a b x h = (b, h, alike.itself b)

  -- two runs, joined end to end
  pub run_append : (a m b : S) (xs ys : List X) → RunTo Alike step a xs m → RunTo Alike step m ys b → RunTo Alike step a (xs ++ ys) b
  run_append a m b [] ys h k = run_from a m b ys h k
  run_append a m b (x ∷ xs) ys h k = (h.0, h.1, run_append h.0 m b xs ys h.2 k)

  -- a run, split at any place
  pub run_split : (a b : S) (xs ys : List X) → RunTo Alike step a (xs ++ ys) b → (m : S) × RunTo Alike step a xs m × RunTo Alike step m ys b
  run_split a b [] ys h = (a, alike.itself a, h)
  run_split a b (x ∷ xs) ys h = let r = run_split h.0 b xs ys h.2 in (r.0, (h.0, h.1, r.1), r.2)

  -- what each step keeps, a run keeps
  pub run_keeps : (P : S → Type 0) → ((a b : S) → Alike a b → P a → P b) → ((a b : S) (x : X) → step a x b → P a → P b) → (a b : S) (xs : List X) → RunTo Alike step a xs b → P a → P b
  run_keeps P ends each a b [] h p = ends a b h p
  run_keeps P ends each a b (x ∷ xs) h p = run_keeps P ends each h.0 b xs h.2 (each a h.0 x h.1 p)

-- a run of one kind of steps, and what is seen of its states
module _ {S X T Y : Type 0} (Alike : S → S → Type 0) (step : S → X → S → Type 0) (AlikeSeen : T → T → Type 0) (small : T → Y → T → Type 0) (seen : S → T) (ends : (a b : S) → Alike a b → AlikeSeen (seen a) (seen b)) where
  -- where each step is a step of what is seen, so is the run
  pub run_map : (label : X → Y) → ((a b : S) (x : X) → step a x b → small (seen a) (label x) (seen b)) → (a b : S) (xs : List X) → RunTo Alike step a xs b → RunTo AlikeSeen small (seen a) (map label xs) (seen b)
  run_map label each a b [] h = ends a b h
  run_map label each a b (x ∷ xs) h = (seen h.0, each a h.0 x h.1, run_map label each h.0 b xs h.2)

module _ {S X T : Type 0} (Alike : S → S → Type 0) (step : S → X → S → Type 0) (AlikeSeen : T → T → Type 0) (small : T → X → T → Type 0) (alike : IsAlikeFor AlikeSeen small) (seen : S → T) (ends : (a b : S) → Alike a b → AlikeSeen (seen a) (seen b)) where
  taken_or_not : (x : X) (c : Bool) (s m t : T) (xs : List X) → (c ≡ true → small s x m) → (c ≡ false → AlikeSeen s m) → RunTo AlikeSeen small m xs t → RunTo AlikeSeen small s (cond c (x ∷ xs) xs) t
  taken_or_not x true s m t xs own others h = (m, own refl, h)
  taken_or_not x false s m t xs own others h = run_from AlikeSeen small alike s m t xs (others refl) h

  -- the steps of one kind, taken out of a run, are a run of what is seen, where no other step changes what is seen
  pub run_taken : (is_wanted : X → Bool) → ((a b : S) (x : X) → is_wanted x ≡ true → step a x b → small (seen a) x (seen b)) → ((a b : S) (x : X) → is_wanted x ≡ false → step a x b → AlikeSeen (seen a) (seen b))
      → (a b : S) (xs : List X) → RunTo Alike step a xs b → RunTo AlikeSeen small (seen a) (filter is_wanted xs) (seen b)
  run_taken is_wanted own others a b [] h = ends a b h
  run_taken is_wanted own others a b (x ∷ xs) h =
      taken_or_not x (is_wanted x) (seen a) (seen h.0) (seen b) (filter is_wanted xs) (λ c. own a h.0 x c h.1) (λ c. others a h.0 x c h.1) (run_taken is_wanted own others h.0 b xs h.2)
