-- Histories: lists of entries, each with the number of the one that made it.
use Rattle.std.specs.Prelude.{◌==◌, ℕ, Bool, List, [], ◌∷◌, cond, map}
use Rattle.zot_history.specs.Run.{Run}

-- the steps of these entries, one after another, lead from the value a to the value b
abbrev pub Replays : {O E : Type 0} → (O → ℕ → E → O → Type 0) → O → List (ℕ × E) → O → Type 0
Replays step a entries b = Run (λ before x after. step before x.0 x.1 after) a entries b

-- these entries, each with the number n
abbrev pub signed : {E : Type 0} → ℕ → List E → List (ℕ × E)
signed n es = map (λ e. (n, e)) es

-- the entries under the keys that are wanted, in order
abbrev pub entries_where : {K E : Type 0} → (K → Bool) → List (K × E) → List E
entries_where is_wanted [] = []
entries_where is_wanted (x ∷ xs) = cond (is_wanted x.0) (x.1 ∷ entries_where is_wanted xs) (entries_where is_wanted xs)

-- the entries of the number n, in order
abbrev pub entries_of : {E : Type 0} → ℕ → List (ℕ × E) → List E
entries_of n entries = entries_where (λ m. m == n) entries
