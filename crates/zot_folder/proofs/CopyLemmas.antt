-- What a copy has moved from a reader to a writer.
use Rattle.std.proofs.Common.{◌≡◌, ℕ, List, [], ◌++◌, Option, Some, None, sym, ap, ◌∙◌, subst, IfSome}
use Rattle.std.proofs.lemmas.List.{append-nil}
use Rattle.std.specs.Io.KnownBytes as known
use Rattle.zot_outside.proofs.StreamLemmas.{Appends-append, Appends-known, Appends-nil, Takes-append, Takes-nil}
use Rattle.zot_outside.specs.Streams.{Appends, IsOver, Takes}

-- what was taken from a reader was added to a writer
abbrev pub Moved : Option (List ℕ) → Option (List ℕ) → Option (List ℕ) → Option (List ℕ) → Type 0
Moved left held rest now = (taken : List ℕ) × Takes left taken rest × Appends held taken now

pub moved_nothing : (left held : Option (List ℕ)) → Moved left held left held
moved_nothing left held = ([], Takes-nil left, Appends-nil held)

pub moved_on : (left held rest now less after : Option (List ℕ)) (more : List ℕ) → Moved left held rest now → Takes rest more less → known.Appends now after more → Moved left held less after
moved_on left held rest now less after more h k l = (h.0 ++ more, Takes-append left rest less h.0 more h.1 k, Appends-append held now after h.0 more h.2 (Appends-known now after more l))

-- where nothing is left, all was added
pub moved_all : (left held rest now : Option (List ℕ)) → Moved left held rest now → IsOver rest → IfSome left (λ all. Appends held all now)
moved_all None held rest now h over = tt
moved_all (Some left) held rest now h over =
    let none : h.1.0 ≡ [] = subst IsOver h.1.2 over in
    subst (λ l. Appends held l now) (sym (h.1.1 ∙ ap (λ r. h.0 ++ r) none ∙ append-nil h.0)) h.2
