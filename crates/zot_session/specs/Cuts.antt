-- Why no more bytes of a connection come, and the end that this gives it.
use Rattle.std.specs.Prelude.{◌≡◌, ⊤, ℕ, ◌<◌, Bool, if◌then◌else◌, List, length, Option}
use Rattle.zot_outside.specs.Streams.{IsOver}
use Rattle.zot_session.specs.declared.cut.Cut.{Cut}
use Rattle.zot_session.specs.declared.cut.Cut.TheVariants as cuts
use Rattle.zot_session.specs.declared.end.End.{End}
use Rattle.zot_session.specs.declared.end.End.TheVariants as ends
use Rattle.zot_session.specs.declared.inbox.TheConstants.{BUDGET}
use Rattle.zot_session.specs.Messages.{is_blank}

-- how many bytes a connection may bring
abbrev pub budget : ℕ
budget = BUDGET

-- the cause why no more bytes come of a connection of which so many were taken
abbrev pub HasCut : Cut → ℕ → Option (List ℕ) → Type 0
HasCut cuts.Over taken left = (taken < budget) × IsOver left
HasCut cuts.Fault taken left = taken < budget
HasCut cuts.Full taken left = taken ≡ budget
HasCut cuts.NoMemory taken left = ⊤

-- the end of a connection that is cut with so many bytes of a message, which are empty lines alone or not
abbrev pub end_at : Cut → Bool → ℕ → End
end_at cuts.Over blank came = if blank then ends.Closed else ends.Torn came
end_at cuts.Fault blank came = ends.ReadFault
end_at cuts.Full blank came = ends.Budget
end_at cuts.NoMemory blank came = ends.NoMemory

-- the same where these bytes of a message came
abbrev pub end_of : Cut → List ℕ → End
end_of cut rest = end_at cut (is_blank rest) (length rest)
