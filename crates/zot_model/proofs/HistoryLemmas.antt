-- Rows that are the same state, and what a call may leave.
use Rattle.std.proofs.Common.{◌≡◌, ◌≢◌, ◌≤◌, inl, inr, ℕ, true, List, [], ◌∷◌, Option, Some, None, arith, refl, subst, ◌∙◌}
use Rattle.std.specs.Prelude.{◌↔◌, IsSomeAnd}
use Rattle.std.specs.List.{Contains}
use Rattle.zot_history.specs.Run.{IsAlikeFor}
use Rattle.zot_model.specs.declared.call.Call.{Call}
use Rattle.zot_model.specs.declared.reply.Reply.{Reply}
use Rattle.zot_model.specs.Collections.{AreKnown}
use Rattle.zot_model.specs.Refusals.{storage_fault}
use Rattle.zot_model.specs.History.{Entry, Event, Happens, Run, SaysFault, Step, asked, failed, lacked, mounted, named, retired, scrubbed, swept, swept_all}
use Rattle.zot_model.specs.Plain.{Goes, MayAnswer, Rise, Stay}
use Rattle.zot_model.specs.State.{AreSame, RepoState, RowState}

pub same_itself : (row : RowState) → AreSame row row
same_itself row = record { repos = λ name. refl; faults = refl }

pub same_through : (row mid other : RowState) → AreSame row mid → AreSame mid other → AreSame row other
same_through row mid other h k = record { repos = λ name. k.repos name ∙ h.repos name; faults = k.faults ∙ h.faults }

-- a way to count faults that looks at the number before alone
goes_from : (Counts : ℕ → ℕ → Type 0) (Way : RepoState → RepoState → Type 0) (row old : RowState) (name : List ℕ) (new : RowState) → AreSame row old → Goes Counts Way old name new → Goes Counts Way row name new
goes_from Counts Way row old name new h k = record {
  repo = k.repo;
  way = subst (λ (r : RepoState). Way r k.repo) (h.repos name) k.way;
  becomes = record { here = k.becomes.here; others = λ other differs. k.becomes.others other differs ∙ h.repos other };
  faults = subst (λ n. Counts n new.faults) h.faults k.faults;
}

answer_from : (moment : ℕ) (row old new : RowState) (name : List ℕ) (call : Call) (reply : Reply) → AreSame row old → MayAnswer moment old name call reply new → MayAnswer moment row name call reply new
answer_from moment row old new name call reply h (inl k) = inl (goes_from _ _ row old name new h k)
answer_from moment row old new name call reply h (inr (inl k)) = inr (inl (goes_from _ _ row old name new h k))
answer_from moment row old new name call reply h (inr (inr k)) = inr (inr (goes_from _ _ row old name new h k))

named_from : (moment : ℕ) (row old new : RowState) (name : Option (List ℕ)) (call : Call) (reply : Reply) → AreSame row old
    → IsSomeAnd name (λ n. MayAnswer moment old n call reply new) → IsSomeAnd name (λ n. MayAnswer moment row n call reply new)
named_from moment row old new None call reply h k = absurd k
named_from moment row old new (Some name) call reply h k = answer_from moment row old new name call reply h k

some_from : (Way : RepoState → RepoState → Type 0) (row old new : RowState) (name : Option (List ℕ)) → AreSame row old → IsSomeAnd name (λ n. Goes Stay Way old n new) → IsSomeAnd name (λ n. Goes Stay Way row n new)
some_from Way row old new None h k = absurd k
some_from Way row old new (Some name) h k = goes_from Stay Way row old name new h k

known_from : (row old : RowState) (names : List (List ℕ)) → AreSame row old → AreKnown old names → AreKnown row names
known_from row old names h k = record {
  ordered = k.ordered;
  all = λ name. subst (λ (r : RepoState). Contains names name ↔ (r.known ≡ true)) (h.repos name) (k.all name);
}

happens_from : (moment : ℕ) (row old new : RowState) (event : Event) → AreSame row old → Happens old moment event new → Happens row moment event new
happens_from moment row old new (asked request reply) h k = named_from moment row old new request.name request.call reply h k
happens_from moment row old new (mounted request reply bytes) h k = some_from _ row old new request.name h k
happens_from moment row old new (retired name rules delay gone) h k = goes_from Stay _ row old name new h k
happens_from moment row old new (swept name delay digest) h k = goes_from Stay _ row old name new h k
happens_from moment row old new (swept_all name delay) h k = goes_from Stay _ row old name new h k
happens_from moment row old new (scrubbed name blobs found) h k = goes_from Stay _ row old name new h k
happens_from moment row old new (named found) h k = (known_from row old found h k.0, same_through row old new h k.1)
happens_from moment row old new (lacked task) h k = same_through row old new h k
happens_from moment row old new (failed task) h k = record {
  asks = k.asks;
  repos = λ name. k.repos name ∙ h.repos name;
  faults = subst (λ n. Rise n new.faults) h.faults k.faults;
}

-- what may happen in a row, may happen in one that is the same
pub same_alike : IsAlikeFor AreSame Step
same_alike = record {
  itself = same_itself;
  through = same_through;
  first = λ row old new entry h k. record { happens = happens_from entry.moment row old new entry.event h k.happens; faults = k.faults };
}

-- ---- storage faults

later_stays : (before after : ℕ) → after ≡ before → before ≤ after
later_stays before after is = omega (arith, is)

answer_later : (moment : ℕ) (old new : RowState) (name : Option (List ℕ)) (call : Call) (reply : Reply) → IsSomeAnd name (λ n. MayAnswer moment old n call reply new) → old.faults ≤ new.faults
answer_later moment old new None call reply h = absurd h
answer_later moment old new (Some name) call reply (inl h) = later_stays old.faults new.faults h.faults
answer_later moment old new (Some name) call reply (inr (inl h)) = later_stays old.faults new.faults h.faults
answer_later moment old new (Some name) call reply (inr (inr h)) = h.faults.later

some_stays : (Way : RepoState → RepoState → Type 0) (old new : RowState) (name : Option (List ℕ)) → IsSomeAnd name (λ n. Goes Stay Way old n new) → new.faults ≡ old.faults
some_stays Way old new None h = absurd h
some_stays Way old new (Some name) h = h.faults

event_later : (moment : ℕ) (old new : RowState) (event : Event) → Happens old moment event new → old.faults ≤ new.faults
event_later moment old new (asked request reply) h = answer_later moment old new request.name request.call reply h
event_later moment old new (mounted request reply bytes) h = later_stays old.faults new.faults (some_stays _ old new request.name h)
event_later moment old new (retired name rules delay gone) h = later_stays old.faults new.faults h.faults
event_later moment old new (swept name delay digest) h = later_stays old.faults new.faults h.faults
event_later moment old new (swept_all name delay) h = later_stays old.faults new.faults h.faults
event_later moment old new (scrubbed name blobs found) h = later_stays old.faults new.faults h.faults
event_later moment old new (named found) h = later_stays old.faults new.faults h.1.faults
event_later moment old new (lacked task) h = later_stays old.faults new.faults h.faults
event_later moment old new (failed task) h = h.faults.later

-- a row's storage faults never fall
pub step_later : (old new : RowState) (entry : Entry) → Step old entry new → old.faults ≤ new.faults
step_later old new entry step = event_later entry.moment old new entry.event step.happens

pub run_later : (old new : RowState) (entries : List Entry) → Run old entries new → old.faults ≤ new.faults
run_later old new [] h = later_stays old.faults new.faults h.faults
run_later old new (entry ∷ entries) h =
    let first = step_later old h.0 entry h.1 in
    let rest = run_later h.0 new entries h.2 in
    omega (arith, first, rest)

answer_counts : (moment : ℕ) (old new : RowState) (name : Option (List ℕ)) (call : Call) (reply : Reply) → IsSomeAnd name (λ n. MayAnswer moment old n call reply new) → reply ≢ storage_fault → new.faults ≡ old.faults
answer_counts moment old new None call reply h none = absurd h
answer_counts moment old new (Some name) call reply (inl h) none = h.faults
answer_counts moment old new (Some name) call reply (inr (inl h)) none = h.faults
answer_counts moment old new (Some name) call reply (inr (inr h)) none = absurd (none h.way.reply_is)

event_counts : (moment : ℕ) (old new : RowState) (event : Event) → Happens old moment event new → ¬ SaysFault event → new.faults ≡ old.faults
event_counts moment old new (asked request reply) h none = answer_counts moment old new request.name request.call reply h none
event_counts moment old new (mounted request reply bytes) h none = some_stays _ old new request.name h
event_counts moment old new (retired name rules delay gone) h none = h.faults
event_counts moment old new (swept name delay digest) h none = h.faults
event_counts moment old new (swept_all name delay) h none = h.faults
event_counts moment old new (scrubbed name blobs found) h none = h.faults
event_counts moment old new (named found) h none = h.1.faults
event_counts moment old new (lacked task) h none = h.faults
event_counts moment old new (failed task) h none = absurd (none tt)

-- they rise in no entry but those that say so
pub step_counts : (old new : RowState) (entry : Entry) → Step old entry new → ¬ SaysFault entry.event → new.faults ≡ old.faults
step_counts old new entry step none = event_counts entry.moment old new entry.event step.happens none
