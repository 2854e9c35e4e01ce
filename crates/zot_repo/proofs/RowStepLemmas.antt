-- What a turn of a repository leads to is what a call on its row leads to.
use Rattle.std.proofs.Common.{◌≡◌, ◌≢◌, inl, inr, ℕ, List, [], ◌∷◌, Option, Some, None, refl, sym, subst, ◌∙◌}
use Rattle.std.specs.Prelude.{IsSomeAnd}
use Rattle.zot_contents.specs.Pool.{Holders}
use Rattle.zot_contents.specs.declared.pool_reply.PoolReply.{PoolReply}
use Rattle.zot_history.proofs.Runs.{run_one}
use Rattle.zot_model.proofs.HistoryLemmas.{same_alike}
use Rattle.zot_model.specs.History.{Run, Step, entry_by}
use Rattle.zot_model.specs.Mounts.{TakesOver}
use Rattle.zot_model.specs.Plain.{Goes as GoesPlain, MayAnswer, Stay}
use Rattle.zot_model.specs.State.{AreSame, Becomes, RepoState, RowState, repo_at}
use Rattle.zot_model.specs.declared.call.Call.{Call}
use Rattle.zot_model.specs.declared.reply.Reply.{Reply}
use Rattle.zot_model.specs.declared.request.Request.{Request}
use Rattle.zot_model.specs.declared.row.RowCall.TheVariants.{Ask}
use Rattle.zot_repo.proofs.RowLemmas.{agrees_then, becomes_then, others_stay}
use Rattle.zot_row.specs.Doing.{Doing}
use Rattle.zot_row.specs.Going.{AsksToMount, FitsTurn, Goes, HasNextCause, HasTurnCause}
use Rattle.zot_repo.specs.RowGoing.{AsksNextToMount, FitsNext, GoesRow, HasCause, HasCauseAfter, Rests, next_of, waiting_of}
use Rattle.zot_repo.specs.Rows.{AgreesRow, SetsTable, Tables, state_of, under}
use Rattle.zot_row.specs.Turns.{Ends, EndsPlainly}
use Rattle.zot_row.specs.declared.turn.Turn.{Turn}
use Rattle.zot_row.specs.declared.turn.Turn.TheVariants as turns
use Rattle.zot_table.specs.Standing.{AreEqual, repo_of}
use Rattle.zot_table.specs.Tables.{RepoTable}

-- ---- a call that is answered is one entry

module _ (moment : ℕ) (old new : RowState) (name : List ℕ) (repo : RepoState) (becomes : Becomes old name repo new) where
  answers_by : (call : Call) (reply : Reply) → EndsPlainly moment (repo_at old name) call reply repo old.faults new.faults → MayAnswer moment old name call reply new
  answers_by call reply (inl h) = inl (record { repo = repo; way = h.0; becomes = becomes; faults = h.1 })
  answers_by call reply (inr (inl h)) = inr (inl (record { repo = repo; way = h.0; becomes = becomes; faults = h.1 }))
  answers_by call reply (inr (inr h)) = inr (inr (record { repo = repo; way = h.0; becomes = becomes; faults = h.1 }))

  takes_by : (call : Call) (bytes : List ℕ) (reply : Reply) → TakesOver moment call bytes reply (repo_at old name) repo × Stay old.faults new.faults → GoesPlain Stay (TakesOver moment call bytes reply) old name new
  takes_by call bytes reply h = record { repo = repo; way = h.0; becomes = becomes; faults = h.1 }

  step_by : (request : Request) (reply : Reply) (taken : Option (List ℕ)) → request.name ≡ Some name → Ends taken moment (repo_at old name) request.call reply repo old.faults new.faults → Step old (entry_by request reply taken moment new.faults) new
  step_by request reply None named h =
      record { happens = subst (λ n. IsSomeAnd n (λ k. MayAnswer moment old k request.call reply new)) (sym named) (answers_by request.call reply h); faults = refl }
  step_by request reply (Some bytes) named h =
      record { happens = subst (λ n. IsSomeAnd n (λ k. GoesPlain Stay (TakesOver moment request.call bytes reply) old k new)) (sym named) (takes_by request.call bytes reply h); faults = refl }

  pub run_by : (request : Request) (reply : Reply) (taken : Option (List ℕ)) (before : ℕ) → request.name ≡ Some name → before ≡ old.faults → Ends taken moment (repo_at old name) request.call reply repo before new.faults
      → Run old (entry_by request reply taken moment new.faults ∷ []) new
  run_by request reply taken before named is h =
      run_one AreSame Step same_alike old new (entry_by request reply taken moment new.faults)
      (step_by request reply taken named (subst (λ n. Ends taken moment (repo_at old name) request.call reply repo n new.faults) is h))

-- ---- what a turn leads to

-- from this row, whose repositories are those of the tables but for that of the name
module _ (Own : List ℕ → Type 0) (start : RowState) (old : Tables) (name : List ℕ) (table : RepoTable) (new : Tables) (sets : SetsTable old name table new) (own : Own name) (held behind : Holders) (agrees : AgreesRow Own old held)
    (others : (other : List ℕ) → Own other → other ≢ name → AreEqual (under held other) (under behind other)) (before after : ℕ)
    (since : (other : List ℕ) → other ≢ name → repo_at (state_of old held before) other ≡ repo_at start other) (count : before ≡ start.faults) where
  others_since : (other : List ℕ) → other ≢ name → repo_at (state_of new behind after) other ≡ repo_at start other
  others_since other apart = others_stay old name table new sets Own own held behind agrees others before after other apart ∙ since other apart

  becomes_since : Becomes start name (repo_of table (under behind name)) (state_of new behind after)
  becomes_since = record { here = (becomes_then old name table new sets Own own held behind agrees others before after).here; others = others_since }

  pub goes_since : (turn : Turn) (taken : Option (List ℕ)) (request : Request) (moment : ℕ) → request.name ≡ Some name → Goes turn taken (repo_at start name) request.call moment name table (under behind name) before after
      → GoesRow Own (next_of turn) (waiting_of turn name moment) taken start (Ask request) moment new behind after
  goes_since (turns.Done reply) taken request moment named h = (
    agrees_then old name table new sets Own own held behind agrees others h.0,
    run_by moment start (state_of new behind after) name (repo_of table (under behind name)) becomes_since request reply taken before named count h.1,
  )
  goes_since (turns.Asks asked stage) taken request moment named h = (
    agrees_then old name table new sets Own own held behind agrees others h.0,
    record {
      named = named;
      doing = subst (λ (t : RepoTable). Doing name stage (repo_at start name) request.call moment asked t (under behind name)) (sym sets.here) h.1;
      others = others_since;
      count = h.2 ∙ count;
    },
    h.3,
  )

-- ---- the turn alone

pub cause_of : (turn : Turn) (before after : ℕ) → HasTurnCause turn before after → HasCause (next_of turn) before after
cause_of (turns.Done reply) before after h = h
cause_of (turns.Asks asked stage) before after h = h

pub cause_after : (answered : PoolReply) (turn : Turn) (before after : ℕ) → HasNextCause answered turn before after → HasCauseAfter answered (next_of turn) before after
cause_after answered (turns.Done reply) before after h = h
cause_after answered (turns.Asks asked stage) before after h = h

pub fits_of : (request : Request) (turn : Turn) (name : List ℕ) (moment : ℕ) → request.name ≡ Some name → FitsTurn request.call turn → FitsNext (Ask request) (next_of turn) (waiting_of turn name moment)
fits_of request (turns.Done reply) name moment named h = λ _. h
fits_of request (turns.Asks asked stage) name moment named h = (named, h)

pub rests_of : (turn : Turn) (name : List ℕ) (moment : ℕ) → Rests (next_of turn) name moment (waiting_of turn name moment)
rests_of (turns.Done reply) name moment = refl
rests_of (turns.Asks asked stage) name moment = (refl, refl)

pub mounts_of : (name from digest : List ℕ) (turn : Turn) → AsksToMount name from digest turn → AsksNextToMount name from digest (next_of turn)
mounts_of name from digest (turns.Done reply) h = h
mounts_of name from digest (turns.Asks asked stage) h = h
