-- A turn of a repository is one of its row.
use Rattle.std.proofs.Common.{◌≡◌, ◌≢◌, ◌<◌, inl, inr, ℕ, ◌+◌, List, Option, Some, None, refl, sym, ap, subst, ◌∙◌, arith}
use Rattle.std.specs.Prelude.{IfSome, IsSome, IsSomeAnd}
use Rattle.std.specs.FinMap as finite
use Rattle.zot_contents.specs.Pool.{Holders}
use Rattle.zot_contents.specs.declared.pool_call.PoolCall.{PoolCall}
use Rattle.zot_contents.specs.declared.pool_reply.PoolReply.{PoolReply}
use Rattle.zot_model.specs.Mounts.{Asks as AsksMount}
use Rattle.zot_model.specs.Refusals.{no_memory}
use Rattle.zot_model.specs.State.{RepoState, RowState, repo_at}
use Rattle.zot_model.specs.declared.request.Request.{Request}
use Rattle.zot_model.specs.declared.row.RowCall.{RowCall}
use Rattle.zot_model.specs.declared.row.RowCall.TheVariants.{Ask}
use Rattle.zot_model.specs.declared.row.RowReply.TheVariants as answers
use Rattle.zot_outside.specs.Objects.{Objects}
use Rattle.zot_row.proofs.QuietLemmas.{memory_fits}
use Rattle.zot_repo.proofs.RowLemmas.{repo_is, sets_then}
use Rattle.zot_repo.proofs.RowStepLemmas.{cause_after, cause_of, fits_of, goes_since, mounts_of, rests_of, run_by}
use Rattle.zot_repo.proofs.StandLemmas.{beside_after, beside_itself, stands_after}
use Rattle.zot_row.specs.Going.{Falls, Goes, Resumes, Starts}
use Rattle.zot_repo.specs.RowGoing.{AsksNextToMount, BeginsRow, DoingRow, GoesRow, IsForCall, FitsNext, HasWaiting, IsOnOwn, IsPlaced, IsWaitingPlaced, MountsNext, OnDone, OnName, OnPool, Rests, ResumesRow, StartsRow, name_in, next_of, pending_of, waiting_of}
use Rattle.zot_repo.specs.Rows.{AgreesRow, NoneFresh, SetsTable, TakesRow, Tables, state_of, table_at, under}
use Rattle.zot_row.specs.Stages.{pending}
use Rattle.zot_row.specs.Turns.{Counts, given}
use Rattle.zot_repo.specs.declared.row_config.RowConfig.{RowConfig}
use Rattle.zot_repo.specs.declared.row_next.RowNext.{RowNext}
use Rattle.zot_repo.specs.declared.row_next.RowNext.TheVariants as nexts
use Rattle.zot_row.specs.declared.stage.Stage.{Stage}
use Rattle.zot_row.specs.declared.stage.Stage.TheVariants as stages
use Rattle.zot_row.specs.declared.turn.Turn.{Turn}
use Rattle.zot_row.specs.declared.turn.Turn.TheVariants as turns
use Rattle.zot_repo.specs.declared.waiting.Waiting.{Waiting}
use Rattle.zot_table.proofs.EntryLemmas.{at_each}
use Rattle.zot_table.specs.Tables.{RepoTable, fresh_table}

-- ---- fresh ones

-- under every other name there stands no fresh one
abbrev pub OthersFilled : Tables → List ℕ → Type 0
OthersFilled tables name = (other : List ℕ) → other ≢ name → finite.get tables other ≢ Some fresh_table

pub filled_before : (tables : Tables) (name : List ℕ) → NoneFresh None tables → OthersFilled tables name
filled_before tables name none other apart is = cc (none other is)

pub filled_while : (tables : Tables) (name : List ℕ) → NoneFresh (Some name) tables → OthersFilled tables name
filled_while tables name none other apart is = apart (sym (some_name (none other is))) where
  some_name : Some name ≡ Some other → name ≡ other
  some_name h = cc h

pub fresh_left : (old : Tables) (name : List ℕ) (table : RepoTable) (new : Tables) (turn : Turn) (moment : ℕ) → SetsTable old name table new → OthersFilled old name → OnDone (next_of turn) (finite.get new name ≢ Some fresh_table)
    → NoneFresh (name_in (waiting_of turn name moment)) new
fresh_left old name table new (turns.Done reply) moment sets filled gone =
    at_each (λ other. finite.get new other ≡ Some fresh_table → None ≡ Some other) name (λ is. absurd (gone is)) (λ other apart is. absurd (filled other apart (sym (sets.others other apart) ∙ is)))
fresh_left old name table new (turns.Asks asked stage) moment sets filled gone =
    at_each (λ other. finite.get new other ≡ Some fresh_table → Some name ≡ Some other) name (λ is. refl) (λ other apart is. absurd (filled other apart (sym (sets.others other apart) ∙ is)))

-- the repository that a call waits for is kept
pub kept_left : (new : Tables) (turn : Turn) (name : List ℕ) (moment : ℕ) → OnPool (next_of turn) (IsSome (finite.get new name)) → HasWaiting (waiting_of turn name moment) new
kept_left new (turns.Done reply) name moment h = tt
kept_left new (turns.Asks asked stage) name moment h = h

pub still_there : (mid new : Tables) (turn : Turn) (name : List ℕ) → IsSome (finite.get mid name) → OnPool (next_of turn) (new ≡ mid) → OnPool (next_of turn) (IsSome (finite.get new name))
still_there mid new (turns.Done reply) name there same = tt
still_there mid new (turns.Asks asked stage) name there same = subst (λ (t : Tables). IsSome (finite.get t name)) (sym same) there

-- ---- how often the pool is asked

some_left : (stage : Stage) → 0 < pending stage
some_left (stages.Blob digest) = omega arith
some_left (stages.Manifest digest media reference) = omega arith
some_left (stages.Attach digest size purpose) = omega arith
some_left (stages.Mount digest made rest) = omega arith
some_left (stages.Detach digest) = omega arith
some_left (stages.Learn digest left purpose) = omega arith

-- ---- a call begins

module _ (Own : List ℕ → Type 0) (request : Request) (name : List ℕ) (moment : ℕ) (named : request.name ≡ Some name) (old : Tables) (objects : Option Objects) (before : ℕ) where
  mounts_next : (turn : Turn) → ((digest from : List ℕ) → AsksMount request.call digest from → AsksNextToMount name from digest (next_of turn)) → MountsNext (Ask request) (next_of turn)
  mounts_next turn h = subst (λ n. IfSome n (λ k. (digest from : List ℕ) → AsksMount request.call digest from → AsksNextToMount k from digest (next_of turn))) (sym named) h

  -- memory ran out, and nothing changed
  pub lacks_row : StartsRow Own request name moment old objects before (nexts.Done (answers.Reply no_memory)) None old objects before
  lacks_row = record {
    answer = λ held failed agrees. (
      agrees,
      run_by moment (state_of old held (before + failed)) (state_of old held (before + failed)) name (repo_at (state_of old held (before + failed)) name) (record { here = refl; others = λ _ _. refl }) request no_memory None (before + failed) named refl
          (inr (inl (record { reply_is = refl; leaves = inl refl }, refl))),
    );
    rests = refl;
    cause = record { failed = λ h. cc h; kept = λ _. refl };
    fits = λ isnt. memory_fits request.call isnt;
    mount = mounts_next (turns.Done no_memory) (λ digest from asks. inl refl);
    stands = λ opened h. h;
    beside = λ opened h. beside_itself objects name;
    names = λ h. h;
    kept = tt;
  }

  pub lacking_row : (next : RowNext) (waiting : Option Waiting) (new : Tables) → next ≡ nexts.Done (answers.Reply no_memory) → waiting ≡ None → new ≡ old → StartsRow Own request name moment old objects before next waiting new objects before
  lacking_row next waiting new next_is waits same =
      subst (λ (n : RowNext). StartsRow Own request name moment old objects before n waiting new objects before) (sym next_is)
      (subst (λ (w : Option Waiting). StartsRow Own request name moment old objects before (nexts.Done (answers.Reply no_memory)) w new objects before) (sym waits)
      (subst (λ (t : Tables). StartsRow Own request name moment old objects before (nexts.Done (answers.Reply no_memory)) None t objects before) (sym same) lacks_row))

  module _ (own : Own name) (table : RepoTable) (new : Tables) (sets : SetsTable old name table new) (turn : Turn) (later : Option Objects) (after : ℕ) (starts : Starts request.call moment name (table_at old name) objects before turn table later after)
      (gone : OnDone (next_of turn) (finite.get new name ≢ Some fresh_table)) (kept : OnPool (next_of turn) (IsSome (finite.get new name))) where
    starts_answer : BeginsRow Own (Ask request) moment old before (next_of turn) (waiting_of turn name moment) new after
    starts_answer held failed agrees =
        goes_since Own (state_of old held (before + failed)) old name table new sets own held held agrees (λ _ _ _ _. refl) (before + failed) (after + failed) (λ _ _. refl) refl turn None request moment named
        (subst (λ (r : RepoState). Goes turn None r request.call moment name table (under held name) (before + failed) (after + failed)) (sym (repo_is old held (before + failed) name)) (starts.answer (under held name) failed (agrees.agrees name own)))

    pub starts_row : StartsRow Own request name moment old objects before (next_of turn) (waiting_of turn name moment) new later after
    starts_row = record {
      answer = starts_answer;
      rests = rests_of turn name moment;
      cause = cause_of turn before after starts.faults;
      fits = fits_of request turn name moment named starts.fits;
      mount = mounts_next turn (λ digest from asks. mounts_of name from digest turn (starts.mount digest from asks));
      stands = λ opened h. stands_after Own opened old name table new sets own objects later starts.stands starts.beside h;
      beside = λ opened h. beside_after Own opened old name own objects later starts.beside h;
      names = λ h. fresh_left old name table new turn moment sets (filled_before old name h) gone;
      kept = kept_left new turn name moment kept;
    }

  -- a request begins on a repository that is kept for it, by one turn
  module _ (own : Own name) (kept mid new : Tables) (copy : List ℕ) (copied : copy ≡ name) (turn : Turn) (later : Option Objects) (after : ℕ) (keep : SetsTable old name (table_at old name) kept)
      (starts : Starts request.call moment name (table_at kept name) objects before turn (table_at mid name) later after) (sets : SetsTable kept name (table_at mid name) mid) (there : IsSome (finite.get mid name))
      (same : SetsTable mid copy (table_at mid copy) new) (gone : OnDone (next_of turn) (finite.get new copy ≢ Some fresh_table)) (stays : OnPool (next_of turn) (new ≡ mid)) where
    began_row : StartsRow Own request name moment old objects before (next_of turn) (waiting_of turn name moment) new later after
    began_row = starts_row own (table_at mid name) new
        (sets_then old kept new name (table_at old name) (table_at mid name) keep
        (sets_then kept mid new name (table_at mid name) (table_at mid name) sets (subst (λ (n : List ℕ). SetsTable mid n (table_at mid n) new) copied same)))
        turn later after (subst (λ (t : RepoTable). Starts request.call moment name t objects before turn (table_at mid name) later after) keep.here starts)
        (subst (λ (n : List ℕ). OnDone (next_of turn) (finite.get new n ≢ Some fresh_table)) copied gone) (still_there mid new turn name there stays)

    pub begun : (next : RowNext) (waiting : Option Waiting) → next ≡ next_of turn → waiting ≡ waiting_of turn copy moment → StartsRow Own request name moment old objects before next waiting new later after
    begun next waiting next_is waits =
        subst (λ (n : RowNext). StartsRow Own request name moment old objects before n waiting new later after) (sym next_is)
        (subst (λ (w : Option Waiting). StartsRow Own request name moment old objects before (next_of turn) w new later after) (sym (waits ∙ ap (λ (n : List ℕ). waiting_of turn n moment) copied)) began_row)

-- ---- a call goes on

module _ (Own : List ℕ → Type 0) (was : Waiting) (own : Own was.name) (answered : PoolReply) (old : Tables) (objects : Option Objects) (before : ℕ) (table : RepoTable) (new : Tables) (sets : SetsTable old was.name table new) (turn : Turn) (later : Option Objects) (after : ℕ)
    (resumes : Resumes was.stage answered was.moment was.name (table_at old was.name) objects before turn table later after) (gone : OnDone (next_of turn) (finite.get new was.name ≢ Some fresh_table))
    (kept : OnPool (next_of turn) (IsSome (finite.get new was.name))) where
  resumes_answer : (start : RowState) (call : RowCall) (asked : PoolCall) (held behind : Holders) (failed fails : ℕ) → AgreesRow Own old held → DoingRow (Some was) start call asked old held (before + failed) → TakesRow Own was.name answered asked held behind → Counts answered failed fails
      → GoesRow Own (next_of turn) (waiting_of turn was.name was.moment) (given answered asked (under behind was.name)) start call was.moment new behind (after + fails)
  resumes_answer start (Ask request) asked held behind failed fails agrees doing takes counts =
      goes_since Own start old was.name table new sets own held behind agrees takes.others (before + failed) (after + fails) doing.others doing.count turn (given answered asked (under behind was.name)) request was.moment doing.named
      (resumes.answer (repo_at start was.name) request.call asked (under held was.name) (under behind was.name) failed fails (agrees.agrees was.name own) doing.doing takes.here counts)

  resumes_fits : (call : RowCall) → IsForCall call was → FitsNext call (next_of turn) (waiting_of turn was.name was.moment)
  resumes_fits (Ask request) h = fits_of request turn was.name was.moment h.0 (resumes.fits request.call h.1)

  pub resumes_row : ResumesRow Own was answered old objects before (next_of turn) (waiting_of turn was.name was.moment) new later after
  resumes_row = record {
    answer = resumes_answer;
    rests = rests_of turn was.name was.moment;
    cause = cause_after answered turn before after resumes.faults;
    fits = resumes_fits;
    falls = falls turn resumes.falls;
    stands = λ opened h. stands_after Own opened old was.name table new sets own objects later resumes.stands resumes.beside h;
    beside = λ opened h. beside_after Own opened old was.name own objects later resumes.beside h;
    names = λ h. fresh_left old was.name table new turn was.moment sets (filled_while old was.name h) gone;
    kept = kept_left new turn was.name was.moment kept;
  } where
    falls : (t : Turn) → Falls was.stage t → pending_of (waiting_of t was.name was.moment) < pending was.stage
    falls (turns.Done reply) h = some_left was.stage
    falls (turns.Asks asked stage) h = h

-- a call goes on by one turn of its repository
module _ (Own : List ℕ → Type 0) (was : Waiting) (own : Own was.name) (answered : PoolReply) (old mid new : Tables) (objects : Option Objects) (before : ℕ) (turn : Turn) (later : Option Objects) (after : ℕ)
    (resumes : Resumes was.stage answered was.moment was.name (table_at old was.name) objects before turn (table_at mid was.name) later after) (sets : SetsTable old was.name (table_at mid was.name) mid) (there : IsSome (finite.get mid was.name))
    (same : SetsTable mid was.name (table_at mid was.name) new) (gone : OnDone (next_of turn) (finite.get new was.name ≢ Some fresh_table)) (stays : OnPool (next_of turn) (new ≡ mid)) where
  pub gone_on : (next : RowNext) (waiting : Option Waiting) → next ≡ next_of turn → waiting ≡ waiting_of turn was.name was.moment → ResumesRow Own was answered old objects before next waiting new later after
  gone_on next waiting next_is waits =
      subst (λ (n : RowNext). ResumesRow Own was answered old objects before n waiting new later after) (sym next_is)
      (subst (λ (w : Option Waiting). ResumesRow Own was answered old objects before (next_of turn) w new later after) (sym waits)
      (resumes_row Own was own answered old objects before (table_at mid was.name) new (sets_then old mid new was.name (table_at mid was.name) (table_at mid was.name) sets same) turn later after resumes gone
      (still_there mid new turn was.name there stays)))

-- ---- the row that waits, or not

pub on_waiting : (P : Waiting → Type 0) (waiting : Option Waiting) (was : Waiting) → waiting ≡ Some was → P was → IfSome waiting P
on_waiting P waiting was is h = subst (λ o. IfSome o P) (sym is) h

pub at_waiting : (P : Waiting → Type 0) (waiting : Option Waiting) (was : Waiting) → waiting ≡ Some was → IfSome waiting P → P was
at_waiting P waiting was is h = subst (λ o. IfSome o P) is h

pub filled_was : (waiting : Option Waiting) (was : Waiting) (tables : Tables) → waiting ≡ Some was → NoneFresh (name_in waiting) tables → NoneFresh (Some was.name) tables
filled_was waiting was tables is h = subst (λ (o : Option Waiting). NoneFresh (name_in o) tables) is h

pub filled_idle : (waiting : Option Waiting) (tables : Tables) → waiting ≡ None → NoneFresh (name_in waiting) tables → NoneFresh None tables
filled_idle waiting tables is h = subst (λ (o : Option Waiting). NoneFresh (name_in o) tables) is h

pub placed_left : (config : RowConfig) (row : ℕ) (next : RowNext) (name : List ℕ) (moment : ℕ) (waiting : Option Waiting) → IsPlaced config row name → Rests next name moment waiting → IsWaitingPlaced config row waiting
placed_left config row (nexts.Done answer) name moment waiting placed rests = subst (λ (o : Option Waiting). IsWaitingPlaced config row o) (sym rests) tt
placed_left config row (nexts.Pool asked) name moment None placed rests = tt
placed_left config row (nexts.Pool asked) name moment (Some w) placed rests = subst (IsPlaced config row) (sym rests.0) placed

pub filled_then : (next : RowNext) (name : List ℕ) (moment : ℕ) (waiting : Option Waiting) (tables : Tables) → Rests next name moment waiting → NoneFresh (name_in waiting) tables → OnDone next (NoneFresh None tables)
filled_then (nexts.Done answer) name moment waiting tables rests filled = filled_idle waiting tables rests filled
filled_then (nexts.Pool asked) name moment waiting tables rests filled = tt

-- ---- a request by its name

pub own_of : (Own : List ℕ → Type 0) (call : RowCall) (request : Request) (name : List ℕ) → call ≡ Ask request → request.name ≡ Some name → IsOnOwn Own call → Own name
own_of Own call request name is named h = subst (λ n. IsSomeAnd n Own) named (subst (IsOnOwn Own) is h)

pub on_name : (P : List ℕ → Type 0) (call : RowCall) (request : Request) (name : List ℕ) → call ≡ Ask request → request.name ≡ Some name → P name → OnName call P
on_name P call request name is named h = subst (λ (c : RowCall). OnName c P) (sym is) (subst (λ n. IfSome n P) (sym named) h)
