-- What a call that is answered has done to the plain row, and to other rows.
use Rattle.std.proofs.Common.{◌≡◌, ◌≢◌, ◌+◌, inl, inr, ℕ, List, [], ◌∷◌, Option, Some, None, refl, sym, subst, ◌∙◌, arith}
use Rattle.zot_contents.specs.Pool.{Holders}
use Rattle.zot_layout.specs.Rows.{IsOfRow}
use Rattle.zot_model.specs.History.{Run, Step, entry_for}
use Rattle.zot_model.specs.Plain.{MayAnswer}
use Rattle.zot_model.specs.Refusals.{storage_fault}
use Rattle.zot_model.specs.State.{AreSame, RowState}
use Rattle.zot_model.specs.declared.reply.Reply.{Reply}
use Rattle.zot_model.specs.declared.request.Request.{Request}
use Rattle.zot_model.specs.declared.row.RowCall.{RowCall}
use Rattle.zot_model.specs.declared.row.RowCall.TheVariants.{Ask}
use Rattle.zot_model.specs.declared.row.RowReply.{RowReply}
use Rattle.zot_model.specs.declared.row.RowReply.TheVariants as answers
use Rattle.zot_table.proofs.StandingLemmas.{same_agrees}
use Rattle.zot_table.specs.Standing.{AreEqual}
use Rattle.zot_repo.proofs.DrivesLemmas.{some_of}
use Rattle.zot_repo.proofs.RowLemmas.{repo_is, repo_stays, under_same}
use Rattle.zot_repo.specs.Rows.{AgreesRow, Tables, state_of, table_at, under}
use Rattle.zot_repo.specs.Shards.{HasAnswerCause, IsUnfailed, KeepsOtherNames, Led, StepsRow}
use Rattle.zot_repo.specs.declared.row_next.RowNext.TheVariants as nexts
use Rattle.zot_repo.specs.declared.waiting.Waiting.{Waiting}

-- ---- the plain row

module _ (Own : List ℕ → Type 0) (call : RowCall) (moment : ℕ) (old : Tables) (held : Holders) (before : ℕ) (answer : RowReply) (waiting : Option Waiting) (new : Tables) (behind : Holders) (after : ℕ) where
  pub led_steps : Led Own call moment old held before (nexts.Done answer) waiting new behind after → StepsRow Own old held before call moment answer new behind after
  led_steps led = record { agrees = led.goes.0; taken = led.taken; is_taken = led.is_taken; run = led.goes.1 }

-- ---- the faults

answered_stays : (moment : ℕ) (old : RowState) (name : List ℕ) (request : Request) (reply : Reply) (new : RowState) → reply ≢ storage_fault → MayAnswer moment old name request.call reply new → new.faults ≡ old.faults
answered_stays moment old name request reply new isnt (inl h) = h.faults
answered_stays moment old name request reply new isnt (inr (inl h)) = h.faults
answered_stays moment old name request reply new isnt (inr (inr h)) = absurd (isnt h.way.reply_is)

step_stays : (request : Request) (reply : Reply) (taken : Option (List ℕ)) (moment after : ℕ) (old new : RowState) → reply ≢ storage_fault → Step old (entry_for (Ask request) (answers.Reply reply) taken moment after) new → new.faults ≡ old.faults
step_stays request reply None moment after old new isnt step =
    let h = some_of (λ name. MayAnswer moment old name request.call reply new) request.name step.happens in answered_stays moment old h.0 request reply new isnt h.2
step_stays request reply (Some bytes) moment after old new isnt step = (some_of _ request.name step.happens).2.faults

-- an answer that isn't that the storage failed leaves the row's faults
pub run_stays : (call : RowCall) (answer : RowReply) (taken : Option (List ℕ)) (moment after : ℕ) (old new : RowState) → IsUnfailed answer → Run old (entry_for call answer taken moment after ∷ []) new → new.faults ≡ old.faults
run_stays (Ask request) (answers.Reply reply) taken moment after old new isnt run = run.2.faults ∙ step_stays request reply taken moment after old run.0 isnt run.1

part_stays : (answer : RowReply) (before after pooled later : ℕ) → IsUnfailed answer → HasAnswerCause answer before after pooled later → after ≡ before
part_stays (answers.Reply reply) before after pooled later isnt h = h.kept isnt

failed_stays : (before after failed fails : ℕ) → after ≡ before → after + fails ≡ before + failed → fails ≡ failed
failed_stays before after failed fails h k = omega arith

-- and so the pool's answers that a shard failed
pub unfailed_stays : (Own : List ℕ → Type 0) (call : RowCall) (moment : ℕ) (old : Tables) (held : Holders) (before failed : ℕ) (answer : RowReply) (waiting : Option Waiting) (new : Tables) (behind : Holders) (after fails pooled later : ℕ)
    → Led Own call moment old held (before + failed) (nexts.Done answer) waiting new behind (after + fails) → HasAnswerCause answer before after pooled later → IsUnfailed answer → fails ≡ failed
unfailed_stays Own call moment old held before failed answer waiting new behind after fails pooled later led cause isnt =
    failed_stays before after failed fails (part_stays answer before after pooled later isnt cause)
    (run_stays call answer led.taken moment (after + fails) (state_of old held (before + failed)) (state_of new behind (after + fails)) isnt led.goes.1)

-- ---- other rows

module _ (key : List ℕ) (members row : ℕ) (tables : Tables) (name : List ℕ) (old new : Holders) (not : ¬ IsOfRow key members row name) (kept : KeepsOtherNames name old new) where
  held_alike : (other : List ℕ) → IsOfRow key members row other → AreEqual (under old other) (under new other)
  held_alike other own = under_same old new other (λ digest of. kept digest other of own.named (λ same. not (subst (IsOfRow key members row) same own)))

  pub other_agrees : AgreesRow (IsOfRow key members row) tables old → AgreesRow (IsOfRow key members row) tables new
  other_agrees agrees = record {
    agrees = λ other own. same_agrees (table_at tables other) (under old other) (under new other) (held_alike other own) (agrees.agrees other own);
    own = agrees.own;
  }

  pub other_stays : (faults : ℕ) → AgreesRow (IsOfRow key members row) tables old → AreSame (state_of tables old faults) (state_of tables new faults)
  other_stays faults agrees = record {
    repos = λ other.
        repo_is tables new faults other ∙ repo_stays (IsOfRow key members row) tables old new agrees.own other (held_alike other) ∙ sym (repo_is tables old faults other);
    faults = refl;
  }
