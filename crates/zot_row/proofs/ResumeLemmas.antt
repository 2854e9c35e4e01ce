-- What an answer of the pool leads to.
use Rattle.std.proofs.Common.{◌≡◌, ◌≢◌, inr, ℕ, ◌+◌, List, Option, None, refl, sym, ap, subst, ◌∙◌}
use Rattle.zot_contents.specs.declared.pool_call.PoolCall.{PoolCall}
use Rattle.zot_contents.specs.declared.pool_reply.PoolReply.{PoolReply}
use Rattle.zot_contents.specs.declared.pool_reply.PoolReply.TheVariants as replies
use Rattle.zot_layout.specs.Stands.{AreAlike}
use Rattle.zot_model.specs.Among.{IsAmong}
use Rattle.zot_model.specs.Fits.{FitsCall}
use Rattle.zot_model.specs.Plain.{leavings}
use Rattle.zot_model.specs.Refusals.{storage_fault}
use Rattle.zot_model.specs.State.{RepoState}
use Rattle.zot_model.specs.declared.call.Call.{Call}
use Rattle.zot_model.specs.declared.call.Call.TheVariants as calls
use Rattle.zot_model.specs.declared.reply.Reply.{Reply}
use Rattle.zot_outside.specs.Objects.{Objects}
use Rattle.zot_row.proofs.EndLemmas.{counts_stay, ungiven_ends}
use Rattle.zot_row.proofs.PartLemmas.{quiet_others, quiet_stands}
use Rattle.zot_row.proofs.QuietLemmas.{fault_fits, may_end, memory_fits}
use Rattle.zot_row.specs.Doing.{Doing}
use Rattle.zot_row.specs.Going.{Goes, HasEitherCause, Resumes, ResumesQuietly, kept_of}
use Rattle.zot_row.specs.Refusals.{pool_refusal}
use Rattle.zot_row.specs.Stages.{IsFor}
use Rattle.zot_row.specs.Turns.{Counts, Ends, Takes, given}
use Rattle.zot_row.specs.declared.stage.Attaching.TheVariants as attaching
use Rattle.zot_row.specs.declared.stage.Learning.TheVariants as learning
use Rattle.zot_row.specs.declared.stage.Stage.{Stage}
use Rattle.zot_row.specs.declared.stage.Stage.TheVariants as stages
use Rattle.zot_row.specs.declared.turn.Turn.{Turn}
use Rattle.zot_row.specs.declared.turn.Turn.TheVariants as turns
use Rattle.zot_table.proofs.StandingLemmas.{same_agrees, same_is}
use Rattle.zot_table.specs.Replies.{MayGive}
use Rattle.zot_table.specs.Standing.{Agrees, AreEqual, Holds, repo_of}
use Rattle.zot_table.specs.Tables.{RepoTable}

-- ---- what the pool didn't give

-- no stage is one of the base route
pub named : (stage : Stage) (call : Call) → IsFor stage call → call ≢ calls.Base
named (stages.Blob digest) call fits same = cc (sym same ∙ fits)
named (stages.Manifest digest media reference) call fits same = cc (sym same ∙ fits)
named (stages.Attach digest size attaching.Blob) call fits same = cc (sym same ∙ fits.is)
named (stages.Attach digest size (attaching.Upload id)) call fits same = cc (sym same ∙ fits.is)
named (stages.Attach digest size (attaching.Manifest checked)) call fits same = cc (sym same ∙ fits.is)
named (stages.Mount digest made rest) call fits same = cc (sym same ∙ fits.1.is)
named (stages.Detach digest) call fits same = cc (sym same ∙ fits)
named (stages.Learn digest left (learning.Delete other)) call fits same = cc (sym same ∙ fits)
named (stages.Learn digest left (learning.List other filter)) call fits same = cc (sym same ∙ fits)

refusal_fits : (answered : PoolReply) (call : Call) → call ≢ calls.Base → FitsCall call (pool_refusal answered)
refusal_fits replies.Done call is = memory_fits call is
refusal_fits (replies.Held list) call is = memory_fits call is
refusal_fits (replies.Size size) call is = memory_fits call is
refusal_fits (replies.Content bytes) call is = memory_fits call is
refusal_fits replies.Nothing call is = memory_fits call is
refusal_fits (replies.Removed was) call is = memory_fits call is
refusal_fits replies.Failed call is = fault_fits call is
refusal_fits replies.NoMemory call is = memory_fits call is

refusal_cause : (answered : PoolReply) (faults : ℕ) → HasEitherCause answered (pool_refusal answered) faults faults
refusal_cause replies.Done faults = record { failed = λ h. cc h; kept = λ _. refl }
refusal_cause (replies.Held list) faults = record { failed = λ h. cc h; kept = λ _. refl }
refusal_cause (replies.Size size) faults = record { failed = λ h. cc h; kept = λ _. refl }
refusal_cause (replies.Content bytes) faults = record { failed = λ h. cc h; kept = λ _. refl }
refusal_cause replies.Nothing faults = record { failed = λ h. cc h; kept = λ _. refl }
refusal_cause (replies.Removed was) faults = record { failed = λ h. cc h; kept = λ _. refl }
refusal_cause replies.Failed faults = record { failed = λ _. inr refl; kept = λ _. refl }
refusal_cause replies.NoMemory faults = record { failed = λ h. cc h; kept = λ _. refl }

-- the call ends with what it left before
pub ungiven_goes : (answered : PoolReply) (asked : PoolCall) (moment : ℕ) (old : RepoState) (call : Call) (name : List ℕ) (new : RepoTable) (holds behind : Holds) (faults failed fails : ℕ) → AreEqual holds behind → given answered asked behind ≡ None
    → Counts answered failed fails → Agrees new holds → IsAmong (leavings moment old call) (repo_of new holds)
    → Goes (turns.Done (pool_refusal answered)) (given answered asked behind) old call moment name new behind (faults + failed) (faults + fails)
ungiven_goes answered asked moment old call name new holds behind faults failed fails same none counts agrees leaves = (
  same_agrees new holds behind same agrees,
  subst (λ taken. Ends taken moment old call (pool_refusal answered) (repo_of new behind) (faults + failed) (faults + fails)) (sym none)
      (ungiven_ends answered moment old (repo_of new behind) call (pool_refusal answered) faults failed fails refl counts (subst (IsAmong (leavings moment old call)) (sym (same_is new holds behind same)) leaves)),
)

-- with the part as it was, where the table is alike
pub ungiven_resumes : (stage : Stage) (answered : PoolReply) (moment : ℕ) (name : List ℕ) (old new : RepoTable) → AreAlike (kept_of old) (kept_of new)
    → ((start : RepoState) (call : Call) (asked : PoolCall) (holds behind : Holds) → Agrees old holds → Doing name stage start call moment asked old holds → Takes answered asked holds behind
    → AreEqual holds behind × (given answered asked behind ≡ None) × Agrees new holds × IsAmong (leavings moment start call) (repo_of new holds))
    → ResumesQuietly stage answered moment name old (turns.Done (pool_refusal answered)) new
ungiven_resumes stage answered moment name old new alike leaves objects faults = record {
  answer = λ start call asked holds behind failed fails agrees doing takes counts.
      let h = leaves start call asked holds behind agrees doing takes in ungiven_goes answered asked moment start call name new holds behind faults failed fails h.0 h.1 counts h.2 h.3;
  stands = quiet_stands objects name old new alike;
  beside = quiet_others objects name old;
  faults = refusal_cause answered faults;
  fits = λ call fits. refusal_fits answered call (named stage call fits);
  falls = tt;
}

-- ---- what it gave

-- the call is answered as the plain registry does, or for want of memory, where the pool gave no bytes of another repository
pub given_resumes : (stage : Stage) (answered : PoolReply) (moment : ℕ) (name : List ℕ) (old new : RepoTable) (reply : Reply) → answered ≢ replies.Failed → AreAlike (kept_of old) (kept_of new) → reply ≢ storage_fault → ((call : Call) → IsFor stage call → FitsCall call reply)
    → ((start : RepoState) (call : Call) (asked : PoolCall) (holds behind : Holds) → Agrees old holds → Doing name stage start call moment asked old holds → Takes answered asked holds behind
    → (given answered asked behind ≡ None) × Agrees new behind × MayGive moment start call reply (repo_of new behind))
    → ResumesQuietly stage answered moment name old (turns.Done reply) new
given_resumes stage answered moment name old new reply well alike calm fits gives objects faults = record {
  answer = λ start call asked holds behind failed fails agrees doing takes counts.
      let h = gives start call asked holds behind agrees doing takes in (
        h.1,
        subst (λ taken. Ends taken moment start call reply (repo_of new behind) (faults + failed) (faults + fails)) (sym h.0)
            (may_end moment start (repo_of new behind) call reply (faults + failed) (faults + fails) h.2 (ap (λ n. faults + n) (counts_stay answered failed fails well counts))),
      );
  stands = quiet_stands objects name old new alike;
  beside = quiet_others objects name old;
  faults = record { failed = λ is. absurd (calm is); kept = λ _. refl };
  fits = fits;
  falls = tt;
}

-- ---- any stage

-- a call goes on from a stage as from the one that it is
pub resumes_at : (stage other : Stage) (answered : PoolReply) (moment : ℕ) (name : List ℕ) (old : RepoTable) (objects : Option Objects) (before : ℕ) (result : Turn) (new : RepoTable) (later : Option Objects) (after : ℕ) → stage ≡ other
    → Resumes other answered moment name old objects before result new later after → Resumes stage answered moment name old objects before result new later after
resumes_at stage other answered moment name old objects before result new later after is h = subst (λ (s : Stage). Resumes s answered moment name old objects before result new later after) (sym is) h
