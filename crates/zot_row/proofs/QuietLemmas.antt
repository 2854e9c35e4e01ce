-- Turns that leave the part alone.
use Rattle.std.proofs.Common.{◌≡◌, ◌≢◌, inl, inr, ℕ, ◌+◌, List, [], Option, None, unwrap_or, refl, sym, ap, subst, ◌∙◌}
use Rattle.std.specs.FinMap as finite
use Rattle.zot_contents.specs.declared.pool_call.PoolCall.{PoolCall}
use Rattle.zot_layout.specs.Stands.{AreAlike}
use Rattle.zot_maps.proofs.Maps.{byte_order, get_elsewhere, get_here}
use Rattle.zot_model.proofs.FitLemmas.{answer_fits, common_fits}
use Rattle.zot_model.specs.Fits.{FitsCall}
use Rattle.zot_model.specs.Plain.{IsPlain, LacksMemory, MayAnswer}
use Rattle.zot_model.specs.Refusals.{no_memory, storage_fault}
use Rattle.zot_model.specs.State.{Becomes, RepoState, RowState, fresh, repo_at}
use Rattle.zot_model.specs.Uploads.{UploadTable}
use Rattle.zot_model.specs.declared.call.Call.{Call}
use Rattle.zot_model.specs.declared.call.Call.TheVariants as calls
use Rattle.zot_model.specs.declared.code.Code.TheVariants.{NoMemory, StorageFault}
use Rattle.zot_model.specs.declared.reply.Reply.{Reply}
use Rattle.zot_outside.specs.Objects.{Objects}
use Rattle.zot_row.proofs.PartLemmas.{quiet_others, quiet_stands}
use Rattle.zot_row.specs.Doing.{Doing}
use Rattle.zot_row.specs.Going.{HasTurnCause, IsCalm, MountsFirst, NeverMounts, Quietly, Starts, kept_of}
use Rattle.zot_row.specs.Stages.{IsFor}
use Rattle.zot_row.specs.Turns.{EndsPlainly}
use Rattle.zot_row.specs.declared.stage.Stage.{Stage}
use Rattle.zot_row.specs.declared.turn.Turn.{Turn}
use Rattle.zot_row.specs.declared.turn.Turn.TheVariants as turns
use Rattle.zot_table.proofs.StandingLemmas.{uploads_agree}
use Rattle.zot_table.specs.Changes.{with_uploads}
use Rattle.zot_table.specs.Replies.{MayGive}
use Rattle.zot_table.specs.Standing.{Agrees, Holds, repo_of}
use Rattle.zot_table.specs.Tables.{RepoTable}

-- ---- ends without a fault

pub may_end : (moment : ℕ) (old new : RepoState) (call : Call) (reply : Reply) (before after : ℕ) → MayGive moment old call reply new → after ≡ before → EndsPlainly moment old call reply new before after
may_end moment old new call reply before after (inl h) stay = inl (h, stay)
may_end moment old new call reply before after (inr h) stay = inr (inl (h, stay))

-- memory ran out, and nothing changed
pub wants : (moment : ℕ) (old new : RepoState) (call : Call) → new ≡ old → MayGive moment old call no_memory new
wants moment old new call same = inr (record { reply_is = refl; leaves = inl same })

-- ---- what fits

pub memory_fits : (call : Call) → call ≢ calls.Base → FitsCall call no_memory
memory_fits call named = common_fits call NoMemory named (inr (inl refl))

pub fault_fits : (call : Call) → call ≢ calls.Base → FitsCall call storage_fault
fault_fits call named = common_fits call StorageFault named (inl refl)

-- a row with one repository
abbrev alone : RepoState → RowState
alone repo = record { repos = finite.insert finite.empty [] repo; faults = 0 }

alone_at : (repo : RepoState) → repo_at (alone repo) [] ≡ repo
alone_at repo = ap (λ found. unwrap_or found fresh) (get_here byte_order finite.empty [] repo)

-- what the plain registry answers fits
pub given_fits : (moment : ℕ) (old new : RepoState) (call : Call) (reply : Reply) → call ≢ calls.Base → MayGive moment old call reply new → FitsCall call reply
given_fits moment old new call reply named h = answer_fits moment (alone old) (alone new) [] call reply (answered h) named where
  becomes : Becomes (alone old) [] new (alone new)
  becomes = record { here = alone_at new; others = λ other apart. ap (λ found. unwrap_or found fresh) (get_elsewhere byte_order finite.empty [] new other apart ∙ sym (get_elsewhere byte_order finite.empty [] old other apart)) }

  answered : MayGive moment old call reply new → MayAnswer moment (alone old) [] call reply (alone new)
  answered (inl is) = inl (record { repo = new; way = subst (λ (r : RepoState). IsPlain moment r call reply new) (sym (alone_at old)) is; becomes = becomes; faults = refl })
  answered (inr lacks) = inr (inl (record { repo = new; way = subst (λ (r : RepoState). LacksMemory moment r call reply new) (sym (alone_at old)) lacks; becomes = becomes; faults = refl }))

-- ---- the whole turn

calm_cause : (result : Turn) (faults : ℕ) → IsCalm result → HasTurnCause result faults faults
calm_cause (turns.Done reply) faults calm = record { failed = λ is. absurd (calm is); kept = λ _. refl }
calm_cause (turns.Asks asked stage) faults calm = refl

pub quiet_starts : (call : Call) (moment : ℕ) (name : List ℕ) (old : RepoTable) (result : Turn) (new : RepoTable) (objects : Option Objects) (faults : ℕ) → MountsFirst call name result → Quietly call moment name old result new
    → Starts call moment name old objects faults result new objects faults
quiet_starts call moment name old result new objects faults mount quiet = record {
  answer = λ holds failed agrees. quiet.answer holds (faults + failed) agrees;
  stands = quiet_stands objects name old new quiet.alike;
  beside = quiet_others objects name old;
  faults = calm_cause result faults quiet.calm;
  fits = quiet.fits;
  mount = mount;
}

-- a call that is no mount
pub quiet_never : (call : Call) (moment : ℕ) (name : List ℕ) (old : RepoTable) (result : Turn) (new : RepoTable) (objects : Option Objects) (faults : ℕ) → NeverMounts call → Quietly call moment name old result new
    → Starts call moment name old objects faults result new objects faults
quiet_never call moment name old result new objects faults never quiet = quiet_starts call moment name old result new objects faults (λ digest from asks. absurd (never digest from asks)) quiet

-- a call that is answered, with the table as it is
pub quiet_done : (call : Call) (moment : ℕ) (name : List ℕ) (table : RepoTable) (reply : Reply) → ((holds : Holds) → Agrees table holds → MayGive moment (repo_of table holds) call reply (repo_of table holds)) → FitsCall call reply → reply ≢ storage_fault
    → Quietly call moment name table (turns.Done reply) table
quiet_done call moment name table reply gives fits calm = record {
  answer = λ holds faults agrees. (agrees, may_end moment (repo_of table holds) (repo_of table holds) call reply faults faults (gives holds agrees) refl);
  alike = record { known = refl; manifests = refl; tags = λ _. refl };
  fits = fits;
  calm = calm;
}

-- memory ran out
pub quiet_want : (call : Call) (moment : ℕ) (name : List ℕ) (table : RepoTable) → call ≢ calls.Base → Quietly call moment name table (turns.Done no_memory) table
quiet_want call moment name table named = quiet_done call moment name table no_memory (λ holds agrees. wants moment (repo_of table holds) (repo_of table holds) call refl) (memory_fits call named) (λ same. cc same)

-- a call that asks the pool, with the table as it is
pub quiet_asks : (call : Call) (moment : ℕ) (name : List ℕ) (table : RepoTable) (asked : PoolCall) (stage : Stage) → IsFor stage call → ((holds : Holds) → Agrees table holds → Doing name stage (repo_of table holds) call moment asked table holds)
    → Quietly call moment name table (turns.Asks asked stage) table
quiet_asks call moment name table asked stage fits does = record {
  answer = λ holds faults agrees. (agrees, does holds agrees, refl, refl);
  alike = record { known = refl; manifests = refl; tags = λ _. refl };
  fits = fits;
  calm = tt;
}

-- a call that is answered from the uploads alone
pub quiet_uploads : (call : Call) (moment : ℕ) (name : List ℕ) (old new : RepoTable) (reply : Reply) (sessions : UploadTable) → call ≢ calls.Base → reply ≢ storage_fault → new ≡ with_uploads old sessions
    → ((holds : Holds) → MayGive moment (repo_of old holds) call reply (repo_of new holds)) → Quietly call moment name old (turns.Done reply) new
quiet_uploads call moment name old new reply sessions named calm is gives = record {
  answer = λ holds faults agrees. (
    subst (λ (t : RepoTable). Agrees t holds) (sym is) (uploads_agree old holds sessions agrees),
    may_end moment (repo_of old holds) (repo_of new holds) call reply faults faults (gives holds) refl,
  );
  alike = subst (λ (t : RepoTable). AreAlike (kept_of old) (kept_of t)) (sym is) (record { known = refl; manifests = refl; tags = λ _. refl });
  fits = given_fits moment (repo_of old (λ _. None)) (repo_of new (λ _. None)) call reply named (gives (λ _. None));
  calm = calm;
}
