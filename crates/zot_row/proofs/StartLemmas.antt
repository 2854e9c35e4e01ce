-- Calls that make their repository known before the pool is asked.
use Rattle.std.proofs.Common.{◌≡◌, ◌≢◌, inl, inr, ℕ, ◌+◌, true, List, length, Option, refl, sym, ap, subst, ◌∙◌}
use Rattle.std.specs.Prelude.{Err}
use Rattle.zot_contents.specs.declared.pool_call.PoolCall.TheVariants as pool
use Rattle.zot_model.specs.Refusals.{no_memory}
use Rattle.zot_model.specs.declared.call.Call.{Call}
use Rattle.zot_model.specs.declared.call.Call.TheVariants as calls
use Rattle.zot_model.specs.declared.reply.Reply.{Reply}
use Rattle.zot_model.specs.declared.reply.Reply.TheVariants as answers
use Rattle.zot_outside.specs.Faults.{HasStoreCause, Rose}
use Rattle.zot_outside.specs.Objects.{Objects}
use Rattle.zot_outside.specs.declared.stores.store_error.StoreError.{StoreError}
use Rattle.zot_outside.specs.declared.stores.store_error.StoreError.TheVariants.{Missing, Failed, NoMemory}
use Rattle.zot_row.proofs.EndLemmas.{in_want, refused_ends}
use Rattle.zot_row.proofs.PartLemmas.{quiet_stands, stands_then}
use Rattle.zot_row.proofs.QuietLemmas.{fault_fits, memory_fits, quiet_done, quiet_never}
use Rattle.zot_row.specs.Doing.{EndsWith}
use Rattle.zot_row.specs.Going.{AsksToAttach, AsksToMount, FitsTurn, HasPartCause, KeepsOthers, KeepsStanding, NeverMounts, Quietly, Starts}
use Rattle.zot_row.specs.Refusals.{store_refusal}
use Rattle.zot_row.specs.Stages.{Attaches}
use Rattle.zot_row.specs.declared.stage.Attaching.{Attaching}
use Rattle.zot_row.specs.declared.stage.Stage.TheVariants as stages
use Rattle.zot_row.specs.declared.turn.Turn.{Turn}
use Rattle.zot_row.specs.declared.turn.Turn.TheVariants as turns
use Rattle.zot_table.proofs.ReplyLemmas.{base_given}
use Rattle.zot_table.proofs.StandingLemmas.{know_agrees, know_is, reserve_agrees, reserve_has_room, reserve_is}
use Rattle.zot_table.specs.Changes.{known_as, reserved}
use Rattle.zot_table.specs.Standing.{Agrees, Holds, repo_of}
use Rattle.zot_table.specs.Tables.{RepoTable}

-- ---- errors of the part

pub refusal_fits : (call : Call) (error : StoreError) → call ≢ calls.Base → FitsTurn call (turns.Done (store_refusal error))
refusal_fits call Missing named = memory_fits call named
refusal_fits call Failed named = fault_fits call named
refusal_fits call NoMemory named = memory_fits call named

refusal_mounts : (error : StoreError) (name from digest : List ℕ) → AsksToMount name from digest (turns.Done (store_refusal error))
refusal_mounts Missing name from digest = inl refl
refusal_mounts Failed name from digest = inr refl
refusal_mounts NoMemory name from digest = inl refl

pub error_rose : {T : Type 0} (before after : ℕ) (error : StoreError) → HasStoreCause {T = T} before after (Err error) → error ≡ Failed → Rose before after
error_rose before after Missing cause h = cc h
error_rose before after Failed cause h = cause.failed
error_rose before after NoMemory cause h = cc h

pub error_stayed : {T : Type 0} (before after : ℕ) (error : StoreError) → HasStoreCause {T = T} before after (Err error) → error ≢ Failed → after ≡ before
error_stayed before after Missing cause h = cause.kept
error_stayed before after Failed cause h = absurd (h refl)
error_stayed before after NoMemory cause h = cause.kept

pub refusal_cause : {T : Type 0} (before after : ℕ) (error : StoreError) → HasStoreCause {T = T} before after (Err error) → HasPartCause (store_refusal error) before after
refusal_cause before after Missing cause = record { failed = λ h. cc h; kept = λ _. cause.kept }
refusal_cause before after Failed cause = record { failed = λ _. cause.failed; kept = λ h. absurd (h refl) }
refusal_cause before after NoMemory cause = record { failed = λ h. cc h; kept = λ _. cause.kept }

-- a repository that couldn't be made known, or whose index couldn't be put, is as it was
pub refused_starts : {T : Type 0} (call : Call) (moment : ℕ) (name : List ℕ) (old : RepoTable) (objects later : Option Objects) (before after : ℕ) (error : StoreError) → call ≢ calls.Base → HasStoreCause {T = T} before after (Err error)
    → KeepsStanding objects name old later old → KeepsOthers objects name old later → Starts call moment name old objects before (turns.Done (store_refusal error)) old later after
refused_starts call moment name old objects later before after error named cause stands beside = record {
  answer = λ holds failed agrees. (agrees, refused_ends error moment (repo_of old holds) (repo_of old holds) call (store_refusal error) before after failed refl cause.later (error_rose before after error cause) (error_stayed before after error cause) (inl refl));
  stands = stands;
  beside = beside;
  faults = refusal_cause before after error cause;
  fits = refusal_fits call error named;
  mount = λ digest from asks. refusal_mounts error name from digest;
}

-- the same, by what the calls before it promised
pub refused_after : {T : Type 0} (call : Call) (moment : ℕ) (name : List ℕ) (old new : RepoTable) (objects later : Option Objects) (before after : ℕ) (error : StoreError) (reply : Reply) → call ≢ calls.Base → reply ≡ store_refusal error → new ≡ old
    → HasStoreCause {T = T} before after (Err error) → KeepsStanding objects name old later new → KeepsOthers objects name old later → Starts call moment name old objects before (turns.Done reply) new later after
refused_after {T} call moment name old new objects later before after error reply named is same cause stands beside =
    subst (λ (r : Reply). Starts call moment name old objects before (turns.Done r) new later after) (sym is)
    (subst (λ (t : RepoTable). Starts call moment name old objects before (turns.Done (store_refusal error)) t later after) (sym same)
    (refused_starts {T = T} call moment name old objects later before after error named cause (subst (λ (t : RepoTable). KeepsStanding objects name old later t) same stands) beside))

-- ---- bytes that are to be held

module _ (call : Call) (moment : ℕ) (name : List ℕ) (old : RepoTable) (objects later : Option Objects) (before after : ℕ) (named : call ≢ calls.Base) (never : NeverMounts call) (stay : after ≡ before)
    (stands : KeepsStanding objects name old later (known_as true old)) (beside : KeepsOthers objects name old later) where
  -- memory ran out behind it
  pub known_want : Starts call moment name old objects before (turns.Done no_memory) (known_as true old) later after
  known_want = record {
    answer = λ holds failed agrees. (
      know_agrees old holds true agrees,
      in_want moment (repo_of old holds) (repo_of (known_as true old) holds) call no_memory (before + failed) (after + failed) refl (inr (inl (know_is old holds))) (ap (λ n. n + failed) stay),
    );
    stands = stands;
    beside = beside;
    faults = record { failed = λ h. cc h; kept = λ _. stay };
    fits = memory_fits call named;
    mount = λ digest from asks. inl refl;
  }

  known_attach : (digest bytes : List ℕ) (purpose : Attaching) → Attaches purpose digest call → ((holds : Holds) → Agrees old holds → EndsWith purpose digest bytes (repo_of old holds) call moment)
      → Starts call moment name old objects before (turns.Asks (pool.Attach name digest bytes) (stages.Attach digest (length bytes) purpose)) (reserved (known_as true old) digest) later after
  known_attach digest bytes purpose attaches ends = record {
    answer = λ holds failed agrees. (
      reserve_agrees (known_as true old) holds digest (know_agrees old holds true agrees),
      record {
        bytes = bytes;
        asked_is = refl;
        long = refl;
        since = reserve_is (known_as true old) holds digest ∙ know_is old holds;
        room = reserve_has_room (known_as true old) digest;
        ends = ends holds agrees;
      },
      ap (λ n. n + failed) stay,
      refl,
    );
    stands = stands_then objects later later name old (known_as true old) (reserved (known_as true old) digest) stands
        (quiet_stands later name (known_as true old) (reserved (known_as true old) digest) (record { known = refl; manifests = refl; tags = λ _. refl }));
    beside = beside;
    faults = stay;
    fits = attaches;
    mount = λ d from asks. absurd (never d from asks);
  }

  -- the pool is asked to hold bytes that end the call
  pub attach_starts : (mid new : RepoTable) (result : Turn) (digest bytes : List ℕ) (purpose : Attaching) → mid ≡ known_as true old → AsksToAttach result name digest bytes purpose mid new → Attaches purpose digest call
      → ((holds : Holds) → Agrees old holds → EndsWith purpose digest bytes (repo_of old holds) call moment) → Starts call moment name old objects before result new later after
  attach_starts mid new result digest bytes purpose is (inl h) attaches ends =
      subst (λ (t : RepoTable). Starts call moment name old objects before result t later after) (sym (h.1 ∙ ap (λ (t : RepoTable). reserved t digest) is))
      (subst (λ (r : Turn). Starts call moment name old objects before r (reserved (known_as true old) digest) later after) (sym h.0) (known_attach digest bytes purpose attaches ends))
  attach_starts mid new result digest bytes purpose is (inr h) attaches ends =
      subst (λ (t : RepoTable). Starts call moment name old objects before result t later after) (sym (h.1 ∙ is))
      (subst (λ (r : Turn). Starts call moment name old objects before r (known_as true old) later after) (sym h.0) known_want)

-- ---- any call

-- a call begins as the one that it is
pub starts_as : (call other : Call) (moment : ℕ) (name : List ℕ) (old : RepoTable) (objects : Option Objects) (before : ℕ) (result : Turn) (new : RepoTable) (later : Option Objects) (after : ℕ) → call ≡ other
    → Starts other moment name old objects before result new later after → Starts call moment name old objects before result new later after
starts_as call other moment name old objects before result new later after is h = subst (λ (c : Call). Starts c moment name old objects before result new later after) (sym is) h

-- and one that asks nothing of the part, and is no mount
pub quiet_as : (call other : Call) (moment : ℕ) (name : List ℕ) (old : RepoTable) (result : Turn) (new : RepoTable) (objects : Option Objects) (faults : ℕ) → call ≡ other → NeverMounts other → Quietly other moment name old result new
    → Starts call moment name old objects faults result new objects faults
quiet_as call other moment name old result new objects faults is never quiet =
    starts_as call other moment name old objects faults result new objects faults is (quiet_never other moment name old result new objects faults never quiet)

-- the base route is answered as it is
pub base_quiet : (moment : ℕ) (name : List ℕ) (table : RepoTable) → Quietly calls.Base moment name table (turns.Done answers.Base) table
base_quiet moment name table = quiet_done calls.Base moment name table answers.Base (λ holds agrees. base_given moment (repo_of table holds) answers.Base refl) (inl tt) (λ h. cc h)
