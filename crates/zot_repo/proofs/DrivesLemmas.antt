-- A call on a row, from its beginning over each answer of the pool to its own answer.
use Rattle.std.proofs.Common.{◌≡◌, ◌⊎◌, ◌≤◌, ◌<◌, ◌+◌, inl, inr, ℕ, List, Option, Some, None, IfSome, refl, sym, ap, subst, ◌∙◌, arith}
use Rattle.std.specs.Prelude.{IsSomeAnd, sum}
use Rattle.zot_contents.specs.Pool.{Holders}
use Rattle.zot_contents.specs.declared.pool_call.PoolCall.{PoolCall}
use Rattle.zot_contents.specs.declared.pool_reply.PoolReply.{PoolReply}
use Rattle.zot_contents.specs.declared.pool_reply.PoolReply.TheVariants as replies
use Rattle.zot_contents.specs.declared.shard.DigestShard.{DigestShard}
use Rattle.zot_model.specs.declared.request.Request.{Request}
use Rattle.zot_model.specs.declared.row.RowCall.{RowCall}
use Rattle.zot_model.specs.declared.row.RowCall.TheVariants.{Ask}
use Rattle.zot_model.specs.declared.row.RowReply.TheVariants as answers
use Rattle.zot_outside.specs.Faults.{Rose}
use Rattle.zot_outside.specs.Objects.{Objects}
use Rattle.zot_outside.specs.declared.stores.store.Store.{Ghosts}
use Rattle.zot_pool.specs.Pools.{faults_of, holds, objects_of}
use Rattle.zot_row.specs.Turns.{Counts}
use Rattle.zot_repo.proofs.AskLemmas.{both_itself, both_then, if_some_at, if_some_by, rose_since, some_and_at}
use Rattle.zot_repo.proofs.DriveLemmas.{led_on}
use Rattle.zot_repo.proofs.SeatLemmas.{enters_none, enters_then}
use Rattle.zot_repo.specs.RowGoing.{BeginsRow, FitsNext, GoesOnRow, HasCause, HasCauseAfter, IsForCall, IsOnOwn, IsOwn, KeepsBeside, OnDone, OnName, Rests, pending_of}
use Rattle.zot_repo.specs.Rows.{AgreesRow, NoneFresh}
use Rattle.zot_repo.specs.Seats.{EntersPool}
use Rattle.zot_repo.specs.Shards.{AnswersAsked, Asked, Drives, HasCauseSoFar, IsCounted, IsTaken, KeepsOtherNames, Led}
use Rattle.zot_repo.specs.declared.row_config.RowConfig.{RowConfig}
use Rattle.zot_repo.specs.declared.row_core.RowCore.{RowCore}
use Rattle.zot_repo.specs.declared.row_next.RowNext.{RowNext}
use Rattle.zot_repo.specs.declared.row_next.RowNext.TheVariants as nexts
use Rattle.zot_repo.specs.declared.waiting.Waiting.{Waiting}

-- ---- options

pub some_of : {X : Type 0} (P : X → Type 0) (found : Option X) → IsSomeAnd found P → (x : X) × (found ≡ Some x) × P x
some_of P None h = absurd h
some_of P (Some x) h = (x, refl, h)

-- ---- the part and the faults

beside_then : (old mid new : Option Objects) (name : List ℕ) → KeepsBeside old name mid → KeepsBeside mid name new → KeepsBeside old name new
beside_then None None new name h k = k
beside_then None (Some told) new name h k = cc h
beside_then (Some told) None new name h k = absurd h
beside_then (Some told) (Some since) None name h k = absurd k
beside_then (Some told) (Some since) (Some now) name h k = λ path marker index. k path marker index ∙ h path marker index

cause_first : (next : RowNext) (before after pooled : ℕ) → HasCause next before after → HasCauseSoFar next before after pooled pooled
cause_first (nexts.Done (answers.Reply reply)) before after pooled h = record { failed = λ is. inl (h.failed is); kept = h.kept }
cause_first (nexts.Pool asked) before after pooled h = h

cause_then : (answered : PoolReply) (next : RowNext) (before since after pooled mid later : ℕ) → since ≡ before → pooled ≤ mid → (answered ≡ replies.Failed → Rose mid later) → HasCauseAfter answered next since after → HasCauseSoFar next before after pooled later
cause_then answered (nexts.Done (answers.Reply reply)) before since after pooled mid later stayed grew rose h = record {
  failed = λ is. by (h.failed is);
  kept = λ isnt. h.kept isnt ∙ stayed;
} where
  by : Rose since after ⊎ (answered ≡ replies.Failed) → Rose before after ⊎ Rose pooled later
  by (inl part) = inl (subst (λ n. Rose n after) stayed part)
  by (inr is) = inr (rose_since pooled mid later grew (rose is))
cause_then answered (nexts.Pool asked) before since after pooled mid later stayed grew rose h = h ∙ stayed

-- what was counted so far, and one answer more
rose_until : (pooled mid later : ℕ) → mid ≤ later → Rose pooled mid → Rose pooled later
rose_until pooled mid later grew rose = omega (arith, grew, rose)

counted_on : (failed fails counts pooled mid later : ℕ) → mid ≤ later → counts ≡ fails → IsCounted failed fails pooled mid → IsCounted failed counts pooled later
counted_on failed fails counts pooled mid later grew is (inl same) = inl (is ∙ same)
counted_on failed fails counts pooled mid later grew is (inr rose) = inr (rose_until pooled mid later grew rose)

counted_then : (answered : PoolReply) (failed fails counts pooled mid later : ℕ) → pooled ≤ mid → mid ≤ later → IsCounted failed fails pooled mid → Counts answered fails counts → (answered ≡ replies.Failed → Rose mid later) → IsCounted failed counts pooled later
counted_then replies.Done failed fails counts pooled mid later before grew so is rose = counted_on failed fails counts pooled mid later grew is so
counted_then (replies.Held list) failed fails counts pooled mid later before grew so is rose = counted_on failed fails counts pooled mid later grew is so
counted_then (replies.Size size) failed fails counts pooled mid later before grew so is rose = counted_on failed fails counts pooled mid later grew is so
counted_then (replies.Content bytes) failed fails counts pooled mid later before grew so is rose = counted_on failed fails counts pooled mid later grew is so
counted_then replies.Nothing failed fails counts pooled mid later before grew so is rose = counted_on failed fails counts pooled mid later grew is so
counted_then (replies.Removed was) failed fails counts pooled mid later before grew so is rose = counted_on failed fails counts pooled mid later grew is so
counted_then replies.Failed failed fails counts pooled mid later before grew so is rose = inr (rose_since pooled mid later before (rose refl))
counted_then replies.NoMemory failed fails counts pooled mid later before grew so is rose = counted_on failed fails counts pooled mid later grew is so

-- ---- the call begins

taken_none : (call : RowCall) (held : Holders) → IsTaken call held None
taken_none (Ask request) held = tt

others_itself : (call : RowCall) (held : Holders) → OnName call (λ name. KeepsOtherNames name held held)
others_itself (Ask request) held = if_some_by request.name (λ name. KeepsOtherNames name held held) (λ name _ digest other of is apart. refl)

entries_itself : (call : RowCall) (held : Holders) → OnName call (λ name. EntersPool name held held)
entries_itself (Ask request) held = if_some_by request.name (λ name. EntersPool name held held) (λ name _. enters_none name held)

module _ {S : Type 0} {G : Ghosts S} (old : RowCore S G) (failed : ℕ) (before : List (DigestShard S G)) (moment : ℕ) where
  pub begun_drives : (call : RowCall) (next : RowNext) (new : RowCore S G) → BeginsRow (IsOwn old.config old.row) call moment old.repos (G.faults old.part) next new.waiting new.repos (G.faults new.part) → OnName call (λ name. Rests next name moment new.waiting)
      → FitsNext call next new.waiting → OnName call (λ name. KeepsBeside (G.objects old.part) name (G.objects new.part)) → OnDone next (NoneFresh None new.repos) → HasCause next (G.faults old.part) (G.faults new.part) → new.row ≡ old.row → new.config ≡ old.config
      → new.opened ≡ old.opened → Drives old failed before call moment next new failed before
  begun_drives call next new begins rests fits beside names cause row config opened = record {
    answer = both_itself (holds (objects_of before))
        (λ held behind. AgreesRow (IsOwn old.config old.row) old.repos held
        → Led (IsOwn old.config old.row) call moment old.repos held (G.faults old.part + failed) next new.waiting new.repos behind (G.faults new.part + failed))
        (λ held agrees. record { taken = None; is_taken = taken_none call held; goes = begins held failed agrees; first = inl refl });
    others = both_itself (holds (objects_of before)) (λ held behind. OnName call (λ name. KeepsOtherNames name held behind)) (λ held. others_itself call held);
    entries = both_itself (holds (objects_of before)) (λ held behind. OnName call (λ name. EntersPool name held behind)) (λ held. entries_itself call held);
    rests = rests;
    fits = fits;
    beside = beside;
    names = names;
    cause = cause_first next (G.faults old.part) (G.faults new.part) (sum (faults_of before)) cause;
    later = omega arith;
    counted = inl refl;
    tight = λ _ h. h;
    dedupe = λ h. h;
    row = row;
    config = config;
    opened = opened;
  }

  -- ---- it goes on

  module _ (request : Request) (asked : PoolCall) (mid : RowCore S G) (fails : ℕ) (since : List (DigestShard S G)) (d : Drives old failed before (Ask request) moment (nexts.Pool asked) mid fails since) (was : Waiting) (is : mid.waiting ≡ Some was)
      (named : request.name ≡ Some was.name) (own : IsOwn old.config old.row was.name) (at_moment : was.moment ≡ moment) (answered : PoolReply) (later : ℕ) (after : List (DigestShard S G)) (a : Asked was.name since fails asked answered after later)
      (next : RowNext) (new : RowCore S G) where
    goes_on_old : GoesOnRow (IsOwn mid.config mid.row) mid.waiting answered mid.repos (G.faults mid.part) next new.waiting new.repos (G.faults new.part) → GoesOnRow (IsOwn old.config old.row) (Some was) answered mid.repos (G.faults mid.part) next new.waiting new.repos (G.faults new.part)
    goes_on_old h =
        subst (λ (c : RowConfig). GoesOnRow (IsOwn c old.row) (Some was) answered mid.repos (G.faults mid.part) next new.waiting new.repos (G.faults new.part)) d.config
        (subst (λ (r : ℕ). GoesOnRow (IsOwn mid.config r) (Some was) answered mid.repos (G.faults mid.part) next new.waiting new.repos (G.faults new.part)) d.row
        (subst (λ (w : Option Waiting). GoesOnRow (IsOwn mid.config mid.row) w answered mid.repos (G.faults mid.part) next new.waiting new.repos (G.faults new.part)) is h))

    is_for : IsForCall (Ask request) was
    is_for = some_and_at mid.waiting (λ (w : Waiting). IsForCall (Ask request) w) was is d.fits

    on_drives : GoesOnRow (IsOwn mid.config mid.row) mid.waiting answered mid.repos (G.faults mid.part) next new.waiting new.repos (G.faults new.part) → IfSome mid.waiting (λ (w : Waiting). Rests next w.name w.moment new.waiting) → HasCauseAfter answered next (G.faults mid.part) (G.faults new.part)
        → IfSome mid.waiting (λ (w : Waiting). (call : RowCall) → IsForCall call w → FitsNext call next new.waiting) → pending_of new.waiting < pending_of mid.waiting → IfSome mid.waiting (λ (w : Waiting). KeepsBeside (G.objects mid.part) w.name (G.objects new.part))
        → OnDone next (NoneFresh None new.repos) → new.row ≡ mid.row → new.config ≡ mid.config → new.opened ≡ mid.opened → Drives old failed before (Ask request) moment next new later after
    on_drives goes_on rests cause fits falls beside names row config opened = record {
      answer = both_then (holds (objects_of before)) (holds (objects_of since)) (holds (objects_of after))
          (λ held behind. AgreesRow (IsOwn old.config old.row) old.repos held
          → Led (IsOwn old.config old.row) (Ask request) moment old.repos held (G.faults old.part + failed) (nexts.Pool asked) mid.waiting mid.repos behind (G.faults mid.part + fails)) (AnswersAsked asked answered)
          (λ held behind. AgreesRow (IsOwn old.config old.row) old.repos held
          → Led (IsOwn old.config old.row) (Ask request) moment old.repos held (G.faults old.part + failed) next new.waiting new.repos behind (G.faults new.part + later))
          (λ held between behind led h agrees.
          led_on (IsOwn old.config old.row) (λ name of. of.named) request moment was named own at_moment old.repos held (G.faults old.part + failed) asked mid.repos between behind (G.faults mid.part) fails later answered
          (subst (λ (w : Option Waiting). Led (IsOwn old.config old.row) (Ask request) moment old.repos held (G.faults old.part + failed) (nexts.Pool asked) w mid.repos between (G.faults mid.part + fails)) is (led agrees)) h
          next new.waiting new.repos (G.faults new.part) is_for (subst (λ (w : Option Waiting). pending_of new.waiting < pending_of w) is falls) (goes_on_old goes_on) a.counts) d.answer a.answer;
      others = both_then (holds (objects_of before)) (holds (objects_of since)) (holds (objects_of after)) (λ held behind. OnName (Ask request) (λ name. KeepsOtherNames name held behind)) (KeepsOtherNames was.name)
          (λ held behind. OnName (Ask request) (λ name. KeepsOtherNames name held behind)) (λ held between behind h k.
          if_some_by request.name (λ name. KeepsOtherNames name held behind) (λ name on digest other of is_other apart. k digest other of is_other (λ e. apart (e ∙ name_same was.name name (sym named ∙ on)))
          ∙ if_some_at request.name (λ n. KeepsOtherNames n held between) name on h digest other of is_other apart)) d.others a.others;
      entries = both_then (holds (objects_of before)) (holds (objects_of since)) (holds (objects_of after)) (λ held behind. OnName (Ask request) (λ name. EntersPool name held behind)) (EntersPool was.name)
          (λ held behind. OnName (Ask request) (λ name. EntersPool name held behind)) (λ held between behind h k.
          if_some_by request.name (λ name. EntersPool name held behind) (λ name on. enters_then name held between behind (if_some_at request.name (λ n. EntersPool n held between) name on h)
          (subst (λ (n : List ℕ). EntersPool n between behind) (name_same was.name name (sym named ∙ on)) k))) d.entries a.entries;
      rests = if_some_by request.name (λ name. Rests next name moment new.waiting) (λ name on. subst (λ (n : List ℕ). Rests next n moment new.waiting) (name_same was.name name (sym named ∙ on))
          (subst (λ m. Rests next was.name m new.waiting) at_moment (if_some_at mid.waiting (λ (w : Waiting). Rests next w.name w.moment new.waiting) was is rests)));
      fits = if_some_at mid.waiting (λ (w : Waiting). (call : RowCall) → IsForCall call w → FitsNext call next new.waiting) was is fits (Ask request) is_for;
      beside = if_some_by request.name (λ name. KeepsBeside (G.objects old.part) name (G.objects new.part)) (λ name on. beside_then (G.objects old.part) (G.objects mid.part) (G.objects new.part) name
          (if_some_at request.name (λ n. KeepsBeside (G.objects old.part) n (G.objects mid.part)) name on d.beside)
          (subst (λ (n : List ℕ). KeepsBeside (G.objects mid.part) n (G.objects new.part)) (name_same was.name name (sym named ∙ on)) (if_some_at mid.waiting (λ (w : Waiting). KeepsBeside (G.objects mid.part) w.name (G.objects new.part)) was is beside)));
      names = names;
      cause = cause_then answered next (G.faults old.part) (G.faults mid.part) (G.faults new.part) (sum (faults_of before)) (sum (faults_of since)) (sum (faults_of after)) d.cause d.later a.rose cause;
      later = later_then (sum (faults_of before)) (sum (faults_of since)) (sum (faults_of after)) d.later a.later;
      counted = counted_then answered failed fails later (sum (faults_of before)) (sum (faults_of since)) (sum (faults_of after)) d.later a.later d.counted a.counts a.rose;
      tight = λ deduped tight. a.tight (d.dedupe deduped) (d.tight deduped tight);
      dedupe = λ deduped. a.dedupe (d.dedupe deduped);
      row = row ∙ d.row;
      config = config ∙ d.config;
      opened = opened ∙ d.opened;
    } where
      name_same : (one two : List ℕ) → Some one ≡ Some two → one ≡ two
      name_same one two h = cc h

      later_then : (x y z : ℕ) → x ≤ y → y ≤ z → x ≤ z
      later_then x y z h k = omega arith

  -- the same of any call of the row, whatever it is that waits
  pub goes_on_drives : (call : RowCall) (asked : PoolCall) (here : RowNext) (mid : RowCore S G) (fails : ℕ) (since : List (DigestShard S G)) → IsOnOwn (IsOwn old.config old.row) call → here ≡ nexts.Pool asked → Drives old failed before call moment here mid fails since
      → (name : List ℕ) → OnName call (λ n. n ≡ name) → (answered : PoolReply) (later : ℕ) (after : List (DigestShard S G)) → Asked name since fails asked answered after later → (next : RowNext) (new : RowCore S G)
      → GoesOnRow (IsOwn mid.config mid.row) mid.waiting answered mid.repos (G.faults mid.part) next new.waiting new.repos (G.faults new.part) → IfSome mid.waiting (λ (w : Waiting). Rests next w.name w.moment new.waiting) → HasCauseAfter answered next (G.faults mid.part) (G.faults new.part)
      → IfSome mid.waiting (λ (w : Waiting). (c : RowCall) → IsForCall c w → FitsNext c next new.waiting) → pending_of new.waiting < pending_of mid.waiting → IfSome mid.waiting (λ (w : Waiting). KeepsBeside (G.objects mid.part) w.name (G.objects new.part))
      → OnDone next (NoneFresh None new.repos) → new.row ≡ mid.row → new.config ≡ mid.config → new.opened ≡ mid.opened → Drives old failed before call moment next new later after
  goes_on_drives (Ask request) asked here mid fails since on is drives name called answered later after a next new goes_on rests cause fits falls beside names row config opened =
      let d = subst (λ (n : RowNext). Drives old failed before (Ask request) moment n mid fails since) is drives in
      let owner = some_of (IsOwn old.config old.row) request.name on in
      let rest = if_some_at request.name (λ name. Rests (nexts.Pool asked) name moment mid.waiting) owner.0 owner.1 d.rests in
      let waits = some_of (λ (w : Waiting). (w.name ≡ owner.0) × (w.moment ≡ moment)) mid.waiting rest in
      on_drives request asked mid fails since d waits.0 waits.1 (owner.1 ∙ ap (λ (n : List ℕ). Some n) (sym waits.2.0)) (subst (IsOwn old.config old.row) (sym waits.2.0) owner.2) waits.2.1 answered later after
      (subst (λ (n : List ℕ). Asked n since fails asked answered after later) (sym (waits.2.0 ∙ if_some_at request.name (λ n. n ≡ name) owner.0 owner.1 called)) a) next new goes_on rests cause fits falls beside names row config opened
