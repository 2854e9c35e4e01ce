-- How a call on a row goes on from one answer of the pool to the next.
use Rattle.std.proofs.Common.{◌≡◌, ◌≢◌, ◌⊎◌, ◌≤◌, ◌<◌, ◌+◌, inl, inr, ℕ, List, Option, Some, None, refl, sym, ap, subst, ◌∙◌, arith}
use Rattle.zot_contents.specs.Holders.{name_in}
use Rattle.zot_contents.specs.Pool.{Holders}
use Rattle.zot_contents.specs.declared.pool_call.PoolCall.{PoolCall}
use Rattle.zot_contents.specs.declared.pool_call.PoolCall.TheVariants as pool
use Rattle.zot_contents.specs.declared.pool_reply.PoolReply.{PoolReply}
use Rattle.zot_contents.specs.declared.pool_reply.PoolReply.TheVariants as replies
use Rattle.zot_model.specs.Mounts.{Asks as AsksMount}
use Rattle.zot_model.specs.State.{RepoState}
use Rattle.zot_model.specs.declared.call.Call.{Call}
use Rattle.zot_model.specs.declared.call.Call.TheVariants as calls
use Rattle.zot_model.specs.declared.request.Request.{Request}
use Rattle.zot_model.specs.declared.row.RowCall.TheVariants.{Ask}
use Rattle.zot_names.specs.Name.{IsName}
use Rattle.zot_row.specs.Doing.{Doing}
use Rattle.zot_row.specs.Stages.{IsFor, Learns, pending}
use Rattle.zot_row.specs.Turns.{Counts, given}
use Rattle.zot_row.specs.declared.stage.Learning.{Learning}
use Rattle.zot_row.specs.declared.stage.Learning.TheVariants as learning
use Rattle.zot_row.specs.declared.stage.Stage.{Stage}
use Rattle.zot_row.specs.declared.stage.Stage.TheVariants as stages
use Rattle.zot_table.specs.Standing.{Holds}
use Rattle.zot_table.specs.Tables.{RepoTable}
use Rattle.zot_repo.proofs.AskLemmas.{if_some_at}
use Rattle.zot_repo.specs.RowGoing.{GoesOnRow, GoesRow, IsForCall, pending_of}
use Rattle.zot_repo.specs.Rows.{Tables, TakesRow, state_of, table_at, under}
use Rattle.zot_repo.specs.Shards.{AnswersAsked, IsLate, IsTaken, Led}
use Rattle.zot_repo.specs.declared.row_next.RowNext.{RowNext}
use Rattle.zot_repo.specs.declared.row_next.RowNext.TheVariants as nexts
use Rattle.zot_repo.specs.declared.waiting.Waiting.{Waiting}

-- ---- what is asked

-- it is asked under the name of the call's repository
pub asked_name : (name : List ℕ) (stage : Stage) (old : RepoState) (call : Call) (moment : ℕ) (asked : PoolCall) (table : RepoTable) (holds : Holds) → Doing name stage old call moment asked table holds → name_in asked ≡ Some name
asked_name name (stages.Blob digest) old call moment asked table holds h = ap name_in h.asked_is
asked_name name (stages.Manifest digest media reference) old call moment asked table holds h = ap name_in h.asked_is
asked_name name (stages.Attach digest size purpose) old call moment asked table holds h = ap name_in h.asked_is
asked_name name (stages.Mount digest made rest) old call moment asked table holds h = ap name_in h.asked_is
asked_name name (stages.Detach digest) old call moment asked table holds h = ap name_in h.asked_is
asked_name name (stages.Learn digest left purpose) old call moment asked table holds h = ap name_in h.asked_is

-- a call whose mount was given bytes asked for what a repository holds under a digest, and this first
pub record AsksOnce (name : List ℕ) (stage : Stage) (call : Call) (asked : PoolCall) : Type 0 where
  pub from : List ℕ
  pub digest : List ℕ
  pub asked_is : asked ≡ pool.Mount name from digest
  pub asks : AsksMount call digest from
  pub pending_is : pending stage ≡ 2

given_reads : (answered : PoolReply) (name digest bytes : List ℕ) (holds : Holds) → given answered (pool.Read name digest) holds ≢ Some bytes
given_reads replies.Done name digest bytes holds h = cc h
given_reads (replies.Held list) name digest bytes holds h = cc h
given_reads (replies.Size size) name digest bytes holds h = cc h
given_reads (replies.Content found) name digest bytes holds h = cc h
given_reads replies.Nothing name digest bytes holds h = cc h
given_reads (replies.Removed was) name digest bytes holds h = cc h
given_reads replies.Failed name digest bytes holds h = cc h
given_reads replies.NoMemory name digest bytes holds h = cc h

given_attaches : (answered : PoolReply) (name digest sent bytes : List ℕ) (holds : Holds) → given answered (pool.Attach name digest sent) holds ≢ Some bytes
given_attaches replies.Done name digest sent bytes holds h = cc h
given_attaches (replies.Held list) name digest sent bytes holds h = cc h
given_attaches (replies.Size size) name digest sent bytes holds h = cc h
given_attaches (replies.Content found) name digest sent bytes holds h = cc h
given_attaches replies.Nothing name digest sent bytes holds h = cc h
given_attaches (replies.Removed was) name digest sent bytes holds h = cc h
given_attaches replies.Failed name digest sent bytes holds h = cc h
given_attaches replies.NoMemory name digest sent bytes holds h = cc h

given_detaches : (answered : PoolReply) (name digest bytes : List ℕ) (holds : Holds) → given answered (pool.Detach name digest) holds ≢ Some bytes
given_detaches replies.Done name digest bytes holds h = cc h
given_detaches (replies.Held list) name digest bytes holds h = cc h
given_detaches (replies.Size size) name digest bytes holds h = cc h
given_detaches (replies.Content found) name digest bytes holds h = cc h
given_detaches replies.Nothing name digest bytes holds h = cc h
given_detaches (replies.Removed was) name digest bytes holds h = cc h
given_detaches replies.Failed name digest bytes holds h = cc h
given_detaches replies.NoMemory name digest bytes holds h = cc h

module _ (answered : PoolReply) (bytes : List ℕ) (after : Holds) where
  abbrev GivesBytes : PoolCall → Type 0
  GivesBytes asked = given answered asked after ≡ Some bytes

  pub asks_once : (name : List ℕ) (stage : Stage) (old : RepoState) (call : Call) (moment : ℕ) (asked : PoolCall) (table : RepoTable) (holds : Holds) → Doing name stage old call moment asked table holds → given answered asked after ≡ Some bytes → AsksOnce name stage call asked
  asks_once name (stages.Blob digest) old call moment asked table holds h k = absurd (given_reads answered name digest bytes after (subst GivesBytes h.asked_is k))
  asks_once name (stages.Manifest digest media reference) old call moment asked table holds h k = absurd (given_reads answered name digest bytes after (subst GivesBytes h.asked_is k))
  asks_once name (stages.Attach digest size purpose) old call moment asked table holds h k = absurd (given_attaches answered name digest h.bytes bytes after (subst GivesBytes h.asked_is k))
  asks_once name (stages.Mount digest made rest) old call moment asked table holds h k = record {
    from = h.from;
    digest = digest;
    asked_is = h.asked_is;
    asks = record { other = h.mounts.other; body = h.mounts.body; is = h.mounts.is };
    pending_is = refl;
  }
  asks_once name (stages.Detach digest) old call moment asked table holds h k = absurd (given_detaches answered name digest bytes after (subst GivesBytes h.asked_is k))
  asks_once name (stages.Learn digest left purpose) old call moment asked table holds h k = absurd (given_reads answered name digest bytes after (subst GivesBytes h.asked_is k))

-- ---- a call that is to take over a blob

abbrev digest_asked : Call → Option (List ℕ)
digest_asked (calls.Post (Some mount) other body) = Some mount.digest
digest_asked _ = None

abbrev from_asked : Call → Option (List ℕ)
from_asked (calls.Post (Some mount) other body) = mount.from
from_asked _ = None

some_same : (one two : List ℕ) → Some one ≡ Some two → one ≡ two
some_same one two h = cc h

-- it names one digest and one repository
asks_digest : (call : Call) (digest from one two : List ℕ) → AsksMount call digest from → AsksMount call one two → one ≡ digest
asks_digest call digest from one two h k = some_same one digest (sym (ap digest_asked k.is) ∙ ap digest_asked h.is)

asks_from : (call : Call) (digest from one two : List ℕ) → AsksMount call digest from → AsksMount call one two → two ≡ from
asks_from call digest from one two h k = some_same two from (sym (ap from_asked k.is) ∙ ap from_asked h.is)

-- it asks the pool twice at most
learns_none : (purpose : Learning) (call : Call) (digest from : List ℕ) → Learns purpose call → AsksMount call digest from → ⊥
learns_none (learning.Delete own) call digest from h asks = cc (sym h ∙ asks.is)
learns_none (learning.List own filter) call digest from h asks = cc (sym h ∙ asks.is)

asks_twice : (stage : Stage) (call : Call) (digest from : List ℕ) → IsFor stage call → AsksMount call digest from → pending stage ≤ 2
asks_twice (stages.Blob own) call digest from h asks = omega arith
asks_twice (stages.Manifest own media reference) call digest from h asks = omega arith
asks_twice (stages.Attach own size purpose) call digest from h asks = omega arith
asks_twice (stages.Mount own made rest) call digest from h asks = omega arith
asks_twice (stages.Detach own) call digest from h asks = omega arith
asks_twice (stages.Learn own left purpose) call digest from h asks = absurd (learns_none purpose call digest from h asks)

below_two : (left most : ℕ) → left < most → most ≤ 2 → left < 2
below_two left most falls within = omega arith

isnt_below : (left : ℕ) → left ≡ 2 → left < 2 → ⊥
isnt_below left is below = omega arith

-- ---- one answer of the pool

module _ (Own : List ℕ → Type 0) (named_own : (name : List ℕ) → Own name → IsName name) (request : Request) (moment : ℕ) (was : Waiting) (named : request.name ≡ Some was.name) (own : Own was.name) (at_moment : was.moment ≡ moment) (old : Tables) (held : Holders)
    (before : ℕ) (asked : PoolCall) (kept : Tables) (mid behind : Holders) (so fails later : ℕ) (answered : PoolReply) (led : Led Own (Ask request) moment old held before (nexts.Pool asked) (Some was) kept mid (so + fails))
    (answers : AnswersAsked asked answered mid behind) where
  is_name : IsName was.name
  is_name = named_own was.name own

  on_asked : name_in asked ≡ Some was.name
  on_asked = asked_name was.name was.stage _ request.call was.moment asked (table_at kept was.name) (under mid was.name) led.goes.1.doing

  takes : TakesRow IsName was.name answered asked mid behind
  takes = if_some_at (name_in asked) (λ name. IsName name → TakesRow IsName name answered asked mid behind) was.name on_asked answers.takes is_name

  takes_own : TakesRow Own was.name answered asked mid behind
  takes_own = record { here = takes.here; others = λ other is apart. takes.others other (named_own other is) apart }

  -- what a mount was given, the repository that it names held at the beginning
  held_then : (bytes digest from : List ℕ) → AsksMount request.call digest from → given answered asked (under behind was.name) ≡ Some bytes → AsksOnce was.name was.stage request.call asked → (mid ≡ held) ⊎ IsLate (Ask request) (Some was) → held digest from ≡ Some bytes
  held_then bytes digest from asks is once (inl same) =
      subst (λ (n : List ℕ). held digest n ≡ Some bytes) (asks_from request.call digest from once.digest once.from asks once.asks)
      (subst (λ (d : List ℕ). held d once.from ≡ Some bytes) (asks_digest request.call digest from once.digest once.from asks once.asks)
      (subst (λ (h : Holders). h once.digest once.from ≡ Some bytes) same
      (if_some_at (given answered asked (under behind was.name)) (λ found. mid once.digest once.from ≡ Some found) bytes is (answers.taken was.name once.from once.digest is_name once.asked_is))))
  held_then bytes digest from asks is once (inr late) = absurd (isnt_below (pending was.stage) once.pending_is (late digest from asks))

  taken_by : (found : Option (List ℕ)) → given answered asked (under behind was.name) ≡ found → IsTaken (Ask request) held found
  taken_by None is = tt
  taken_by (Some bytes) is = λ digest from asks.
      held_then bytes digest from asks is (asks_once answered bytes (under behind was.name) was.name was.stage _ request.call was.moment asked (table_at kept was.name) (under mid was.name) led.goes.1.doing is) led.first

  pub led_on : (next : RowNext) (waiting : Option Waiting) (new : Tables) (after : ℕ) → IsForCall (Ask request) was → pending_of waiting < pending was.stage → GoesOnRow Own (Some was) answered kept so next waiting new after → Counts answered fails later
      → Led Own (Ask request) moment old held before next waiting new behind (after + later)
  led_on next waiting new after fits falls goes_on counts = record {
    taken = given answered asked (under behind was.name);
    is_taken = taken_by (given answered asked (under behind was.name)) refl;
    goes = subst (λ m. GoesRow Own next waiting (given answered asked (under behind was.name)) (state_of old held before) (Ask request) m new behind (after + later)) at_moment
        (goes_on (state_of old held before) (Ask request) asked mid behind fails later led.goes.0 led.goes.1 takes_own counts);
    first = inr (λ digest from asks. below_two (pending_of waiting) (pending was.stage) falls (asks_twice was.stage request.call digest from fits.1 asks));
  }
