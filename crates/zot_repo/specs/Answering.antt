-- What a call on a row with its pool is answered, and what stays the same.
use Rattle.std.specs.Prelude.{◌≡◌, ℕ, ◌+◌, ◌≤◌, None, List, sum}
use Rattle.zot_contents.specs.declared.shard.DigestShard.{DigestShard}
use Rattle.zot_model.specs.Fits.{IsFitting}
use Rattle.zot_model.specs.declared.row.RowCall.{RowCall}
use Rattle.zot_model.specs.declared.row.RowReply.{RowReply}
use Rattle.zot_outside.specs.declared.stores.store.Store.{Ghosts}
use Rattle.zot_pool.specs.Pools.{AreDeduped, AreTightPool, BothHold, faults_of, holds, objects_of}
use Rattle.zot_repo.specs.RowGoing.{IsOwn, KeepsBeside, OnName}
use Rattle.zot_repo.specs.Rows.{AgreesRow, NoneFresh}
use Rattle.zot_repo.specs.Seats.{EntersPool}
use Rattle.zot_repo.specs.Shards.{HasAnswerCause, IsCounted, IsUnfailed, KeepsOtherNames, StepsRow}
use Rattle.zot_repo.specs.declared.shard.RepoShard.{RepoShard}

-- a call on a repository of the row is answered so at a moment, with the pool's shards before and after it
pub record AnswersCall {S : Type 0} {G : Ghosts S} (old : RepoShard S G) (before : List (DigestShard S G)) (call : RowCall) (moment : ℕ) (answer : RowReply) (new : RepoShard S G) (after : List (DigestShard S G)) : Type 0 where
  pub steps : BothHold (holds (objects_of before)) (holds (objects_of after)) (λ held behind. AgreesRow (IsOwn old.core.config old.core.row) old.core.repos held
      → StepsRow (IsOwn old.core.config old.core.row) old.core.repos held (G.faults old.core.part + old.failed) call moment answer new.core.repos behind (G.faults new.core.part + new.failed))
  pub others : BothHold (holds (objects_of before)) (holds (objects_of after)) (λ held behind. OnName call (λ name. KeepsOtherNames name held behind))
  pub entries : BothHold (holds (objects_of before)) (holds (objects_of after)) (λ held behind. OnName call (λ name. EntersPool name held behind))
  pub fault : HasAnswerCause answer (G.faults old.core.part) (G.faults new.core.part) (sum (faults_of before)) (sum (faults_of after))
  pub unfailed : BothHold (holds (objects_of before)) (holds (objects_of after)) (λ held behind. AgreesRow (IsOwn old.core.config old.core.row) old.core.repos held → IsUnfailed answer → new.failed ≡ old.failed)
  pub later : sum (faults_of before) ≤ sum (faults_of after)
  pub counted : IsCounted old.failed new.failed (sum (faults_of before)) (sum (faults_of after))
  pub fits : IsFitting call answer
  pub beside : OnName call (λ name. KeepsBeside (G.objects old.core.part) name (G.objects new.core.part))
  pub names : NoneFresh None new.core.repos
  pub tight : AreDeduped before → AreTightPool before → AreTightPool after
  pub dedupe : AreDeduped before → AreDeduped after
  pub row : new.core.row ≡ old.core.row
  pub config : new.core.config ≡ old.core.config
  pub opened : new.core.opened ≡ old.core.opened
