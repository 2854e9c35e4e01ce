-- GET, HEAD and DELETE of a blob.
use Rattle.std.proofs.Common.{◌≡◌, inl, inr, ℕ, false, List, Option, Some, None, is_some, refl, sym, ap, subst, ◌∙◌}
use Rattle.zot_contents.specs.declared.pool_call.PoolCall.{PoolCall}
use Rattle.zot_contents.specs.declared.pool_call.PoolCall.TheVariants as pool
use Rattle.zot_contents.specs.declared.pool_reply.PoolReply.{PoolReply}
use Rattle.zot_contents.specs.declared.pool_reply.PoolReply.TheVariants as replies
use Rattle.zot_model.specs.Among.{IsAmong}
use Rattle.zot_model.specs.Fits.{FitsCall}
use Rattle.zot_model.specs.Plain.{leavings}
use Rattle.zot_model.specs.Refusals.{refusal}
use Rattle.zot_model.specs.State.{RepoState}
use Rattle.zot_model.specs.declared.call.Call.{Call}
use Rattle.zot_model.specs.declared.call.Call.TheVariants as calls
use Rattle.zot_model.specs.declared.code.Code.TheVariants.{BlobUnknown}
use Rattle.zot_model.specs.declared.reply.Reply.TheVariants.{Blob, BlobHead}
use Rattle.zot_row.proofs.EndLemmas.{read_gives, read_keeps}
use Rattle.zot_row.proofs.QuietLemmas.{quiet_asks, quiet_done}
use Rattle.zot_row.proofs.ResumeLemmas.{given_resumes, ungiven_resumes}
use Rattle.zot_row.specs.Doing.{Doing}
use Rattle.zot_row.specs.Going.{Quietly, ResumesQuietly}
use Rattle.zot_row.specs.Refusals.{pool_refusal}
use Rattle.zot_row.specs.Turns.{Takes, given}
use Rattle.zot_row.specs.declared.stage.Stage.TheVariants as stages
use Rattle.zot_row.specs.declared.turn.Turn.TheVariants as turns
use Rattle.zot_table.proofs.StandingLemmas.{same_agrees, same_is}
use Rattle.zot_table.proofs.StepLemmas.{get_none, get_some, head_none, head_some}
use Rattle.zot_table.specs.Replies.{MayGive}
use Rattle.zot_table.specs.Standing.{Agrees, AreEqual, Holds, repo_of}
use Rattle.zot_table.specs.Tables.{RepoTable, size_at}

-- nothing has no size
pub none_sized : (found : Option ℕ) → is_some found ≡ false → found ≡ None
none_sized None h = refl
none_sized (Some size) h = cc h

-- ---- HEAD

pub head_unknown : (moment : ℕ) (name : List ℕ) (table : RepoTable) (digest : List ℕ) → size_at table.slots digest ≡ None → Quietly (calls.HeadBlob digest) moment name table (turns.Done (refusal BlobUnknown)) table
head_unknown moment name table digest none =
    quiet_done (calls.HeadBlob digest) moment name table (refusal BlobUnknown) (λ holds agrees. head_none moment table holds agrees digest (refusal BlobUnknown) none refl) (inr (inl refl, refl, tt)) (λ h. cc h)

pub head_known : (moment : ℕ) (name : List ℕ) (table : RepoTable) (digest : List ℕ) (size : ℕ) → size_at table.slots digest ≡ Some size → Quietly (calls.HeadBlob digest) moment name table (turns.Done (BlobHead digest size)) table
head_known moment name table digest size has =
    quiet_done (calls.HeadBlob digest) moment name table (BlobHead digest size) (λ holds agrees. head_some moment table holds agrees digest (BlobHead digest size) size has refl) (inl tt) (λ h. cc h)

-- ---- GET

pub get_unknown : (moment : ℕ) (name : List ℕ) (table : RepoTable) (digest : List ℕ) → size_at table.slots digest ≡ None → Quietly (calls.GetBlob digest) moment name table (turns.Done (refusal BlobUnknown)) table
get_unknown moment name table digest none =
    quiet_done (calls.GetBlob digest) moment name table (refusal BlobUnknown) (λ holds agrees. get_none moment table holds agrees digest (refusal BlobUnknown) none refl) (inr (inl refl, refl, tt)) (λ h. cc h)

pub get_asks : (moment : ℕ) (name : List ℕ) (table : RepoTable) (digest : List ℕ) → Quietly (calls.GetBlob digest) moment name table (turns.Asks (pool.Read name digest) (stages.Blob digest)) table
get_asks moment name table digest =
    quiet_asks (calls.GetBlob digest) moment name table (pool.Read name digest) (stages.Blob digest) refl (λ holds agrees. record { call_is = refl; asked_is = refl; same = refl })

-- the pool has read nothing
pub blob_ungiven : (answered : PoolReply) (moment : ℕ) (name : List ℕ) (table : RepoTable) (digest : List ℕ) → ResumesQuietly (stages.Blob digest) answered moment name table (turns.Done (pool_refusal answered)) table
blob_ungiven answered moment name table digest = ungiven_resumes (stages.Blob digest) answered moment name table table (record { known = refl; manifests = refl; tags = λ _. refl }) leaves where
  leaves : (start : RepoState) (call : Call) (asked : PoolCall) (holds behind : Holds) → Agrees table holds → Doing name (stages.Blob digest) start call moment asked table holds → Takes answered asked holds behind
      → AreEqual holds behind × (given answered asked behind ≡ None) × Agrees table holds × IsAmong (leavings moment start call) (repo_of table holds)
  leaves start call asked holds behind agrees doing takes = (
    read_keeps answered name digest holds behind (subst (λ a. Takes answered a holds behind) doing.asked_is takes),
    ap (λ a. given answered a behind) doing.asked_is ∙ read_gives answered name digest behind,
    agrees,
    inl doing.same,
  )

-- the pool has read it
pub blob_given : (moment : ℕ) (name : List ℕ) (table : RepoTable) (digest bytes : List ℕ) → ResumesQuietly (stages.Blob digest) (replies.Content bytes) moment name table (turns.Done (Blob digest bytes)) table
blob_given moment name table digest bytes =
    given_resumes (stages.Blob digest) (replies.Content bytes) moment name table table (Blob digest bytes) (λ h. cc h) (record { known = refl; manifests = refl; tags = λ _. refl }) (λ h. cc h)
    (λ call fits. subst (λ (c : Call). FitsCall c (Blob digest bytes)) (sym fits) (inl tt)) gives where
      at_read : (start : RepoState) (holds behind : Holds) → Agrees table holds → repo_of table holds ≡ start → Takes (replies.Content bytes) (pool.Read name digest) holds behind
          → Agrees table behind × MayGive moment start (calls.GetBlob digest) (Blob digest bytes) (repo_of table behind)
      at_read start holds behind agrees same takes = (
        same_agrees table holds behind takes.1 agrees,
        subst (λ (r : RepoState). MayGive moment start (calls.GetBlob digest) (Blob digest bytes) r) (sym (same_is table holds behind takes.1))
            (subst (λ (r : RepoState). MayGive moment r (calls.GetBlob digest) (Blob digest bytes) (repo_of table holds)) same (get_some moment table holds agrees digest (Blob digest bytes) bytes takes.0 refl)),
      )

      gives : (start : RepoState) (call : Call) (asked : PoolCall) (holds behind : Holds) → Agrees table holds → Doing name (stages.Blob digest) start call moment asked table holds → Takes (replies.Content bytes) asked holds behind
          → (given (replies.Content bytes) asked behind ≡ None) × Agrees table behind × MayGive moment start call (Blob digest bytes) (repo_of table behind)
      gives start call asked holds behind agrees doing takes =
          let h = at_read start holds behind agrees doing.same (subst (λ a. Takes (replies.Content bytes) a holds behind) doing.asked_is takes) in
          (refl, h.0, subst (λ (c : Call). MayGive moment start c (Blob digest bytes) (repo_of table behind)) (sym doing.call_is) h.1)
