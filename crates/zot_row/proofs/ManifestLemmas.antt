-- GET, HEAD, PUT and DELETE of a manifest, and the list of tags.
use Rattle.std.proofs.Common.{◌≡◌, ◌≢◌, ◌⊎◌, inl, inr, ℕ, ◌+◌, true, false, List, Option, Some, None, unwrap_or, refl, sym, ap, subst, ◌∙◌}
use Rattle.std.specs.Prelude.{IsSomeAnd, Ok, Err}
use Rattle.zot_contents.specs.declared.pool_call.PoolCall.{PoolCall}
use Rattle.zot_contents.specs.declared.pool_call.PoolCall.TheVariants as pool
use Rattle.zot_contents.specs.declared.pool_reply.PoolReply.{PoolReply}
use Rattle.zot_contents.specs.declared.pool_reply.PoolReply.TheVariants as replies
use Rattle.zot_layout.specs.State.{as_written}
use Rattle.zot_layout.specs.Writing.{PutsIndex}
use Rattle.zot_manifests.specs.Check.{check_of}
use Rattle.zot_manifests.specs.declared.check_error.CheckError.{CheckError}
use Rattle.zot_manifests.specs.declared.check_error.CheckError.TheVariants as checks
use Rattle.zot_manifests.specs.declared.checked.Checked.{Checked}
use Rattle.zot_media.specs.declared.media.Media.{Media}
use Rattle.zot_media.specs.declared.reference.Reference.{Reference}
use Rattle.zot_model.specs.Among.{IsAmong}
use Rattle.zot_model.specs.Fits.{FitsCall}
use Rattle.zot_model.specs.Outcomes.{with_blob}
use Rattle.zot_model.specs.Pages.{page}
use Rattle.zot_model.specs.Plain.{leavings}
use Rattle.zot_model.specs.Refusals.{refusal, storage_fault}
use Rattle.zot_model.specs.State.{RepoState}
use Rattle.zot_model.specs.declared.call.Call.{Call}
use Rattle.zot_model.specs.declared.call.Call.TheVariants as calls
use Rattle.zot_model.specs.declared.code.Code.TheVariants.{ManifestUnknown, NameUnknown}
use Rattle.zot_model.specs.declared.reply.Reply.{Reply}
use Rattle.zot_model.specs.declared.reply.Reply.TheVariants.{Deleted, Manifest, ManifestHead, Tags}
use Rattle.zot_outside.specs.Objects.{Objects, Told}
use Rattle.zot_row.proofs.EndLemmas.{read_gives, read_keeps}
use Rattle.zot_row.proofs.PartLemmas.{put_others, removed_stands}
use Rattle.zot_row.proofs.QuietLemmas.{may_end, memory_fits, quiet_asks, quiet_done}
use Rattle.zot_row.proofs.ResumeLemmas.{given_resumes, ungiven_resumes}
use Rattle.zot_row.specs.Doing.{Doing, EndsWith}
use Rattle.zot_row.specs.Going.{NeverMounts, Quietly, ResumesQuietly, Starts}
use Rattle.zot_row.specs.Refusals.{pool_refusal}
use Rattle.zot_row.specs.Turns.{Takes, given}
use Rattle.zot_row.specs.declared.stage.Attaching.TheVariants as attaching
use Rattle.zot_row.specs.declared.stage.Stage.TheVariants as stages
use Rattle.zot_row.specs.declared.turn.Turn.TheVariants as turns
use Rattle.zot_table.proofs.IndexLemmas.{pull_alike}
use Rattle.zot_table.proofs.ManifestLemmas.{pull_agrees, remove_agrees}
use Rattle.zot_table.proofs.ManifestReplyLemmas.{IsShort, checked_of, list_known, list_unknown}
use Rattle.zot_table.proofs.StandingLemmas.{same_agrees, same_is}
use Rattle.zot_table.proofs.StepLemmas.{delete_manifest_made, delete_manifest_none, get_manifest_none, get_manifest_some, head_manifest_none, head_manifest_some, put_made, put_refused}
use Rattle.zot_table.specs.Changes.{with_pull_of, without_named}
use Rattle.zot_table.specs.Refusals.{put_refusal}
use Rattle.zot_table.specs.Replies.{MayGive, made_reply, with_checked as plain_with_checked}
use Rattle.zot_table.specs.Standing.{Agrees, AreEqual, Holds, repo_of}
use Rattle.zot_table.specs.Tables.{RepoTable, found_in, has_named, index_of, size_at}
use Rattle.zot_table.specs.declared.found_entry.FoundEntry.{FoundEntry}

-- ---- calls that take over no blob

pub put_never : (reference : Reference) (media : Option Media) (body : List ℕ) → NeverMounts (calls.PutManifest reference media body)
put_never reference media body digest from asks = cc asks.is

pub delete_never : (reference : Reference) → NeverMounts (calls.DeleteManifest reference)
delete_never reference digest from asks = cc asks.is

module _ (moment : ℕ) (name : List ℕ) (table : RepoTable) (reference : Reference) where
  -- ---- HEAD

  pub head_unknown : found_in table reference ≡ None → Quietly (calls.HeadManifest reference) moment name table (turns.Done (refusal ManifestUnknown)) table
  head_unknown none =
      quiet_done (calls.HeadManifest reference) moment name table (refusal ManifestUnknown) (λ holds agrees. head_manifest_none moment table holds agrees reference (refusal ManifestUnknown) none refl)
      (inr (inl refl, refl, tt)) (λ h. cc h)

  pub head_known : (found : FoundEntry) → found_in table reference ≡ Some found → Quietly (calls.HeadManifest reference) moment name table (turns.Done (ManifestHead found.digest found.media found.size)) table
  head_known found has =
      quiet_done (calls.HeadManifest reference) moment name table (ManifestHead found.digest found.media found.size)
      (λ holds agrees. head_manifest_some moment table holds agrees reference (ManifestHead found.digest found.media found.size) found has refl) (inl tt) (λ h. cc h)

  -- ---- GET

  pub get_unknown : found_in table reference ≡ None → Quietly (calls.GetManifest reference) moment name table (turns.Done (refusal ManifestUnknown)) table
  get_unknown none =
      quiet_done (calls.GetManifest reference) moment name table (refusal ManifestUnknown) (λ holds agrees. get_manifest_none moment table holds agrees reference (refusal ManifestUnknown) none refl)
      (inr (inl refl, refl, tt)) (λ h. cc h)

  pub get_asks : (found : FoundEntry) → found_in table reference ≡ Some found
      → Quietly (calls.GetManifest reference) moment name table (turns.Asks (pool.Read name found.digest) (stages.Manifest found.digest found.media reference)) table
  get_asks found has =
      quiet_asks (calls.GetManifest reference) moment name table (pool.Read name found.digest) (stages.Manifest found.digest found.media reference) refl
      (λ holds agrees. record {
        call_is = refl;
        asked_is = refl;
        same = refl;
        found = subst (λ o. IsSomeAnd o (λ f. (f.digest ≡ found.digest) × (f.media ≡ found.media))) (sym has) (refl, refl);
      })

  module _ (digest : List ℕ) (media : Media) where
    pub manifest_ungiven : (answered : PoolReply) → ResumesQuietly (stages.Manifest digest media reference) answered moment name table (turns.Done (pool_refusal answered)) table
    manifest_ungiven answered = ungiven_resumes (stages.Manifest digest media reference) answered moment name table table (record { known = refl; manifests = refl; tags = λ _. refl }) leaves where
      leaves : (start : RepoState) (call : Call) (asked : PoolCall) (holds behind : Holds) → Agrees table holds → Doing name (stages.Manifest digest media reference) start call moment asked table holds → Takes answered asked holds behind
          → AreEqual holds behind × (given answered asked behind ≡ None) × Agrees table holds × IsAmong (leavings moment start call) (repo_of table holds)
      leaves start call asked holds behind agrees doing takes = (
        read_keeps answered name digest holds behind (subst (λ a. Takes answered a holds behind) doing.asked_is takes),
        ap (λ a. given answered a behind) doing.asked_is ∙ read_gives answered name digest behind,
        agrees,
        inl doing.same,
      )

    -- what was found is what the pool has read
    read_manifest : (bytes : List ℕ) (behind : Holds) (o : Option FoundEntry) → found_in table reference ≡ o → IsSomeAnd o (λ f. (f.digest ≡ digest) × (f.media ≡ media)) → Agrees table behind → behind digest ≡ Some bytes
        → MayGive moment (repo_of table behind) (calls.GetManifest reference) (Manifest digest media bytes) (repo_of (with_pull_of moment table reference) behind)
    read_manifest bytes behind None is h agrees has = absurd h
    read_manifest bytes behind (Some found) is h agrees has =
        get_manifest_some moment table behind agrees reference (Manifest digest media bytes) found bytes is (ap behind h.0 ∙ has)
        (ap (λ d. Manifest d media bytes) (sym h.0) ∙ ap (λ m. Manifest found.digest m bytes) (sym h.1))

    pub manifest_given : (bytes : List ℕ) → ResumesQuietly (stages.Manifest digest media reference) (replies.Content bytes) moment name table (turns.Done (Manifest digest media bytes)) (with_pull_of moment table reference)
    manifest_given bytes =
        given_resumes (stages.Manifest digest media reference) (replies.Content bytes) moment name table (with_pull_of moment table reference) (Manifest digest media bytes) (λ h. cc h) (pull_alike moment table (λ _. None) reference) (λ h. cc h)
        (λ call fits. subst (λ (c : Call). FitsCall c (Manifest digest media bytes)) (sym fits) (inl tt)) gives where
          gives : (start : RepoState) (call : Call) (asked : PoolCall) (holds behind : Holds) → Agrees table holds → Doing name (stages.Manifest digest media reference) start call moment asked table holds → Takes (replies.Content bytes) asked holds behind
              → (given (replies.Content bytes) asked behind ≡ None) × Agrees (with_pull_of moment table reference) behind × MayGive moment start call (Manifest digest media bytes) (repo_of (with_pull_of moment table reference) behind)
          gives start call asked holds behind agrees doing takes =
              let read : (holds digest ≡ Some bytes) × AreEqual holds behind = subst (λ a. Takes (replies.Content bytes) a holds behind) doing.asked_is takes in
              let still = same_agrees table holds behind read.1 agrees in (
                refl,
                pull_agrees moment table behind reference still,
                subst (λ (c : Call). MayGive moment start c (Manifest digest media bytes) (repo_of (with_pull_of moment table reference) behind)) (sym doing.call_is)
                    (subst (λ (r : RepoState). MayGive moment r (calls.GetManifest reference) (Manifest digest media bytes) (repo_of (with_pull_of moment table reference) behind)) (same_is table holds behind read.1 ∙ doing.same)
                    (read_manifest bytes behind (found_in table reference) refl doing.found still (read.1 digest ∙ read.0))),
              )

  -- ---- PUT

  calm_refusal : (error : CheckError) → put_refusal error ≢ storage_fault
  calm_refusal checks.Media h = cc h
  calm_refusal checks.Unread h = cc h
  calm_refusal (checks.Digest digest) h = cc h
  calm_refusal (checks.Missing digest) h = cc h
  calm_refusal checks.NoMemory h = cc h

  refusal_fits : (error : CheckError) (media : Option Media) (body : List ℕ) → FitsCall (calls.PutManifest reference media body) (put_refusal error)
  refusal_fits checks.Media media body = inr (inl refl, refl, tt)
  refusal_fits checks.Unread media body = inr (inl refl, refl, tt)
  refusal_fits (checks.Digest digest) media body = inr (inr (inl refl), refl, tt)
  refusal_fits (checks.Missing digest) media body = inr (inr (inr (inl refl)), refl, tt)
  refusal_fits checks.NoMemory media body = memory_fits (calls.PutManifest reference media body) (λ e. cc e)

  pub put_quiet : (media : Option Media) (body : List ℕ) (error : CheckError) (reply : Reply) → (Err error ≡ check_of (size_at table.slots) reference media body) ⊎ IsShort (Err error) → reply ≡ put_refusal error
      → Quietly (calls.PutManifest reference media body) moment name table (turns.Done reply) table
  put_quiet media body error reply why is =
      quiet_done (calls.PutManifest reference media body) moment name table reply (λ holds agrees. put_refused moment table holds agrees reference media body reply error why is)
      (subst (λ (r : Reply). FitsCall (calls.PutManifest reference media body) r) (sym is) (refusal_fits error media body)) (λ h. calm_refusal error (sym is ∙ h))

  -- once its body is held, it may be kept
  pub put_ends : (holds : Holds) (media : Option Media) (body : List ℕ) (checked : Checked) → Agrees table holds → (Ok checked ≡ check_of (size_at table.slots) reference media body) ⊎ IsShort (Ok checked)
      → EndsWith (attaching.Manifest checked) checked.digest body (repo_of table holds) (calls.PutManifest reference media body) moment
  put_ends holds media body checked agrees right = record {
    reference = reference;
    media = media;
    call_is = refl;
    digest_is = refl;
    of = checked_of (size_at table.slots) reference media body checked right;
    ends = put_made moment table holds agrees reference media body (made_reply checked) (plain_with_checked moment (with_blob moment (repo_of table holds) checked.digest body) checked) checked right refl refl;
  }

  -- ---- DELETE

  pub delete_unknown : has_named table reference ≡ false → Quietly (calls.DeleteManifest reference) moment name table (turns.Done (refusal ManifestUnknown)) table
  delete_unknown none =
      quiet_done (calls.DeleteManifest reference) moment name table (refusal ManifestUnknown) (λ holds agrees. delete_manifest_none moment table holds reference (refusal ManifestUnknown) none refl)
      (inr (inl refl, refl, tt)) (λ h. cc h)

  pub delete_starts : (objects later : Option Objects) (before after : ℕ) (new : RepoTable) → has_named table reference ≡ true → new ≡ without_named table reference → after ≡ before
      → Told objects later (λ a b. PutsIndex a name (as_written (index_of (without_named table reference))) b) → Starts (calls.DeleteManifest reference) moment name table objects before (turns.Done Deleted) new later after
  delete_starts objects later before after new has is stay told = record {
    answer = λ holds failed agrees. (
      subst (λ (t : RepoTable). Agrees t holds) (sym is) (remove_agrees table holds reference agrees),
      may_end moment (repo_of table holds) (repo_of new holds) (calls.DeleteManifest reference) Deleted (before + failed) (after + failed)
          (subst (λ (t : RepoTable). MayGive moment (repo_of table holds) (calls.DeleteManifest reference) Deleted (repo_of t holds)) (sym is) (delete_manifest_made moment table holds reference Deleted has refl)) (ap (λ n. n + failed) stay),
    );
    stands = removed_stands objects later name table new reference (index_of (without_named table reference)) has refl is told;
    beside = put_others objects later name table (index_of (without_named table reference)) told;
    faults = record { failed = λ h. cc h; kept = λ _. stay };
    fits = inl tt;
    mount = λ digest from asks. cc asks.is;
  }

-- ---- the list of tags

module _ (moment : ℕ) (name : List ℕ) (table : RepoTable) (n : Option ℕ) (last : Option (List ℕ)) where
  pub tags_unknown : table.known ≡ false → Quietly (calls.Tags n last) moment name table (turns.Done (refusal NameUnknown)) table
  tags_unknown unknown =
      quiet_done (calls.Tags n last) moment name table (refusal NameUnknown) (λ holds agrees. list_unknown moment (repo_of table holds) n last (refusal NameUnknown) unknown refl) (inr (inl refl, refl, tt)) (λ h. cc h)

  pub tags_known : (reply : Reply) → table.known ≡ true → reply ≡ Tags (page table.table.tags n last).tags (page table.table.tags n last).next (unwrap_or n 0) → Quietly (calls.Tags n last) moment name table (turns.Done reply) table
  tags_known reply known is =
      quiet_done (calls.Tags n last) moment name table reply (λ holds agrees. list_known moment (repo_of table holds) n last reply known is)
      (subst (λ (r : Reply). FitsCall (calls.Tags n last) r) (sym is) (inl tt)) (λ h. cc (sym is ∙ h))
