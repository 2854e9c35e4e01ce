-- What a call leads to once the pool was asked to hold its bytes.
use Rattle.std.proofs.Common.{◌≡◌, ◌≢◌, ◌⊎◌, inl, inr, ℕ, ◌+◌, true, false, List, length, Option, Some, None, refl, sym, ap, subst, ◌∙◌}
use Rattle.std.specs.Prelude.{Err}
use Rattle.std.specs.FinMap as finite
use Rattle.std.proofs.lemmas.Bool.{true≢false}
use Rattle.zot_contents.specs.declared.pool_call.PoolCall.{PoolCall}
use Rattle.zot_contents.specs.declared.pool_reply.PoolReply.{PoolReply}
use Rattle.zot_contents.specs.declared.pool_reply.PoolReply.TheVariants as replies
use Rattle.zot_layout.specs.State.{as_written}
use Rattle.zot_layout.specs.Writing.{PutsIndex}
use Rattle.zot_manifests.specs.declared.checked.Checked.{Checked}
use Rattle.zot_model.specs.Among.{IsAmong}
use Rattle.zot_model.specs.Fits.{FitsCall}
use Rattle.zot_model.specs.Outcomes.{with_blob}
use Rattle.zot_model.specs.Plain.{leavings}
use Rattle.zot_model.specs.Refusals.{no_memory}
use Rattle.zot_model.specs.State.{RepoState, made_known}
use Rattle.zot_model.specs.Uploads.{without}
use Rattle.zot_model.specs.declared.call.Call.{Call}
use Rattle.zot_model.specs.declared.reply.Reply.{Reply}
use Rattle.zot_model.specs.declared.reply.Reply.TheVariants.{BlobMade}
use Rattle.zot_outside.specs.Faults.{HasStoreCause}
use Rattle.zot_outside.specs.Objects.{Objects, Told}
use Rattle.zot_outside.specs.declared.stores.store_error.StoreError.{StoreError}
use Rattle.zot_row.proofs.EndLemmas.{attach_gives, attach_keeps, refused_ends, stay_both}
use Rattle.zot_row.proofs.PartLemmas.{index_stands, put_others, quiet_others, quiet_stands}
use Rattle.zot_row.proofs.QuietLemmas.{may_end, memory_fits}
use Rattle.zot_row.proofs.ResumeLemmas.{given_resumes, named, ungiven_resumes}
use Rattle.zot_row.proofs.StartLemmas.{error_rose, error_stayed, refusal_cause, refusal_fits}
use Rattle.zot_row.specs.Doing.{ChecksManifest, Doing}
use Rattle.zot_row.specs.Going.{Resumes, ResumesQuietly}
use Rattle.zot_row.specs.Refusals.{pool_refusal, store_refusal}
use Rattle.zot_row.specs.Turns.{EndsPlainly, Takes, given}
use Rattle.zot_row.specs.declared.stage.Attaching.{Attaching}
use Rattle.zot_row.specs.declared.stage.Attaching.TheVariants as attaching
use Rattle.zot_row.specs.declared.stage.Stage.{Stage}
use Rattle.zot_row.specs.declared.stage.Stage.TheVariants as stages
use Rattle.zot_row.specs.declared.turn.Turn.TheVariants as turns
use Rattle.zot_table.proofs.SinceLemmas.{blob_since, manifest_agrees, manifest_since, settle_since, upload_since}
use Rattle.zot_table.proofs.StandingLemmas.{fill_agrees, settle_agrees, uploads_agree}
use Rattle.zot_table.specs.Changes.{settled, with_checked, with_entry, with_uploads}
use Rattle.zot_table.specs.Replies.{MayGive, made_reply, with_checked as plain_with_checked}
use Rattle.zot_table.specs.Repository.{IsOf}
use Rattle.zot_table.specs.Standing.{Agrees, AreEqual, Holds, Sets, repo_of}
use Rattle.zot_table.specs.Tables.{RepoTable, index_of}

module _ (moment : ℕ) (name : List ℕ) (table : RepoTable) (digest : List ℕ) (size : ℕ) (purpose : Attaching) where
  abbrev stage : Stage
  stage = stages.Attach digest size purpose

  -- the bytes aren't held
  pub attach_ungiven : (answered : PoolReply) → answered ≢ replies.Done → ResumesQuietly (stages.Attach digest size purpose) answered moment name table (turns.Done (pool_refusal answered)) (settled table digest)
  attach_ungiven answered isnt = ungiven_resumes stage answered moment name table (settled table digest) (record { known = refl; manifests = refl; tags = λ _. refl }) leaves where
    leaves : (start : RepoState) (call : Call) (asked : PoolCall) (holds behind : Holds) → Agrees table holds → Doing name (stages.Attach digest size purpose) start call moment asked table holds → Takes answered asked holds behind
        → AreEqual holds behind × (given answered asked behind ≡ None) × Agrees (settled table digest) holds × IsAmong (leavings moment start call) (repo_of (settled table digest) holds)
    leaves start call asked holds behind agrees doing takes = (
      attach_keeps answered name digest doing.bytes holds behind isnt (subst (λ a. Takes answered a holds behind) doing.asked_is takes),
      ap (λ a. given answered a behind) doing.asked_is ∙ attach_gives answered name digest doing.bytes behind,
      settle_agrees table holds digest agrees,
      inr (inl (settle_since table holds start doing.since digest)),
    )

  -- the repository isn't the one that the call waits for
  pub attach_unready : (table.known ≡ false) ⊎ (finite.contains_key table.slots digest ≡ false) → ResumesQuietly (stages.Attach digest size purpose) replies.Done moment name table (turns.Done no_memory) table
  attach_unready unready =
      given_resumes stage replies.Done moment name table table no_memory (λ h. cc h) (record { known = refl; manifests = refl; tags = λ _. refl }) (λ h. cc h) (λ call fits. memory_fits call (named stage call fits)) gives where
        never : (start : RepoState) (holds : Holds) → repo_of table holds ≡ made_known start → finite.contains_key table.slots digest ≡ true → (table.known ≡ false) ⊎ (finite.contains_key table.slots digest ≡ false) → ⊥
        never start holds since room (inl unknown) = true≢false (sym (ap (λ (r : RepoState). r.known) since) ∙ unknown)
        never start holds since room (inr none) = true≢false (sym room ∙ none)

        gives : (start : RepoState) (call : Call) (asked : PoolCall) (holds behind : Holds) → Agrees table holds → Doing name (stages.Attach digest size purpose) start call moment asked table holds → Takes replies.Done asked holds behind
            → (given replies.Done asked behind ≡ None) × Agrees table behind × MayGive moment start call no_memory (repo_of table behind)
        gives start call asked holds behind agrees doing takes = absurd (never start holds doing.since doing.room unready)

-- ---- blobs and uploads

-- the bytes are a blob
pub attached_blob : (moment : ℕ) (name : List ℕ) (table : RepoTable) (digest : List ℕ) (size : ℕ) → table.known ≡ true
    → ResumesQuietly (stages.Attach digest size attaching.Blob) replies.Done moment name table (turns.Done (BlobMade digest)) (with_entry moment table digest size)
attached_blob moment name table digest size known =
    given_resumes (stages.Attach digest size attaching.Blob) replies.Done moment name table (with_entry moment table digest size) (BlobMade digest) (λ h. cc h) (record { known = sym known; manifests = refl; tags = λ _. refl }) (λ h. cc h)
    (λ call fits. subst (λ (c : Call). FitsCall c (BlobMade digest)) (sym fits.is) (inl tt)) gives where
      gives : (start : RepoState) (call : Call) (asked : PoolCall) (holds behind : Holds) → Agrees table holds → Doing name (stages.Attach digest size attaching.Blob) start call moment asked table holds → Takes replies.Done asked holds behind
          → (given replies.Done asked behind ≡ None) × Agrees (with_entry moment table digest size) behind × MayGive moment start call (BlobMade digest) (repo_of (with_entry moment table digest size) behind)
      gives start call asked holds behind agrees doing takes =
          let sets : Sets holds digest (Some doing.bytes) behind = subst (λ a. Takes replies.Done a holds behind) doing.asked_is takes in (
            refl,
            fill_agrees moment table holds behind digest doing.bytes size agrees sets doing.long,
            subst (λ (r : RepoState). MayGive moment start call (BlobMade digest) r) (sym (blob_since table holds start doing.since behind moment digest doing.bytes size sets)) doing.ends,
          )

-- they were an upload's, which ends
pub attached_upload : (moment : ℕ) (name : List ℕ) (table : RepoTable) (digest : List ℕ) (size id : ℕ) → table.known ≡ true
    → ResumesQuietly (stages.Attach digest size (attaching.Upload id)) replies.Done moment name table (turns.Done (BlobMade digest)) (with_uploads (with_entry moment table digest size) (without table.sessions id))
attached_upload moment name table digest size id known =
    given_resumes (stages.Attach digest size (attaching.Upload id)) replies.Done moment name table (with_uploads (with_entry moment table digest size) (without table.sessions id)) (BlobMade digest) (λ h. cc h)
    (record { known = sym known; manifests = refl; tags = λ _. refl }) (λ h. cc h) (λ call fits. subst (λ (c : Call). FitsCall c (BlobMade digest)) (sym fits.is) (inl tt)) gives where
      gives : (start : RepoState) (call : Call) (asked : PoolCall) (holds behind : Holds) → Agrees table holds → Doing name (stages.Attach digest size (attaching.Upload id)) start call moment asked table holds → Takes replies.Done asked holds behind
          → (given replies.Done asked behind ≡ None) × Agrees (with_uploads (with_entry moment table digest size) (without table.sessions id)) behind
          × MayGive moment start call (BlobMade digest) (repo_of (with_uploads (with_entry moment table digest size) (without table.sessions id)) behind)
      gives start call asked holds behind agrees doing takes =
          let sets : Sets holds digest (Some doing.bytes) behind = subst (λ a. Takes replies.Done a holds behind) doing.asked_is takes in (
            refl,
            uploads_agree (with_entry moment table digest size) behind (without table.sessions id) (fill_agrees moment table holds behind digest doing.bytes size agrees sets doing.long),
            subst (λ (r : RepoState). MayGive moment start call (BlobMade digest) r) (sym (upload_since table holds start doing.since behind moment digest doing.bytes size sets id)) doing.ends,
          )

-- ---- manifests

module _ (moment : ℕ) (name : List ℕ) (table : RepoTable) (digest : List ℕ) (size : ℕ) (checked : Checked) (known : table.known ≡ true) where
  abbrev put_stage : Stage
  put_stage = stages.Attach digest size (attaching.Manifest checked)

  -- the bytes that were attached are its body, which is a blob
  body_left : (start : RepoState) (call : Call) (holds behind : Holds) (bytes : List ℕ) → repo_of table holds ≡ made_known start → Sets holds digest (Some bytes) behind → ChecksManifest checked digest bytes start call moment
      → IsAmong (leavings moment start call) (repo_of (with_entry moment table digest size) behind)
  body_left start call holds behind bytes since sets checks =
      subst (λ (c : Call). IsAmong (leavings moment start c) (repo_of (with_entry moment table digest size) behind)) (sym checks.call_is)
      (inr (inr (inl (blob_since table holds start since behind moment digest bytes size sets ∙ ap (λ d. with_blob moment start d bytes) (checks.digest_is ∙ checks.of.digest)))))

  -- what it was checked to be couldn't be kept
  pub left_behind : (objects : Option Objects) (before after : ℕ) (error : StoreError) → HasStoreCause {T = Unit {0}} before after (Err error)
      → Resumes (stages.Attach digest size (attaching.Manifest checked)) replies.Done moment name table objects before (turns.Done (store_refusal error)) (with_entry moment table digest size) objects after
  left_behind objects before after error cause = record {
    answer = λ start call asked holds behind failed fails agrees doing takes counts.
        let sets : Sets holds digest (Some doing.bytes) behind = subst (λ a. Takes replies.Done a holds behind) doing.asked_is takes in (
          fill_agrees moment table holds behind digest doing.bytes size agrees sets doing.long,
          subst (λ n. EndsPlainly moment start call (store_refusal error) (repo_of (with_entry moment table digest size) behind) (before + failed) (after + n)) (sym counts)
              (refused_ends error moment start (repo_of (with_entry moment table digest size) behind) call (store_refusal error) before after failed refl cause.later (error_rose before after error cause) (error_stayed before after error cause)
              (body_left start call holds behind doing.bytes doing.since sets doing.ends)),
        );
    stands = quiet_stands objects name table (with_entry moment table digest size) (record { known = sym known; manifests = refl; tags = λ _. refl });
    beside = quiet_others objects name table;
    faults = let part = refusal_cause before after error cause in record { failed = λ is. inl (part.failed is); kept = part.kept };
    fits = λ call fits. refusal_fits call error (named put_stage call fits);
    falls = tt;
  }

  pub manifest_refused : (objects later : Option Objects) (before after : ℕ) (error : StoreError) (reply : Reply) (new : RepoTable) → reply ≡ store_refusal error → new ≡ with_entry moment table digest size
      → HasStoreCause {T = Unit {0}} before after (Err error) → later ≡ objects → Resumes (stages.Attach digest size (attaching.Manifest checked)) replies.Done moment name table objects before (turns.Done reply) new later after
  manifest_refused objects later before after error reply new is same cause kept =
      subst (λ (r : Reply). Resumes put_stage replies.Done moment name table objects before (turns.Done r) new later after) (sym is)
      (subst (λ (t : RepoTable). Resumes put_stage replies.Done moment name table objects before (turns.Done (store_refusal error)) t later after) (sym same)
      (subst (λ o. Resumes put_stage replies.Done moment name table objects before (turns.Done (store_refusal error)) (with_entry moment table digest size) o after) (sym kept) (left_behind objects before after error cause)))

  -- it is kept, and the index says so
  abbrev with_all : RepoTable
  with_all = with_checked moment (with_entry moment table digest size) checked

  held_as : (d : List ℕ) (holds behind : Holds) (bytes : List ℕ) → d ≡ checked.digest → Agrees table holds → Sets holds d (Some bytes) behind → length bytes ≡ size → IsOf checked bytes → Agrees (with_checked moment (with_entry moment table d size) checked) behind
  held_as d holds behind bytes is agrees sets long of =
      subst (λ e. Agrees (with_checked moment (with_entry moment table e size) checked) behind) (sym is)
      (manifest_agrees moment table holds behind checked bytes size agrees (subst (λ e. Sets holds e (Some bytes) behind) is sets) long of)

  pub kept_all : (objects later : Option Objects) (before after : ℕ) → after ≡ before → Told objects later (λ a b. PutsIndex a name (as_written (index_of with_all)) b)
      → Resumes (stages.Attach digest size (attaching.Manifest checked)) replies.Done moment name table objects before (turns.Done (made_reply checked)) with_all later after
  kept_all objects later before after stay told = record {
    answer = λ start call asked holds behind failed fails agrees doing takes counts.
        let sets : Sets holds digest (Some doing.bytes) behind = subst (λ a. Takes replies.Done a holds behind) doing.asked_is takes in (
          held_as digest holds behind doing.bytes doing.ends.digest_is agrees sets doing.long doing.ends.of,
          may_end moment start (repo_of with_all behind) call (made_reply checked) (before + failed) (after + fails)
              (subst (λ (r : RepoState). MayGive moment start call (made_reply checked) r)
              (sym (manifest_since table holds start doing.since behind moment digest doing.bytes size sets checked ∙ ap (λ d. plain_with_checked moment (with_blob moment start d doing.bytes) checked) doing.ends.digest_is)) doing.ends.ends)
              (stay_both before after failed fails stay counts),
        );
    stands = index_stands objects later name table with_all (index_of with_all) known refl refl told;
    beside = put_others objects later name table (index_of with_all) told;
    faults = record { failed = λ is. cc is; kept = λ _. stay };
    fits = λ call fits. subst (λ (c : Call). FitsCall c (made_reply checked)) (sym fits.is) (inl tt);
    falls = tt;
  }

  pub manifest_made : (objects later : Option Objects) (before after : ℕ) (reply : Reply) (new : RepoTable) → reply ≡ made_reply checked → new ≡ with_checked moment (with_entry moment table digest size) checked → after ≡ before
      → Told objects later (λ a b. PutsIndex a name (as_written (index_of new)) b) → Resumes (stages.Attach digest size (attaching.Manifest checked)) replies.Done moment name table objects before (turns.Done reply) new later after
  manifest_made objects later before after reply new is same stay told =
      subst (λ (r : Reply). Resumes put_stage replies.Done moment name table objects before (turns.Done r) new later after) (sym is)
      (subst (λ (t : RepoTable). Resumes put_stage replies.Done moment name table objects before (turns.Done (made_reply checked)) t later after) (sym same)
      (kept_all objects later before after stay (subst (λ (t : RepoTable). Told objects later (λ a b. PutsIndex a name (as_written (index_of t)) b)) same told)))
