-- A blob that a POST takes over from another repository.
use Rattle.std.proofs.Common.{◌≡◌, ◌≢◌, ◌⊎◌, inl, inr, ℕ, ◌+◌, Bool, true, false, not, List, [], length, Option, Some, None, unwrap_or, refl, sym, ap, subst, ◌∙◌, arith}
use Rattle.std.specs.Prelude.{IsSomeAnd, if◌then◌else◌}
use Rattle.std.specs.FinMap as finite
use Rattle.std.proofs.lemmas.Bool.{true≢false}
use Rattle.zot_contents.specs.declared.pool_call.PoolCall.{PoolCall}
use Rattle.zot_contents.specs.declared.pool_call.PoolCall.TheVariants as pool
use Rattle.zot_contents.specs.declared.pool_reply.PoolReply.{PoolReply}
use Rattle.zot_contents.specs.declared.pool_reply.PoolReply.TheVariants as replies
use Rattle.zot_digest.specs.Digest.{IsSound}
use Rattle.zot_model.specs.Among.{IsAmong}
use Rattle.zot_model.specs.Fits.{FitsCall}
use Rattle.zot_model.specs.Mounts.{Asks}
use Rattle.zot_model.specs.Plain.{leavings}
use Rattle.zot_model.specs.PlainUploads.{with_sessions}
use Rattle.zot_model.specs.Refusals.{no_memory, refusal, storage_fault}
use Rattle.zot_model.specs.State.{RepoState, made_known}
use Rattle.zot_model.specs.Uploads.{UploadTable, is_full, with_new}
use Rattle.zot_model.specs.declared.call.Call.{Call}
use Rattle.zot_model.specs.declared.call.Call.TheVariants as calls
use Rattle.zot_model.specs.declared.code.Code.TheVariants.{DigestInvalid, TooManyRequests}
use Rattle.zot_model.specs.declared.mount.Mount.{Mount}
use Rattle.zot_model.specs.declared.reply.Reply.{Reply}
use Rattle.zot_model.specs.declared.reply.Reply.TheVariants.{BlobMade, Session}
use Rattle.zot_outside.specs.Objects.{Objects}
use Rattle.zot_row.proofs.EndLemmas.{in_want, mount_keeps, refused_ends, stay_both, unless_size}
use Rattle.zot_row.proofs.PartLemmas.{others_then, quiet_others, quiet_stands, stands_then}
use Rattle.zot_row.proofs.PostLemmas.{post_ends}
use Rattle.zot_row.proofs.QuietLemmas.{may_end, memory_fits}
use Rattle.zot_row.proofs.ResumeLemmas.{named, ungiven_resumes}
use Rattle.zot_row.proofs.StartLemmas.{error_rose, error_stayed, refusal_cause, refusal_fits}
use Rattle.zot_row.specs.Doing.{Doing, EndsWith}
use Rattle.zot_row.specs.Going.{AsksToAttach, AsksToTake, HasEitherCause, KeepsOthers, KeepsStanding, Opens, Resumes, ResumesQuietly, Starts, TakesBack}
use Rattle.zot_row.specs.Refusals.{pool_refusal}
use Rattle.zot_row.specs.Stages.{IsFor, IsRest, Mounts}
use Rattle.zot_row.specs.Turns.{Counts, Ends, EndsPlainly, IsGiven, Takes, given}
use Rattle.zot_row.specs.declared.stage.Attaching.TheVariants as attaching
use Rattle.zot_row.specs.declared.stage.Rest.{Rest}
use Rattle.zot_row.specs.declared.stage.Rest.TheVariants as rests
use Rattle.zot_row.specs.declared.stage.Stage.TheVariants as stages
use Rattle.zot_row.specs.declared.turn.Turn.{Turn}
use Rattle.zot_row.specs.declared.turn.Turn.TheVariants as turns
use Rattle.zot_table.proofs.ReplyLemmas.{begun, not_begun}
use Rattle.zot_table.proofs.SinceLemmas.{blob_since, forget_since, settle_since}
use Rattle.zot_table.proofs.StandingLemmas.{fill_agrees, know_agrees, know_is, reserve_agrees, reserve_has_room, reserve_is, same_agrees, same_is, settle_agrees, uploads_agree}
use Rattle.zot_table.proofs.ReplyLemmas.{post_unsound}
use Rattle.zot_table.specs.Changes.{known_as, reserved, settled, with_entry, with_uploads}
use Rattle.zot_table.specs.Replies.{MayGive}
use Rattle.zot_table.specs.Standing.{Agrees, AreEqual, Holds, repo_of}
use Rattle.zot_table.specs.Tables.{RepoTable}
use Rattle.zot_uploads.specs.declared.upload_error.UploadError.TheVariants as errors

-- ---- asking

abbrev mount_in : Call → Option Mount
mount_in (calls.Post mount digest body) = mount
mount_in _ = None

abbrev asked_for : List ℕ → Option Mount → PoolCall
asked_for name None = pool.Holdings
asked_for name (Some mount) = pool.Mount name (unwrap_or mount.from []) mount.digest

module _ (moment : ℕ) (name : List ℕ) (old : RepoTable) (digest from : List ℕ) (other : Option (List ℕ)) (body : List ℕ) (rest : Rest) (objects later : Option Objects) (before after : ℕ) (is_rest : IsRest rest other body) (stay : after ≡ before)
    (stands : KeepsStanding objects name old later (known_as true old)) (beside : KeepsOthers objects name old later) where
  abbrev post_call : Call
  post_call = calls.Post (Some (record { digest = digest; from = Some from })) other body

  -- memory ran out
  mount_want : Starts (calls.Post (Some (record { digest = digest; from = Some from })) other body) moment name old objects before (turns.Done no_memory) (known_as true old) later after
  mount_want = record {
    answer = λ holds failed agrees. (
      know_agrees old holds true agrees,
      in_want moment (repo_of old holds) (repo_of (known_as true old) holds) post_call no_memory (before + failed) (after + failed) refl (inr (inl (know_is old holds))) (ap (λ n. n + failed) stay),
    );
    stands = stands;
    beside = beside;
    faults = record { failed = λ h. cc h; kept = λ _. stay };
    fits = memory_fits post_call (λ e. cc e);
    mount = λ _ _ _. inl refl;
  }

  -- what the post_call wants is what the pool is asked for
  asks_this : (wanted source : List ℕ) → Asks (calls.Post (Some (record { digest = digest; from = Some from })) other body) wanted source → pool.Mount name from digest ≡ pool.Mount name source wanted
  asks_this wanted source asks = ap (λ (c : Call). asked_for name (mount_in c)) asks.is

  mount_asks : Starts (calls.Post (Some (record { digest = digest; from = Some from })) other body) moment name old objects before (turns.Asks (pool.Mount name from digest) (stages.Mount digest (not old.known) rest)) (reserved (known_as true old) digest) later after
  mount_asks = record {
    answer = λ holds failed agrees. (
      reserve_agrees (known_as true old) holds digest (know_agrees old holds true agrees),
      record {
        from = from;
        mounts = record { other = other; body = body; is = refl; rest_is = is_rest };
        asked_is = refl;
        since = reserve_is (known_as true old) holds digest ∙ know_is old holds;
        room = reserve_has_room (known_as true old) digest;
        made_is = refl;
      },
      ap (λ n. n + failed) stay,
      refl,
    );
    stands = stands_then objects later later name old (known_as true old) (reserved (known_as true old) digest) stands
        (quiet_stands later name (known_as true old) (reserved (known_as true old) digest) (record { known = refl; manifests = refl; tags = λ _. refl }));
    beside = beside;
    faults = stay;
    fits = (from, record { other = other; body = body; is = refl; rest_is = is_rest });
    mount = asks_this;
  }

  pub mount_starts : (mid new : RepoTable) (made : Bool) (result : Turn) → mid ≡ known_as true old → made ≡ not old.known → AsksToTake result name from digest made rest mid new
      → Starts (calls.Post (Some (record { digest = digest; from = Some from })) other body) moment name old objects before result new later after
  mount_starts mid new made result is made_is (inl h) =
      subst (λ (t : RepoTable). Starts post_call moment name old objects before result t later after) (sym (h.1 ∙ ap (λ (t : RepoTable). reserved t digest) is))
      (subst (λ (r : Turn). Starts post_call moment name old objects before r (reserved (known_as true old) digest) later after) (sym (h.0 ∙ ap (λ b. turns.Asks (pool.Mount name from digest) (stages.Mount digest b rest)) made_is)) mount_asks)
  mount_starts mid new made result is made_is (inr h) =
      subst (λ (t : RepoTable). Starts post_call moment name old objects before result t later after) (sym (h.1 ∙ is))
      (subst (λ (r : Turn). Starts post_call moment name old objects before r (known_as true old) later after) (sym h.0) mount_want)

-- ---- what it was given

-- the blob is the repository's own
pub mount_given : (moment : ℕ) (name : List ℕ) (table : RepoTable) (digest : List ℕ) (made : Bool) (rest : Rest) (size : ℕ) → table.known ≡ true
    → ResumesQuietly (stages.Mount digest made rest) (replies.Size size) moment name table (turns.Done (BlobMade digest)) (with_entry moment table digest size)
mount_given moment name table digest made rest size known objects faults = record {
  answer = answers;
  stands = quiet_stands objects name table (with_entry moment table digest size) (record { known = sym known; manifests = refl; tags = λ _. refl });
  beside = quiet_others objects name table;
  faults = record { failed = λ h. cc h; kept = λ _. refl };
  fits = λ call fits. subst (λ (c : Call). FitsCall c (BlobMade digest)) (sym fits.1.is) (made_fits fits.0 fits.1.other fits.1.body);
  falls = tt;
} where
  made_fits : (from : List ℕ) (other : Option (List ℕ)) (body : List ℕ) → FitsCall (calls.Post (Some (record { digest = digest; from = Some from })) other body) (BlobMade digest)
  made_fits from None body = inl refl
  made_fits from (Some d) body = inl tt

  answers : (start : RepoState) (call : Call) (asked : PoolCall) (holds behind : Holds) (failed fails : ℕ) → Agrees table holds → Doing name (stages.Mount digest made rest) start call moment asked table holds → Takes (replies.Size size) asked holds behind
      → Counts (replies.Size size) failed fails
      → Agrees (with_entry moment table digest size) behind × Ends (given (replies.Size size) asked behind) moment start call (BlobMade digest) (repo_of (with_entry moment table digest size) behind) (faults + failed) (faults + fails)
  answers start call asked holds behind failed fails agrees doing takes counts =
      let got : IsGiven digest size holds behind = subst (λ a. Takes (replies.Size size) a holds behind) doing.asked_is takes in
      let is : given (replies.Size size) asked behind ≡ Some got.bytes = ap (λ a. given (replies.Size size) a behind) doing.asked_is ∙ got.sets.here in (
        fill_agrees moment table holds behind digest got.bytes size agrees got.sets (sym got.long),
        subst (λ found. Ends found moment start call (BlobMade digest) (repo_of (with_entry moment table digest size) behind) (faults + failed) (faults + fails)) (sym is) (
          record {
            digest = digest;
            from = doing.from;
            asks = record { other = doing.mounts.other; body = doing.mounts.body; is = doing.mounts.is };
            sound = got.sound;
            reply_is = refl;
            repo_is = blob_since table holds start doing.since behind moment digest got.bytes size got.sets;
          },
          ap (λ n. faults + n) counts,
        ),
      )

-- what is so where the other repository holds nothing: room that wasn't taken has gone
pub record Without (table : RepoTable) (digest : List ℕ) (made : Bool) (rest : Rest) (start : RepoState) (call : Call) (behind : Holds) : Type 0 where
  pub agrees : Agrees (settled table digest) behind
  pub since : repo_of (settled table digest) behind ≡ made_known start
  pub made_is : made ≡ not start.known
  pub from : List ℕ
  pub mounts : Mounts digest from rest call

module _ (moment : ℕ) (name : List ℕ) (table : RepoTable) (digest : List ℕ) (made : Bool) (rest : Rest) where
  -- the repository isn't the one that the call waits for
  pub mount_unready : (size : ℕ) → (table.known ≡ false) ⊎ (finite.contains_key table.slots digest ≡ false) → ResumesQuietly (stages.Mount digest made rest) (replies.Size size) moment name table (turns.Done no_memory) table
  mount_unready size unready objects faults = record {
    answer = λ start call asked holds behind failed fails agrees doing takes counts. absurd (never start holds doing.since doing.room unready);
    stands = quiet_stands objects name table table (record { known = refl; manifests = refl; tags = λ _. refl });
    beside = quiet_others objects name table;
    faults = record { failed = λ h. cc h; kept = λ _. refl };
    fits = λ call fits. memory_fits call (named (stages.Mount digest made rest) call fits);
    falls = tt;
  } where
    never : (start : RepoState) (holds : Holds) → repo_of table holds ≡ made_known start → finite.contains_key table.slots digest ≡ true → (table.known ≡ false) ⊎ (finite.contains_key table.slots digest ≡ false) → ⊥
    never start holds since room (inl unknown) = true≢false (sym (ap (λ (r : RepoState). r.known) since) ∙ unknown)
    never start holds since room (inr none) = true≢false (sym room ∙ none)

  -- the pool has given nothing
  pub mount_ungiven : (answered : PoolReply) → ((size : ℕ) → answered ≢ replies.Size size) → ResumesQuietly (stages.Mount digest made rest) answered moment name table (turns.Done (pool_refusal answered)) (settled table digest)
  mount_ungiven answered isnt =
      ungiven_resumes (stages.Mount digest made rest) answered moment name table (settled table digest) (record { known = refl; manifests = refl; tags = λ _. refl }) leaves where
        leaves : (start : RepoState) (call : Call) (asked : PoolCall) (holds behind : Holds) → Agrees table holds → Doing name (stages.Mount digest made rest) start call moment asked table holds → Takes answered asked holds behind
            → AreEqual holds behind × (given answered asked behind ≡ None) × Agrees (settled table digest) holds × IsAmong (leavings moment start call) (repo_of (settled table digest) holds)
        leaves start call asked holds behind agrees doing takes = (
          mount_keeps answered name doing.from digest holds behind isnt (subst (λ a. Takes answered a holds behind) doing.asked_is takes),
          unless_size answered asked behind isnt,
          settle_agrees table holds digest agrees,
          inr (inl (settle_since table holds start doing.since digest)),
        )

  -- ---- without the mount

  without : (start : RepoState) (call : Call) (asked : PoolCall) (holds behind : Holds) → Agrees table holds → Doing name (stages.Mount digest made rest) start call moment asked table holds → Takes replies.Nothing asked holds behind → Without table digest made rest start call behind
  without start call asked holds behind agrees doing takes =
      let same : AreEqual holds behind = mount_keeps replies.Nothing name doing.from digest holds behind (λ size h. cc h) (subst (λ a. Takes replies.Nothing a holds behind) doing.asked_is takes) in record {
        agrees = same_agrees (settled table digest) holds behind same (settle_agrees table holds digest agrees);
        since = same_is (settled table digest) holds behind same ∙ settle_since table holds start doing.since digest;
        made_is = doing.made_is;
        from = doing.from;
        mounts = doing.mounts;
      }

  -- the repository as it was before the call
  back : (start : RepoState) (behind : Holds) (b : Bool) → made ≡ b → repo_of (settled table digest) behind ≡ made_known start → made ≡ not start.known → repo_of (if b then known_as false (settled table digest) else settled table digest) behind ≡ start
  back start behind b is since made_is = split b start.known refl (sym is ∙ made_is) where
    split : (b k : Bool) → start.known ≡ k → b ≡ not k → repo_of (if b then known_as false (settled table digest) else settled table digest) behind ≡ start
    split true true known h = cc h
    split true false known h = ap (λ k. repo_of (known_as k (settled table digest)) behind) (sym known) ∙ forget_since (settled table digest) behind start since
    split false true known h = since ∙ ap (λ k. record { known = k; blobs = start.blobs; manifests = start.manifests; tags = start.tags; sessions = start.sessions }) (sym known)
    split false false known h = cc h

  back_agrees : (b : Bool) (behind : Holds) → Agrees (settled table digest) behind → Agrees (if b then known_as false (settled table digest) else settled table digest) behind
  back_agrees true behind agrees = know_agrees (settled table digest) behind false agrees
  back_agrees false behind agrees = agrees

  -- what the part stands for is the same with the room that went
  settled_stands : (objects later : Option Objects) (new : RepoTable) → KeepsStanding objects name (settled table digest) later new → KeepsStanding objects name table later new
  settled_stands objects later new stands =
      stands_then objects objects later name table (settled table digest) new (quiet_stands objects name table (settled table digest) (record { known = refl; manifests = refl; tags = λ _. refl })) stands

  settled_others : (objects later : Option Objects) → KeepsOthers objects name (settled table digest) later → KeepsOthers objects name table later
  settled_others objects later beside =
      others_then objects objects later name table (settled table digest) (quiet_stands objects name table (settled table digest) (record { known = refl; manifests = refl; tags = λ _. refl })) (quiet_others objects name table) beside

  -- memory ran out behind it
  pub without_want : ResumesQuietly (stages.Mount digest made rest) replies.Nothing moment name table (turns.Done no_memory) (settled table digest)
  without_want objects faults = record {
    answer = λ start call asked holds behind failed fails agrees doing takes counts.
        let w = without start call asked holds behind agrees doing takes in (
          w.agrees,
          in_want moment start (repo_of (settled table digest) behind) call no_memory (faults + failed) (faults + fails) refl (inr (inl w.since)) (ap (λ n. faults + n) counts),
        );
    stands = quiet_stands objects name table (settled table digest) (record { known = refl; manifests = refl; tags = λ _. refl });
    beside = quiet_others objects name table;
    faults = record { failed = λ h. cc h; kept = λ _. refl };
    fits = λ call fits. memory_fits call (named (stages.Mount digest made rest) call fits);
    falls = tt;
  }

  -- the POST is refused, and the repository forgotten again
  pub mount_back : (objects later : Option Objects) (before after : ℕ) (reply result : Reply) (new : RepoTable) → TakesBack made reply (settled table digest) before result new after → KeepsStanding objects name (settled table digest) later new
      → KeepsOthers objects name (settled table digest) later → reply ≢ storage_fault → ((call : Call) → IsFor (stages.Mount digest made rest) call → FitsCall call reply)
      → ((start : RepoState) (call : Call) (behind : Holds) → Without table digest made rest start call behind → MayGive moment start call reply start)
      → Resumes (stages.Mount digest made rest) replies.Nothing moment name table objects before (turns.Done result) new later after
  mount_back objects later before after reply result new (inl h) stands beside calm fits gives = record {
    answer = λ start call asked holds behind failed fails agrees doing takes counts.
        let w = without start call asked holds behind agrees doing takes in (
          subst (λ (t : RepoTable). Agrees t behind) (sym h.1) (back_agrees made behind w.agrees),
          may_end moment start (repo_of new behind) call result (before + failed) (after + fails)
              (subst (λ (r : Reply). MayGive moment start call r (repo_of new behind)) (sym h.0)
              (subst (λ (r : RepoState). MayGive moment start call reply r) (sym (ap (λ (t : RepoTable). repo_of t behind) h.1 ∙ back start behind made refl w.since w.made_is)) (gives start call behind w)))
              (stay_both before after failed fails h.2 counts),
        );
    stands = settled_stands objects later new stands;
    beside = settled_others objects later beside;
    faults = record { failed = λ is. absurd (calm (sym h.0 ∙ is)); kept = λ _. h.2 };
    fits = λ call which. subst (λ (r : Reply). FitsCall call r) (sym h.0) (fits call which);
    falls = tt;
  }
  mount_back objects later before after reply result new (inr h) stands beside calm fits gives = record {
    answer = λ start call asked holds behind failed fails agrees doing takes counts.
        let w = without start call asked holds behind agrees doing takes in (
          subst (λ (t : RepoTable). Agrees t behind) (sym h.2) w.agrees,
          subst (λ n. EndsPlainly moment start call result (repo_of new behind) (before + failed) (after + n)) (sym counts)
              (refused_ends h.0 moment start (repo_of new behind) call result before after failed h.1 h.3.later (error_rose before after h.0 h.3) (error_stayed before after h.0 h.3)
              (inr (inl (ap (λ (t : RepoTable). repo_of t behind) h.2 ∙ w.since)))),
        );
    stands = settled_stands objects later new stands;
    beside = settled_others objects later beside;
    faults = subst (λ (r : Reply). HasEitherCause replies.Nothing r before after) (sym h.1) (let part = refusal_cause before after h.0 h.3 in record { failed = λ is. inl (part.failed is); kept = part.kept });
    fits = λ call which. subst (λ (r : Reply). FitsCall call r) (sym h.1) (refusal_fits call h.0 (named (stages.Mount digest made rest) call which));
    falls = tt;
  }

-- ---- what it is without the mount

module _ (moment : ℕ) (name : List ℕ) (table : RepoTable) (digest : List ℕ) (made : Bool) where
  -- a blob that is given whole
  pub mount_blob : (d body : List ℕ) (new : RepoTable) (result : Turn) → AsksToAttach result name d body attaching.Blob (settled table digest) new
      → ResumesQuietly (stages.Mount digest made (rests.Blob d body)) replies.Nothing moment name table result new
  mount_blob d body new result (inr h) objects faults =
      subst (λ (t : RepoTable). Resumes (stages.Mount digest made (rests.Blob d body)) replies.Nothing moment name table objects faults result t objects faults) (sym h.1)
      (subst (λ (r : Turn). Resumes (stages.Mount digest made (rests.Blob d body)) replies.Nothing moment name table objects faults r (settled table digest) objects faults) (sym h.0)
      (without_want moment name table digest made (rests.Blob d body) objects faults))
  mount_blob d body new result (inl h) objects faults =
      subst (λ (t : RepoTable). Resumes (stages.Mount digest made (rests.Blob d body)) replies.Nothing moment name table objects faults result t objects faults) (sym h.1)
      (subst (λ (r : Turn). Resumes (stages.Mount digest made (rests.Blob d body)) replies.Nothing moment name table objects faults r (reserved (settled table digest) d) objects faults) (sym h.0) asks) where
        -- the POST is of that blob
        as_post : (from : List ℕ) (call : Call) (mounts : Mounts digest from (rests.Blob d body) call) → call ≡ calls.Post (Some (record { digest = digest; from = Some from })) (Some d) body
        as_post from call mounts =
            mounts.is ∙ ap (λ o. calls.Post (Some (record { digest = digest; from = Some from })) o mounts.body) mounts.rest_is.0 ∙ ap (λ b. calls.Post (Some (record { digest = digest; from = Some from })) (Some d) b) (sym mounts.rest_is.1)

        ends : (start : RepoState) (from : List ℕ) (call : Call) (mounts : Mounts digest from (rests.Blob d body) call) → EndsWith attaching.Blob d body start call moment
        ends start from call mounts =
            subst (λ (c : Call). EndsWith attaching.Blob d body start c moment) (sym (as_post from call mounts))
            (post_ends moment start (Some (record { digest = digest; from = Some from })) d body (subst (λ b. IsSound d b) (sym mounts.rest_is.1) mounts.rest_is.2))

        asks : Resumes (stages.Mount digest made (rests.Blob d body)) replies.Nothing moment name table objects faults (turns.Asks (pool.Attach name d body) (stages.Attach d (length body) attaching.Blob)) (reserved (settled table digest) d) objects faults
        asks = record {
          answer = λ start call asked holds behind failed fails agrees doing takes counts.
              let w = without moment name table digest made (rests.Blob d body) start call asked holds behind agrees doing takes in (
                reserve_agrees (settled table digest) behind d w.agrees,
                record {
                  bytes = body;
                  asked_is = refl;
                  long = refl;
                  since = reserve_is (settled table digest) behind d ∙ w.since;
                  room = reserve_has_room (settled table digest) d;
                  ends = ends start w.from call w.mounts;
                },
                ap (λ n. faults + n) counts,
                refl,
              );
          stands = quiet_stands objects name table (reserved (settled table digest) d) (record { known = refl; manifests = refl; tags = λ _. refl });
          beside = quiet_others objects name table;
          faults = refl;
          fits = λ call which. record { mount = Some (record { digest = digest; from = Some which.0 }); body = body; is = as_post which.0 call which.1 };
          falls = omega arith;
        }

  -- a blob that has another digest
  refuses_unsound : (start : RepoState) (mount : Option Mount) (other : Option (List ℕ)) (body : List ℕ) → IsSomeAnd other (λ d. ¬ IsSound d body) → MayGive moment start (calls.Post mount other body) (refusal DigestInvalid) start
  refuses_unsound start mount None body h = absurd h
  refuses_unsound start mount (Some d) body h = post_unsound moment start mount d body (refusal DigestInvalid) h refl

  fits_unsound : (mount : Option Mount) (other : Option (List ℕ)) (body : List ℕ) → IsSomeAnd other (λ d. ¬ IsSound d body) → FitsCall (calls.Post mount other body) (refusal DigestInvalid)
  fits_unsound mount None body h = absurd h
  fits_unsound mount (Some d) body h = inr (inl refl, refl, tt)

  pub mount_unsound : (objects later : Option Objects) (before after : ℕ) (result : Reply) (new : RepoTable) → TakesBack made (refusal DigestInvalid) (settled table digest) before result new after
      → KeepsStanding objects name (settled table digest) later new → KeepsOthers objects name (settled table digest) later
      → Resumes (stages.Mount digest made rests.Unsound) replies.Nothing moment name table objects before (turns.Done result) new later after
  mount_unsound objects later before after result new takes stands beside =
      mount_back moment name table digest made rests.Unsound objects later before after (refusal DigestInvalid) result new takes stands beside (λ h. cc h)
      (λ call which. subst (λ (c : Call). FitsCall c (refusal DigestInvalid)) (sym which.1.is) (fits_unsound (Some (record { digest = digest; from = Some which.0 })) which.1.other which.1.body which.1.rest_is))
      (λ start call behind w. subst (λ (c : Call). MayGive moment start c (refusal DigestInvalid) start) (sym w.mounts.is)
      (refuses_unsound start (Some (record { digest = digest; from = Some w.from })) w.mounts.other w.mounts.body w.mounts.rest_is))

  -- a new upload
  as_begin : (from : List ℕ) (call : Call) (mounts : Mounts digest from rests.Upload call) → call ≡ calls.Post (Some (record { digest = digest; from = Some from })) None mounts.body
  as_begin from call mounts = mounts.is ∙ ap (λ o. calls.Post (Some (record { digest = digest; from = Some from })) o mounts.body) mounts.rest_is

  pub mount_full : (objects later : Option Objects) (before after : ℕ) (result : Reply) (new : RepoTable) → is_full (settled table digest).sessions ≡ true → TakesBack made (refusal TooManyRequests) (settled table digest) before result new after
      → KeepsStanding objects name (settled table digest) later new → KeepsOthers objects name (settled table digest) later
      → Resumes (stages.Mount digest made rests.Upload) replies.Nothing moment name table objects before (turns.Done result) new later after
  mount_full objects later before after result new full takes stands beside =
      mount_back moment name table digest made rests.Upload objects later before after (refusal TooManyRequests) result new takes stands beside (λ h. cc h)
      (λ call which. subst (λ (c : Call). FitsCall c (refusal TooManyRequests)) (sym (as_begin which.0 call which.1)) (inr (inl refl, refl, tt)))
      (λ start call behind w. subst (λ (c : Call). MayGive moment start c (refusal TooManyRequests) start) (sym (as_begin w.from call w.mounts))
      (not_begun moment start start (Some (record { digest = digest; from = Some w.from })) w.mounts.body errors.Full (refusal TooManyRequests)
      (ap (λ (r : RepoState). is_full r.sessions) (sym w.since) ∙ full) refl refl))

  pub mount_opens : (reply : Reply) (new : RepoTable) → Opens moment (settled table digest) reply new → ResumesQuietly (stages.Mount digest made rests.Upload) replies.Nothing moment name table (turns.Done reply) new
  mount_opens reply new (inr h) objects faults =
      subst (λ (t : RepoTable). Resumes (stages.Mount digest made rests.Upload) replies.Nothing moment name table objects faults (turns.Done reply) t objects faults) (sym h.1)
      (subst (λ (r : Reply). Resumes (stages.Mount digest made rests.Upload) replies.Nothing moment name table objects faults (turns.Done r) (settled table digest) objects faults) (sym h.0)
      (without_want moment name table digest made rests.Upload objects faults))
  mount_opens reply new (inl h) objects faults =
      subst (λ (t : RepoTable). Resumes (stages.Mount digest made rests.Upload) replies.Nothing moment name table objects faults (turns.Done reply) t objects faults) (sym h.2)
      (subst (λ (r : Reply). Resumes (stages.Mount digest made rests.Upload) replies.Nothing moment name table objects faults (turns.Done r) (with_uploads (settled table digest) (with_new moment table.sessions)) objects faults) (sym h.1) opened) where
        opened : Resumes (stages.Mount digest made rests.Upload) replies.Nothing moment name table objects faults (turns.Done (Session (table.sessions.opened + 1) 0 202)) (with_uploads (settled table digest) (with_new moment table.sessions)) objects faults
        opened = record {
          answer = λ start call asked holds behind failed fails agrees doing takes counts.
              let w = without moment name table digest made rests.Upload start call asked holds behind agrees doing takes in
              let sessions : table.sessions ≡ start.sessions = ap (λ (r : RepoState). r.sessions) w.since in (
                uploads_agree (settled table digest) behind (with_new moment table.sessions) w.agrees,
                may_end moment start (repo_of (with_uploads (settled table digest) (with_new moment table.sessions)) behind) call (Session (table.sessions.opened + 1) 0 202) (faults + failed) (faults + fails)
                    (subst (λ (c : Call). MayGive moment start c (Session (table.sessions.opened + 1) 0 202) (repo_of (with_uploads (settled table digest) (with_new moment table.sessions)) behind)) (sym (as_begin w.from call w.mounts))
                    (begun moment start (repo_of (with_uploads (settled table digest) (with_new moment table.sessions)) behind) (Some (record { digest = digest; from = Some w.from })) w.mounts.body (Session (table.sessions.opened + 1) 0 202)
                    (ap (λ (u : UploadTable). is_full u) (sym sessions) ∙ h.0) (ap (λ (u : UploadTable). Session (u.opened + 1) 0 202) sessions)
                    (ap (λ (r : RepoState). with_sessions r (with_new moment r.sessions)) w.since)))
                    (ap (λ n. faults + n) counts),
              );
          stands = quiet_stands objects name table (with_uploads (settled table digest) (with_new moment table.sessions)) (record { known = refl; manifests = refl; tags = λ _. refl });
          beside = quiet_others objects name table;
          faults = record { failed = λ is. cc is; kept = λ _. refl };
          fits = λ call which. subst (λ (c : Call). FitsCall c (Session (table.sessions.opened + 1) 0 202)) (sym (as_begin which.0 call which.1)) (inl refl);
          falls = tt;
        }
