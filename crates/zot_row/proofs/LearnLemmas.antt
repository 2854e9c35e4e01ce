-- Manifests that are read before a call goes on.
use Rattle.std.proofs.Common.{◌≡◌, ◌≢◌, ◌⊎◌, ◌≤◌, inl, inr, ℕ, ◌+◌, Bool, true, false, List, [], ◌∷◌, ◌++◌, length, Option, Some, None, is_some, refl, sym, ap, subst, ◌∙◌, arith}
use Rattle.std.specs.List.{Contains}
use Rattle.std.proofs.Common.{Global, Vec}
use Rattle.std.proofs.lemmas.List.{length_push}
use Rattle.std.proofs.lemmas.List.Elements.{Contains-append_right, Contains-push_cases}
use Rattle.zot_contents.specs.declared.pool_call.PoolCall.{PoolCall}
use Rattle.zot_contents.specs.declared.pool_call.PoolCall.TheVariants as pool
use Rattle.zot_contents.specs.declared.pool_reply.PoolReply.{PoolReply}
use Rattle.zot_contents.specs.declared.pool_reply.PoolReply.TheVariants as replies
use Rattle.zot_media.specs.Referrers.{referrers_text}
use Rattle.zot_model.specs.Among.{IsAmong}
use Rattle.zot_model.specs.Fits.{FitsCall}
use Rattle.zot_model.specs.Plain.{leavings}
use Rattle.zot_model.specs.Refusals.{no_memory, not_allowed, refusal}
use Rattle.zot_model.specs.State.{RepoState}
use Rattle.zot_model.specs.declared.call.Call.{Call}
use Rattle.zot_model.specs.declared.call.Call.TheVariants as calls
use Rattle.zot_model.specs.declared.code.Code.TheVariants.{BlobUnknown}
use Rattle.zot_model.specs.declared.methods.Methods.TheVariants as methods
use Rattle.zot_model.specs.declared.reply.Reply.{Reply}
use Rattle.zot_model.specs.declared.reply.Reply.TheVariants.{Deleted, Referrers}
use Rattle.zot_referrers.specs.Listing.{all_pushed}
use Rattle.zot_row.proofs.EndLemmas.{detach_gives, detach_keeps, read_gives, read_keeps}
use Rattle.zot_row.proofs.PartLemmas.{alike_tables, quiet_others, quiet_stands}
use Rattle.zot_row.proofs.QuietLemmas.{memory_fits, quiet_asks, quiet_done, quiet_want}
use Rattle.zot_row.proofs.ResumeLemmas.{given_resumes, ungiven_resumes}
use Rattle.zot_row.specs.Doing.{Doing, HasUnread}
use Rattle.zot_row.specs.Going.{Falls, FitsTurn, Goes, GoesOnReading, HasNextCause, IsBelow, IsCalm, Quietly, ResumesQuietly}
use Rattle.zot_row.specs.Refusals.{pool_refusal}
use Rattle.zot_row.specs.Stages.{Learns}
use Rattle.zot_row.specs.Turns.{Takes, given}
use Rattle.zot_row.specs.declared.stage.Learning.{Learning}
use Rattle.zot_row.specs.declared.stage.Learning.TheVariants as learning
use Rattle.zot_row.specs.declared.stage.Stage.TheVariants as stages
use Rattle.zot_row.specs.declared.turn.Turn.{Turn}
use Rattle.zot_row.specs.declared.turn.Turn.TheVariants as turns
use Rattle.zot_table.proofs.ReadingLemmas.{learned_left, none_left, unread_left}
use Rattle.zot_table.proofs.StandingLemmas.{learn_agrees, learn_is, same_agrees, same_is}
use Rattle.zot_table.proofs.StepLemmas.{delete_made, delete_needed, delete_none, referrers_made}
use Rattle.zot_table.specs.Changes.{learned, without_entry}
use Rattle.zot_table.specs.Replies.{MayGive}
use Rattle.zot_table.specs.Standing.{Agrees, AllRead, AreEqual, Holds, Sets, repo_of}
use Rattle.zot_table.specs.Tables.{RepoTable, is_needed_in, size_at, unread_in}

-- ---- a DELETE of a blob, where all manifests are read

some_size : (table : RepoTable) (digest : List ℕ) (found : Option ℕ) → size_at table.slots digest ≡ found → is_some found ≡ true → (size : ℕ) × (size_at table.slots digest ≡ Some size)
some_size table digest None is h = cc h
some_size table digest (Some size) is h = (size, is)

module _ (moment : ℕ) (name : List ℕ) (table : RepoTable) (digest : List ℕ) where
  pub delete_unknown : size_at table.slots digest ≡ None → Quietly (calls.DeleteBlob digest) moment name table (turns.Done (refusal BlobUnknown)) table
  delete_unknown none =
      quiet_done (calls.DeleteBlob digest) moment name table (refusal BlobUnknown) (λ holds agrees. delete_none moment table holds agrees digest (refusal BlobUnknown) none refl) (inr (inl refl, refl, tt)) (λ h. cc h)

  pub delete_refused : (size : ℕ) → AllRead table → size_at table.slots digest ≡ Some size → is_needed_in table digest ≡ true → Quietly (calls.DeleteBlob digest) moment name table (turns.Done (not_allowed methods.Read)) table
  delete_refused size all has needs =
      quiet_done (calls.DeleteBlob digest) moment name table (not_allowed methods.Read) (λ holds agrees. delete_needed moment table holds agrees digest (not_allowed methods.Read) size all has needs refl)
      (inr (inr (inl refl), refl, refl)) (λ h. cc h)

  pub delete_asks : (size : ℕ) → AllRead table → size_at table.slots digest ≡ Some size → is_needed_in table digest ≡ false
      → Quietly (calls.DeleteBlob digest) moment name table (turns.Asks (pool.Detach name digest) (stages.Detach digest)) table
  delete_asks size all has free =
      quiet_asks (calls.DeleteBlob digest) moment name table (pool.Detach name digest) (stages.Detach digest) refl
      (λ holds agrees. record { call_is = refl; asked_is = refl; same = refl; there = ap is_some has; all = all; free = free })

  -- the pool holds it still
  pub detach_ungiven : (answered : PoolReply) → ((was : Bool) → answered ≢ replies.Removed was) → ResumesQuietly (stages.Detach digest) answered moment name table (turns.Done (pool_refusal answered)) table
  detach_ungiven answered isnt = ungiven_resumes (stages.Detach digest) answered moment name table table (record { known = refl; manifests = refl; tags = λ _. refl }) leaves where
    leaves : (start : RepoState) (call : Call) (asked : PoolCall) (holds behind : Holds) → Agrees table holds → Doing name (stages.Detach digest) start call moment asked table holds → Takes answered asked holds behind
        → AreEqual holds behind × (given answered asked behind ≡ None) × Agrees table holds × IsAmong (leavings moment start call) (repo_of table holds)
    leaves start call asked holds behind agrees doing takes = (
      detach_keeps answered name digest holds behind isnt (subst (λ a. Takes answered a holds behind) doing.asked_is takes),
      ap (λ a. given answered a behind) doing.asked_is ∙ detach_gives answered name digest behind,
      agrees,
      inl doing.same,
    )

  -- it holds it no more
  pub detach_given : (was : Bool) → ResumesQuietly (stages.Detach digest) (replies.Removed was) moment name table (turns.Done Deleted) (without_entry table digest)
  detach_given was =
      given_resumes (stages.Detach digest) (replies.Removed was) moment name table (without_entry table digest) Deleted (λ h. cc h) (record { known = refl; manifests = refl; tags = λ _. refl }) (λ h. cc h)
      (λ call fits. subst (λ (c : Call). FitsCall c Deleted) (sym fits) (inl tt)) gives where
        gives : (start : RepoState) (call : Call) (asked : PoolCall) (holds behind : Holds) → Agrees table holds → Doing name (stages.Detach digest) start call moment asked table holds → Takes (replies.Removed was) asked holds behind
            → (given (replies.Removed was) asked behind ≡ None) × Agrees (without_entry table digest) behind × MayGive moment start call Deleted (repo_of (without_entry table digest) behind)
        gives start call asked holds behind agrees doing takes =
            let size = some_size table digest (size_at table.slots digest) refl doing.there in
            let taken : (was ≡ is_some (holds digest)) × Sets holds digest None behind = subst (λ a. Takes (replies.Removed was) a holds behind) doing.asked_is takes in
            let made = delete_made moment table holds agrees digest Deleted behind size.0 doing.all size.1 doing.free taken.1 refl in (
              refl,
              made.1,
              subst (λ (c : Call). MayGive moment start c Deleted (repo_of (without_entry table digest) behind)) (sym doing.call_is)
                  (subst (λ (r : RepoState). MayGive moment r (calls.DeleteBlob digest) Deleted (repo_of (without_entry table digest) behind)) doing.same made.0),
            )

-- ---- a list of referrers, where all manifests are read

pub list_quiet : (moment : ℕ) (name : List ℕ) (table : RepoTable) (digest : List ℕ) (filter : Option (List ℕ)) (reply : Reply) → AllRead table
    → reply ≡ Referrers (referrers_text (all_pushed (size_at table.slots) table.table.manifests) digest filter) (is_some filter)
    → Quietly (calls.Referrers digest filter) moment name table (turns.Done reply) table
list_quiet moment name table digest filter reply all is =
    quiet_done (calls.Referrers digest filter) moment name table reply (λ holds agrees. referrers_made moment table holds digest filter reply agrees all is)
    (subst (λ (r : Reply). FitsCall (calls.Referrers digest filter) r) (sym is) (inl tt)) (λ h. cc (sym is ∙ h))

-- ---- reading

-- all but the last of a list and the last are the last and all but it
last_first : (xs : List (List ℕ)) (x y : List ℕ) → Contains (xs ++ x ∷ []) y → Contains (x ∷ xs) y
last_first xs x y h = split (Contains-push_cases xs x y h) where
  split : Contains xs y ⊎ (x ≡ y) → Contains (x ∷ xs) y
  split (inl inside) = Contains-append_right (x ∷ []) xs y inside
  split (inr same) = subst (λ z. Contains (x ∷ xs) z) same (0, omega arith, refl)

unread_last : (table : RepoTable) (left : List (List ℕ)) (digest : List ℕ) (all : List (List ℕ)) → all ≡ left ++ digest ∷ [] → HasUnread table all → HasUnread table (digest ∷ left)
unread_last table left digest all is unread other kept has isnt = last_first left digest other (subst (λ (xs : List (List ℕ)). Contains xs other) is (unread other kept has isnt))

-- who reads manifests is no base route, and may be refused for want of memory
learner_named : (purpose : Learning) (call : Call) → Learns purpose call → call ≢ calls.Base
learner_named (learning.Delete digest) call learns same = cc (sym same ∙ learns)
learner_named (learning.List digest filter) call learns same = cc (sym same ∙ learns)

module _ (name : List ℕ) (table : RepoTable) (purpose : Learning) where
  -- the next manifest is asked for
  pub reads_asks : (digest : List ℕ) (left : Vec (List ℕ) Global) (all : List (List ℕ)) → all ≡ left.items ++ digest ∷ []
      → GoesOnReading purpose (HasUnread table all) (length all + 2) name table (turns.Asks (pool.Read name digest) (stages.Learn digest left purpose))
  reads_asks digest left all is = record {
    answer = λ call moment learns unread.
        quiet_asks call moment name table (pool.Read name digest) (stages.Learn digest left purpose) learns
        (λ holds agrees. record { learns = learns; asked_is = refl; same = refl; left_is = unread_last table left.items digest all is unread });
    fits = λ call learns. learns;
    calm = tt;
    below = let long : length all ≡ length left.items + 1 = ap length is ∙ length_push left.items digest in omega arith;
  }

  -- memory ran out
  pub reads_want : (Known : Type 0) (most : ℕ) → GoesOnReading purpose Known most name table (turns.Done no_memory)
  reads_want Known most = record {
    answer = λ call moment learns _. quiet_want call moment name table (learner_named purpose call learns);
    fits = λ call learns. memory_fits call (learner_named purpose call learns);
    calm = λ h. cc h;
    below = tt;
  }

  -- none is left
  below_more : (most more : ℕ) (result : Turn) → most ≤ more → IsBelow most result → IsBelow more result
  below_more most more (turns.Done reply) le h = tt
  below_more most more (turns.Asks asked next) le h = omega arith

  pub reads_all : (all : List (List ℕ)) (result : Turn) → all ≡ [] → GoesOnReading purpose (AllRead table) 2 name table result → GoesOnReading purpose (HasUnread table all) (length all + 2) name table result
  reads_all all result none on = record {
    answer = λ call moment learns unread. on.answer call moment learns (none_left table (subst (λ (xs : List (List ℕ)). HasUnread table xs) none unread));
    fits = on.fits;
    calm = on.calm;
    below = below_more 2 (length all + 2) result (omega arith) on.below;
  }

  -- what is left to be read at first
  pub reads_first : (call : Call) (moment : ℕ) (all : List (List ℕ)) (result : Turn) → all ≡ unread_in table → Learns purpose call → GoesOnReading purpose (HasUnread table all) (length all + 2) name table result → Quietly call moment name table result table
  reads_first call moment all result is learns on = on.answer call moment learns (subst (λ (xs : List (List ℕ)). HasUnread table xs) (sym is) (unread_left table))

  -- the same behind the list of them, which leaves the table
  pub reads_after : (new : RepoTable) (call : Call) (moment : ℕ) (all : List (List ℕ)) (result : Turn) → all ≡ unread_in table → new ≡ table → Learns purpose call → GoesOnReading purpose (HasUnread new all) (length all + 2) name new result
      → Quietly call moment name table result new
  reads_after new call moment all result is same learns on =
      subst (λ (t : RepoTable). Quietly call moment name table result t) (sym same)
      (reads_first call moment all result is learns (subst (λ (t : RepoTable). GoesOnReading purpose (HasUnread t all) (length all + 2) name t result) same on))

-- ---- a DELETE and a list

pub delete_on : (name : List ℕ) (table : RepoTable) (digest : List ℕ) (result : Turn) → ((moment : ℕ) → AllRead table → Quietly (calls.DeleteBlob digest) moment name table result table) → FitsTurn (calls.DeleteBlob digest) result → IsCalm result → IsBelow 2 result
    → GoesOnReading (learning.Delete digest) (AllRead table) 2 name table result
delete_on name table digest result quiet fits calm below = record {
  answer = λ call moment learns all. subst (λ (c : Call). Quietly c moment name table result table) (sym learns) (quiet moment all);
  fits = λ call learns. subst (λ (c : Call). FitsTurn c result) (sym learns) fits;
  calm = calm;
  below = below;
}

pub delete_on_unknown : (name : List ℕ) (table : RepoTable) (digest : List ℕ) → size_at table.slots digest ≡ None → GoesOnReading (learning.Delete digest) (AllRead table) 2 name table (turns.Done (refusal BlobUnknown))
delete_on_unknown name table digest none = delete_on name table digest (turns.Done (refusal BlobUnknown)) (λ moment all. delete_unknown moment name table digest none) (inr (inl refl, refl, tt)) (λ h. cc h) tt

pub delete_on_needed : (name : List ℕ) (table : RepoTable) (digest : List ℕ) → is_some (size_at table.slots digest) ≡ true → is_needed_in table digest ≡ true → GoesOnReading (learning.Delete digest) (AllRead table) 2 name table (turns.Done (not_allowed methods.Read))
delete_on_needed name table digest has needs =
    let size = some_size table digest (size_at table.slots digest) refl has in
    delete_on name table digest (turns.Done (not_allowed methods.Read)) (λ moment all. delete_refused moment name table digest size.0 all size.1 needs) (inr (inr (inl refl), refl, refl)) (λ h. cc h) tt

pub delete_on_asks : (name : List ℕ) (table : RepoTable) (digest : List ℕ) → is_some (size_at table.slots digest) ≡ true → is_needed_in table digest ≡ false
    → GoesOnReading (learning.Delete digest) (AllRead table) 2 name table (turns.Asks (pool.Detach name digest) (stages.Detach digest))
delete_on_asks name table digest has free =
    let size = some_size table digest (size_at table.slots digest) refl has in
    delete_on name table digest (turns.Asks (pool.Detach name digest) (stages.Detach digest)) (λ moment all. delete_asks moment name table digest size.0 all size.1 free) refl tt (omega arith)

pub list_on : (name : List ℕ) (table : RepoTable) (digest : List ℕ) (filter : Option (List ℕ)) (reply : Reply) → reply ≡ Referrers (referrers_text (all_pushed (size_at table.slots) table.table.manifests) digest filter) (is_some filter)
    → GoesOnReading (learning.List digest filter) (AllRead table) 2 name table (turns.Done reply)
list_on name table digest filter reply is = record {
  answer = λ call moment learns all. subst (λ (c : Call). Quietly c moment name table (turns.Done reply) table) (sym learns) (list_quiet moment name table digest filter reply all is);
  fits = λ call learns. subst (λ (c : Call). FitsCall c reply) (sym learns) (subst (λ (r : Reply). FitsCall (calls.Referrers digest filter) r) (sym is) (inl tt));
  calm = λ h. cc (sym is ∙ h);
  below = tt;
}

-- ---- what was read

module _ (moment : ℕ) (name : List ℕ) (table : RepoTable) (digest : List ℕ) (left : Vec (List ℕ) Global) (purpose : Learning) where
  -- the pool has read nothing, or memory ran out over what it has read
  pub learn_ungiven : (answered : PoolReply) → ResumesQuietly (stages.Learn digest left purpose) answered moment name table (turns.Done (pool_refusal answered)) table
  learn_ungiven answered = ungiven_resumes (stages.Learn digest left purpose) answered moment name table table (record { known = refl; manifests = refl; tags = λ _. refl }) leaves where
    leaves : (start : RepoState) (call : Call) (asked : PoolCall) (holds behind : Holds) → Agrees table holds → Doing name (stages.Learn digest left purpose) start call moment asked table holds → Takes answered asked holds behind
        → AreEqual holds behind × (given answered asked behind ≡ None) × Agrees table holds × IsAmong (leavings moment start call) (repo_of table holds)
    leaves start call asked holds behind agrees doing takes = (
      read_keeps answered name digest holds behind (subst (λ a. Takes answered a holds behind) doing.asked_is takes),
      ap (λ a. given answered a behind) doing.asked_is ∙ read_gives answered name digest behind,
      agrees,
      inl doing.same,
    )

  calm_next : (answered : PoolReply) (result : Turn) (faults : ℕ) → IsCalm result → HasNextCause answered result faults faults
  calm_next answered (turns.Done reply) faults calm = record { failed = λ is. absurd (calm is); kept = λ _. refl }
  calm_next answered (turns.Asks asked next) faults calm = refl

  below_falls : (result : Turn) → IsBelow (length left.items + 2) result → Falls (stages.Learn digest left purpose) result
  below_falls (turns.Done reply) h = tt
  below_falls (turns.Asks asked next) h = h

  goes_at : (result : Turn) (start inside : RepoState) (call : Call) (new : RepoTable) (behind : Holds) (before after : ℕ) → inside ≡ start → after ≡ before → Goes result None inside call moment name new behind before before → Goes result None start call moment name new behind before after
  goes_at result start inside call new behind before after is stay goes =
      subst (λ n. Goes result None start call moment name new behind before n) (sym stay) (subst (λ (r : RepoState). Goes result None r call moment name new behind before before) is goes)

  pub learn_given : (bytes : List ℕ) (result : Turn) → GoesOnReading purpose (HasUnread (learned table digest bytes) left.items) (length left.items + 2) name (learned table digest bytes) result
      → ResumesQuietly (stages.Learn digest left purpose) (replies.Content bytes) moment name table result (learned table digest bytes)
  learn_given bytes result on objects faults = record {
    answer = λ start call asked holds behind failed fails agrees doing takes counts.
        let read : (holds digest ≡ Some bytes) × AreEqual holds behind = subst (λ a. Takes (replies.Content bytes) a holds behind) doing.asked_is takes in
        let quiet = on.answer call moment doing.learns (learned_left table digest bytes left.items doing.left_is) in
        goes_at result start (repo_of (learned table digest bytes) behind) call (learned table digest bytes) behind (faults + failed) (faults + fails)
        (learn_is table behind digest bytes ∙ same_is table holds behind read.1 ∙ doing.same) (ap (λ n. faults + n) counts)
        (quiet.answer behind (faults + failed) (learn_agrees table behind digest bytes (same_agrees table holds behind read.1 agrees) (read.1 digest ∙ read.0)));
    stands = quiet_stands objects name table (learned table digest bytes) (alike_tables table (learned table digest bytes) (λ _. None) (λ _. None) (learn_is table (λ _. None) digest bytes));
    beside = quiet_others objects name table;
    faults = calm_next (replies.Content bytes) result faults on.calm;
    fits = on.fits;
    falls = below_falls result on.below;
  }

  -- the same from a table that is this one
  pub learn_after : (bytes : List ℕ) (new : RepoTable) (result : Turn) → new ≡ learned table digest bytes → GoesOnReading purpose (HasUnread new left.items) (length left.items + 2) name new result
      → ResumesQuietly (stages.Learn digest left purpose) (replies.Content bytes) moment name table result new
  learn_after bytes new result is on =
      subst (λ (t : RepoTable). ResumesQuietly (stages.Learn digest left purpose) (replies.Content bytes) moment name table result t) (sym is)
      (learn_given bytes result (subst (λ (t : RepoTable). GoesOnReading purpose (HasUnread t left.items) (length left.items + 2) name t result) is on))

  -- memory ran out over the bytes
  pub learn_want : (bytes : List ℕ) (new : RepoTable) (reply : Reply) → new ≡ table → reply ≡ no_memory → ResumesQuietly (stages.Learn digest left purpose) (replies.Content bytes) moment name table (turns.Done reply) new
  learn_want bytes new reply same is =
      subst (λ (t : RepoTable). ResumesQuietly (stages.Learn digest left purpose) (replies.Content bytes) moment name table (turns.Done reply) t) (sym same)
      (subst (λ (r : Reply). ResumesQuietly (stages.Learn digest left purpose) (replies.Content bytes) moment name table (turns.Done r) table) (sym is) (learn_ungiven (replies.Content bytes)))
