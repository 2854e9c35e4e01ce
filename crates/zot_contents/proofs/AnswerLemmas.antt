-- Answers of calls as answers of the pool.
use Rattle.std.proofs.Common.{◌≡◌, ℕ, inl, inr, Bool, List, Option, Some, None, refl, sym, ap, subst}
use Rattle.std.specs.Prelude.{IfOk, IfSome, OnErr, OnOk, Result, Ok, Err}
use Rattle.zot_outside.specs.Faults.{HasStoreCause, Rose}
use Rattle.zot_outside.specs.Objects.{Objects, Told}
use Rattle.zot_outside.specs.declared.stores.store_error.StoreError.{StoreError}
use Rattle.zot_outside.specs.declared.stores.store_error.StoreError.TheVariants.{Missing, Failed, NoMemory}
use Rattle.zot_links.proofs.ToldLemmas.{told_so}
use Rattle.zot_links.specs.Changes.{HasCallsCause}
use Rattle.zot_links.specs.Meaning.{held}
use Rattle.zot_contents.specs.Answers.{HasReplyCause, OnHeld, OnReplyFailed, OnReplyNoMemory, Replies}
use Rattle.zot_contents.specs.Holdings.{AreAllHeld}
use Rattle.zot_contents.specs.Pool.{AreSame, Gives, Holders, IsPlain, MayAnswer, content_of, plain_attach, plain_detach, plain_mount, size_of}
use Rattle.zot_contents.specs.Shards.{AreTight, KeepsTight, Kept}
use Rattle.zot_contents.specs.declared.holding.Holding.{Holding}
use Rattle.zot_contents.specs.declared.pool_call.PoolCall.{PoolCall}
use Rattle.zot_contents.specs.declared.pool_call.PoolCall.TheVariants as calls
use Rattle.zot_contents.specs.declared.pool_reply.PoolReply.{PoolReply}
use Rattle.zot_contents.specs.declared.pool_reply.PoolReply.TheVariants as replies

-- ---- a call that only looks

-- what holds of objects and themselves
pub told_same : (before after : Option Objects) (P : Objects → Objects → Type 0) → after ≡ before → ((told : Objects) → P told told) → Told before after P
told_same None after P same h = same
told_same (Some told) after P same h = subst (λ o. Told (Some told) o P) (sym same) (h told)

pub told_alone : (before after : Option Objects) (Q : Objects → Type 0) (P : Objects → Objects → Type 0) → after ≡ before → ((told : Objects) → Q told → P told told) → IfSome before Q → Told before after P
told_alone None after Q P same h is = same
told_alone (Some told) after Q P same h is = subst (λ o. Told (Some told) o P) (sym same) (h told is)

pub same_all : (told : Objects) → AreSame (held told) (held told)
same_all told digest name is named = refl

-- one that failed in no case but before what decides
pub looked : {T : Type 0} (before after : ℕ) (r : Result T StoreError) → HasStoreCause before after r → HasCallsCause before after r
looked before after (Ok x) c = record { later = c.later; failed = tt; quiet = tt }
looked before after (Err Missing) c = record { later = c.later; failed = tt; quiet = c.kept }
looked before after (Err Failed) c = record { later = c.later; failed = c.failed; quiet = tt }
looked before after (Err NoMemory) c = record { later = c.later; failed = tt; quiet = c.kept }

pub looked_err : {T : Type 0} (r : Result T StoreError) (before after : Option Objects) → after ≡ before → OnErr r (Told before after (λ old new. AreSame (held old) (held new)))
looked_err (Ok x) before after same = tt
looked_err (Err e) before after same = told_same before after (λ old new. AreSame (held old) (held new)) same same_all

pub looked_tight : (dedupe : Bool) (number : ℕ) (before after : Option Objects) (kept later : Kept) → after ≡ before → later ≡ kept → KeepsTight dedupe number before kept after later
looked_tight dedupe number before after kept later same is _ =
    told_same before after (λ old new. AreTight old number kept → AreTight new number later) same (λ told tight. subst (AreTight told number) (sym is) tight)

-- ---- any call

-- what the pool answers is what the plain pool may
pub answered : {T : Type 0} (reply_of : T → PoolReply) (r : Result T StoreError) (reply : PoolReply) (number : ℕ) (call : PoolCall) (before after : Option Objects) (low high : ℕ)
    → Replies reply_of r reply → HasCallsCause low high r
    → IfOk r (λ x. Told before after (λ old new. IsPlain number (held old) call (reply_of x) (held new)))
    → OnErr r (Told before after (λ old new. AreSame (held old) (held new)))
    → Told before after (λ old new. MayAnswer number (record { held = held old; faults = low }) call reply (record { held = held new; faults = high }))
answered reply_of (Ok x) reply number call before after low high is cause ok err =
    told_so before after (λ old new. IsPlain number (held old) call (reply_of x) (held new))
    (λ old new. MayAnswer number (record { held = held old; faults = low }) call reply (record { held = held new; faults = high }))
    (λ old new plain. inl (record { plain = subst (λ y. IsPlain number (held old) call y (held new)) (sym is) plain; faults = cause.later })) ok
answered reply_of (Err Missing) reply number call before after low high is cause ok err = absurd is
answered reply_of (Err Failed) reply number call before after low high is cause ok err =
    told_so before after (λ old new. AreSame (held old) (held new))
    (λ old new. MayAnswer number (record { held = held old; faults = low }) call reply (record { held = held new; faults = high }))
    (λ old new same. inr (inr (record { reply_is = is; held = same; faults = cause.failed }))) err
answered reply_of (Err NoMemory) reply number call before after low high is cause ok err =
    told_so before after (λ old new. AreSame (held old) (held new))
    (λ old new. MayAnswer number (record { held = held old; faults = low }) call reply (record { held = held new; faults = high }))
    (λ old new same. inr (inl (record { reply_is = is; held = same; faults = cause.quiet }))) err

-- and has its cause, where no success is an error
pub caused : {T : Type 0} (reply_of : T → PoolReply) (r : Result T StoreError) (reply : PoolReply) (low high : ℕ) → ((x : T) (P : Type 0) → OnReplyFailed (reply_of x) P × OnReplyNoMemory (reply_of x) P)
    → Replies reply_of r reply → HasCallsCause low high r → HasReplyCause low high reply
caused reply_of (Ok x) reply low high quiet is cause =
    subst (HasReplyCause low high) (sym is) (record { later = cause.later; failed = (quiet x (Rose low high)).0; quiet = (quiet x (high ≡ low)).1 })
caused reply_of (Err Missing) reply low high quiet is cause = absurd is
caused reply_of (Err Failed) reply low high quiet is cause = subst (HasReplyCause low high) (sym is) (record { later = cause.later; failed = cause.failed; quiet = tt })
caused reply_of (Err NoMemory) reply low high quiet is cause = subst (HasReplyCause low high) (sym is) (record { later = cause.later; failed = tt; quiet = cause.quiet })

-- a list is answered only where one is given
pub listed_so : {T : Type 0} (reply_of : T → PoolReply) (r : Result T StoreError) (reply : PoolReply) (P : List Holding → Type 0) → IfOk r (λ x. OnHeld (reply_of x) P)
    → Replies reply_of r reply → OnHeld reply P
listed_so reply_of (Ok x) reply P h is = subst (λ y. OnHeld y P) (sym is) h
listed_so reply_of (Err Missing) reply P h is = absurd is
listed_so reply_of (Err Failed) reply P h is = subst (λ y. OnHeld y P) (sym is) tt
listed_so reply_of (Err NoMemory) reply P h is = subst (λ y. OnHeld y P) (sym is) tt

-- ---- each call, as the plain pool answers it

module _ (number : ℕ) (old new : Holders) where
  pub attach_plain : (name digest bytes : List ℕ) → Gives (plain_attach old name digest bytes) replies.Done new → IsPlain number old (calls.Attach name digest bytes) replies.Done new
  unfolding IsPlain
  attach_plain name digest bytes h = h

  pub mount_plain : (name from digest : List ℕ) (reply : PoolReply) → Gives (plain_mount old name from digest) reply new → IsPlain number old (calls.Mount name from digest) reply new
  unfolding IsPlain
  mount_plain name from digest reply h = h

  pub detach_plain : (name digest : List ℕ) (reply : PoolReply) → Gives (plain_detach old name digest) reply new → IsPlain number old (calls.Detach name digest) reply new
  unfolding IsPlain
  detach_plain name digest reply h = h

-- what is found is what is held
pub read_plain : (number : ℕ) (told : Objects) (name digest : List ℕ) (found : Option (List ℕ)) → found ≡ held told digest name
    → IsPlain number (held told) (calls.Read name digest) (content_of found) (held told)
unfolding IsPlain
read_plain number told name digest found is = record { reply_is = ap content_of is; held_is = same_all told }

-- what is listed is all that is held
pub holdings_plain : (number : ℕ) (told : Objects) (list : List Holding) → AreAllHeld number (held told) list → IsPlain number (held told) calls.Holdings (replies.Held list) (held told)
unfolding IsPlain
holdings_plain number told list all = ((list, refl, all), same_all told)

pub attach_answers : {E : Type 0} (r : Result (Unit {0}) E) (number : ℕ) (before after : Option Objects) (name digest bytes : List ℕ)
    → OnOk r (Told before after (λ old new. Gives (plain_attach (held old) name digest bytes) replies.Done (held new)))
    → IfOk r (λ _. Told before after (λ old new. IsPlain number (held old) (calls.Attach name digest bytes) replies.Done (held new)))
attach_answers (Ok x) number before after name digest bytes h =
    told_so before after (λ old new. Gives (plain_attach (held old) name digest bytes) replies.Done (held new)) (λ old new. IsPlain number (held old) (calls.Attach name digest bytes) replies.Done (held new))
    (λ old new. attach_plain number (held old) (held new) name digest bytes) h
attach_answers (Err e) number before after name digest bytes h = tt

pub mount_answers : {T E : Type 0} (reply_of : T → PoolReply) (r : Result T E) (number : ℕ) (before after : Option Objects) (name from digest : List ℕ)
    → IfOk r (λ x. Told before after (λ old new. Gives (plain_mount (held old) name from digest) (reply_of x) (held new)))
    → IfOk r (λ x. Told before after (λ old new. IsPlain number (held old) (calls.Mount name from digest) (reply_of x) (held new)))
mount_answers reply_of (Ok x) number before after name from digest h =
    told_so before after (λ old new. Gives (plain_mount (held old) name from digest) (reply_of x) (held new)) (λ old new. IsPlain number (held old) (calls.Mount name from digest) (reply_of x) (held new))
    (λ old new. mount_plain number (held old) (held new) name from digest (reply_of x)) h
mount_answers reply_of (Err e) number before after name from digest h = tt

pub detach_answers : {T E : Type 0} (reply_of : T → PoolReply) (r : Result T E) (number : ℕ) (before after : Option Objects) (name digest : List ℕ)
    → IfOk r (λ x. Told before after (λ old new. Gives (plain_detach (held old) name digest) (reply_of x) (held new)))
    → IfOk r (λ x. Told before after (λ old new. IsPlain number (held old) (calls.Detach name digest) (reply_of x) (held new)))
detach_answers reply_of (Ok x) number before after name digest h =
    told_so before after (λ old new. Gives (plain_detach (held old) name digest) (reply_of x) (held new)) (λ old new. IsPlain number (held old) (calls.Detach name digest) (reply_of x) (held new))
    (λ old new. detach_plain number (held old) (held new) name digest (reply_of x)) h
detach_answers reply_of (Err e) number before after name digest h = tt

pub read_answers : {T E : Type 0} (found : T → Option (List ℕ)) (r : Result T E) (number : ℕ) (before after : Option Objects) (name digest : List ℕ) → after ≡ before
    → IfOk r (λ x. IfSome before (λ told. found x ≡ held told digest name))
    → IfOk r (λ x. Told before after (λ old new. IsPlain number (held old) (calls.Read name digest) (content_of (found x)) (held new)))
read_answers found (Ok x) number before after name digest same h =
    told_alone before after (λ told. found x ≡ held told digest name) (λ old new. IsPlain number (held old) (calls.Read name digest) (content_of (found x)) (held new)) same
    (λ told is. read_plain number told name digest (found x) is) h
read_answers found (Err e) number before after name digest same h = tt

pub holdings_answers : {T E : Type 0} (items : T → List Holding) (r : Result T E) (number : ℕ) (before after : Option Objects) → after ≡ before
    → IfOk r (λ x. IfSome before (λ told. AreAllHeld number (held told) (items x)))
    → IfOk r (λ x. Told before after (λ old new. IsPlain number (held old) calls.Holdings (replies.Held (items x)) (held new)))
holdings_answers items (Ok x) number before after same h =
    told_alone before after (λ told. AreAllHeld number (held told) (items x)) (λ old new. IsPlain number (held old) calls.Holdings (replies.Held (items x)) (held new)) same
    (λ told all. holdings_plain number told (items x) all) h
holdings_answers items (Err e) number before after same h = tt

-- ---- answers that are no errors

abbrev pub IsQuiet : PoolReply → Type 1
IsQuiet reply = (P : Type 0) → OnReplyFailed reply P × OnReplyNoMemory reply P

pub size_quiet : (size : Option ℕ) → IsQuiet (size_of size)
size_quiet None P = (tt, tt)
size_quiet (Some size) P = (tt, tt)

pub content_quiet : (found : Option (List ℕ)) → IsQuiet (content_of found)
content_quiet None P = (tt, tt)
content_quiet (Some bytes) P = (tt, tt)
