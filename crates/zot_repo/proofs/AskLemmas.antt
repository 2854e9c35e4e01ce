-- What a pool's answer is to a row, and what is held before and after several of them.
use Rattle.std.proofs.Common.{◌≡◌, ◌≤◌, inl, inr, ℕ, Bool, true, false, cond, List, Option, Some, None, IfSome, refl, sym, ap, subst, ◌∙◌, arith}
use Rattle.std.specs.Prelude.{IsSome, IsSomeAnd, sum}
use Rattle.std.proofs.lemmas.Slice.Eq.{bytes_eq-Decides}
use Rattle.zot_contents.proofs.HolderLemmas.{with_bytes_here}
use Rattle.zot_contents.specs.Holders.{digest_in, name_in}
use Rattle.zot_contents.specs.Pool.{Gives, Holders, IsPlain, MayAnswer, if_sound, mount_of}
use Rattle.zot_contents.specs.declared.pool_call.PoolCall.{PoolCall}
use Rattle.zot_contents.specs.declared.pool_call.PoolCall.TheVariants as pool
use Rattle.zot_contents.specs.declared.pool_reply.PoolReply.{PoolReply}
use Rattle.zot_contents.specs.declared.pool_reply.PoolReply.TheVariants as replies
use Rattle.zot_digest.specs.Digest.{IsDigest, is_sound}
use Rattle.zot_names.specs.Name.{IsName}
use Rattle.zot_outside.specs.Faults.{Rose}
use Rattle.zot_outside.specs.declared.stores.store.Store.{Ghosts}
use Rattle.zot_contents.specs.declared.shard.DigestShard.{DigestShard}
use Rattle.zot_pool.specs.Pools.{holds, objects_of, BothHold, HasPoolCause, OnFailed, RoseAt, refusal}
use Rattle.zot_row.specs.Turns.{given}
use Rattle.zot_repo.proofs.RowLemmas.{under_digest}
use Rattle.zot_repo.proofs.SeatLemmas.{enters_none}
use Rattle.zot_repo.proofs.TakingLemmas.{pool_takes}
use Rattle.zot_repo.specs.Rows.{TakesRow, under}
use Rattle.zot_repo.specs.Seats.{EntersPool}
use Rattle.zot_repo.specs.Shards.{AnswersAsked, Asked, KeepsOtherNames, is_for}

-- ---- what is held, where it is told

pub both_itself : (found : Option Holders) (P : Holders → Holders → Type 0) → ((held : Holders) → P held held) → BothHold found found P
both_itself None P all = refl
both_itself (Some held) P all = all held

pub both_each : (old new : Option Holders) (P Q : Holders → Holders → Type 0) → ((held behind : Holders) → P held behind → Q held behind) → BothHold old new P → BothHold old new Q
both_each None new P Q all h = h
both_each (Some held) None P Q all h = absurd h
both_each (Some held) (Some behind) P Q all h = all held behind h

pub both_then : (old mid new : Option Holders) (P Q R : Holders → Holders → Type 0) → ((held since behind : Holders) → P held since → Q since behind → R held behind) → BothHold old mid P → BothHold mid new Q → BothHold old new R
both_then None None new P Q R all h k = k
both_then None (Some since) new P Q R all h k = cc h
both_then (Some held) None new P Q R all h k = absurd h
both_then (Some held) (Some since) None P Q R all h k = absurd k
both_then (Some held) (Some since) (Some behind) P Q R all h k = all held since behind h k

-- ---- options

pub if_some_by : {X : Type 0} (found : Option X) (P : X → Type 0) → ((x : X) → found ≡ Some x → P x) → IfSome found P
if_some_by None P all = tt
if_some_by (Some x) P all = all x refl

pub if_some_at : {X : Type 0} (found : Option X) (P : X → Type 0) (x : X) → found ≡ Some x → IfSome found P → P x
if_some_at found P x is h = subst (λ o. IfSome o P) is h

pub some_and_at : {X : Type 0} (found : Option X) (P : X → Type 0) (x : X) → found ≡ Some x → IsSomeAnd found P → P x
some_and_at found P x is h = subst (λ o. IsSomeAnd o P) is h

-- ---- an answer of the pool

sound_found : (digest : List ℕ) (found : Option (List ℕ)) (bytes : List ℕ) → if_sound digest found ≡ Some bytes → found ≡ Some bytes
sound_found digest None bytes h = cc h
sound_found digest (Some own) bytes h = by (is_sound digest own) h where
  by : (b : Bool) → cond b (Some own) None ≡ Some bytes → Some own ≡ Some bytes
  by true k = k
  by false k = cc k

-- a mount is given what the other repository holds
module _ (held behind : Holders) (name from digest : List ℕ) (is : IsName name) (of : IsDigest digest) where
  abbrev IsGivenHeld : PoolReply → Type 0
  IsGivenHeld answered = IfSome (given answered (pool.Mount name from digest) (under behind name)) (λ bytes. held digest from ≡ Some bytes)

  given_found : (answered : PoolReply) (found : Option (List ℕ)) → if_sound digest (held digest from) ≡ found → Gives (mount_of held name digest found) answered behind → IsGivenHeld answered
  given_found answered None has h = subst IsGivenHeld (sym h.reply_is) tt
  given_found answered (Some bytes) has h =
      subst IsGivenHeld (sym h.reply_is)
      (subst (λ o. IfSome o (λ b. held digest from ≡ Some b)) (sym (under_digest behind name digest of ∙ h.held_is digest name of is ∙ with_bytes_here held digest name (Some bytes))) (sound_found digest (held digest from) bytes has))

  given_plain : (number : ℕ) (answered : PoolReply) → IsPlain number held (pool.Mount name from digest) answered behind → IsGivenHeld answered
  unfolding IsPlain
  given_plain number answered h = given_found answered (if_sound digest (held digest from)) refl h

  mount_given : (number before after : ℕ) (answered : PoolReply) → MayAnswer number (record { held = held; faults = before }) (pool.Mount name from digest) answered (record { held = behind; faults = after }) → IsGivenHeld answered
  mount_given number before after answered (inl h) = given_plain number answered h.plain
  mount_given number before after answered (inr (inl h)) = subst IsGivenHeld (sym h.reply_is) tt
  mount_given number before after answered (inr (inr h)) = subst IsGivenHeld (sym h.reply_is) tt

pub answers_asked : (number before after : ℕ) (held behind : Holders) (asked : PoolCall) (answered : PoolReply) → IfSome (digest_in asked) IsDigest
    → MayAnswer number (record { held = held; faults = before }) asked answered (record { held = behind; faults = after }) → AnswersAsked asked answered held behind
answers_asked number before after held behind asked answered of h = record {
  takes = if_some_by (name_in asked) (λ name. IsName name → TakesRow IsName name answered asked held behind) (λ name on is. pool_takes IsName (λ _ k. k) held behind number before after name asked answered is on of h);
  taken = λ name from digest is e.
      subst (λ (a : PoolCall). IfSome (given answered a (under behind name)) (λ bytes. held digest from ≡ Some bytes)) (sym e)
      (mount_given held behind name from digest is (subst (λ (a : PoolCall). IfSome (digest_in a) IsDigest) e of) number before after answered
      (subst (λ (a : PoolCall). MayAnswer number (record { held = held; faults = before }) a answered (record { held = behind; faults = after })) e h));
}

-- the others hold what they held
pub others_kept : (held behind : Holders) (name : List ℕ) (asked : PoolCall) (answered : PoolReply) → TakesRow IsName name answered asked held behind → KeepsOtherNames name held behind
others_kept held behind name asked answered takes digest other of is apart = sym (under_digest behind other digest of) ∙ takes.others other is apart digest ∙ under_digest held other digest of

-- ---- the counts

pub rose_whole : (number : ℕ) (old new : List ℕ) (answered : PoolReply) → HasPoolCause number old new (refusal answered) → answered ≡ replies.Failed → Rose (sum old) (sum new)
rose_whole number old new answered cause is = (subst (λ (a : PoolReply). OnFailed (refusal a) (RoseAt number old new)) is cause.failed).whole

pub rose_since : (before mid after : ℕ) → before ≤ mid → Rose mid after → Rose before after
rose_since before mid after later rose = omega arith

-- ---- for whom it is asked

pub for_name : (name : List ℕ) (asked : PoolCall) → is_for name asked ≡ true → name_in asked ≡ Some name
for_name name pool.Holdings h = cc h
for_name name (pool.Attach own digest bytes) h = ap (λ n. Some n) ((bytes_eq-Decides own name).0 h)
for_name name (pool.Mount own from digest) h = ap (λ n. Some n) ((bytes_eq-Decides own name).0 h)
for_name name (pool.Read own digest) h = ap (λ n. Some n) ((bytes_eq-Decides own name).0 h)
for_name name (pool.Detach own digest) h = ap (λ n. Some n) ((bytes_eq-Decides own name).0 h)

pub for_digest : (name : List ℕ) (asked : PoolCall) → is_for name asked ≡ true → IsSome (digest_in asked)
for_digest name pool.Holdings h = cc h
for_digest name (pool.Attach own digest bytes) h = refl
for_digest name (pool.Mount own from digest) h = refl
for_digest name (pool.Read own digest) h = refl
for_digest name (pool.Detach own digest) h = refl

-- the others hold what they held after a call for the repository of a name
pub others_asked : (name : List ℕ) (asked : PoolCall) (answered : PoolReply) (held behind : Holders) → IsName name → is_for name asked ≡ true → AnswersAsked asked answered held behind → KeepsOtherNames name held behind
others_asked name asked answered held behind is on h =
    others_kept held behind name asked answered (if_some_at (name_in asked) (λ n. IsName n → TakesRow IsName n answered asked held behind) name (for_name name asked on) h.takes is)

-- what isn't asked
pub answers_none : (asked : PoolCall) (held : Holders) → AnswersAsked asked replies.NoMemory held held
answers_none asked held = record {
  takes = if_some_by (name_in asked) (λ name. IsName name → TakesRow IsName name replies.NoMemory asked held held) (λ name _ is. record { here = λ digest. refl; others = λ other own apart digest. refl });
  taken = λ name from digest is e. tt;
}

pub asked_none : {S : Type 0} {G : Ghosts S} (name : List ℕ) (shards : List (DigestShard S G)) (failed : ℕ) (asked : PoolCall) → Asked name shards failed asked replies.NoMemory shards failed
asked_none name shards failed asked = record {
  answer = both_itself (holds (objects_of shards)) (AnswersAsked asked replies.NoMemory) (answers_none asked);
  others = both_itself (holds (objects_of shards)) (KeepsOtherNames name) (λ held digest other of is apart. refl);
  entries = both_itself (holds (objects_of shards)) (EntersPool name) (enters_none name);
  counts = refl;
  rose = λ is. cc is;
  later = omega arith;
  tight = λ _ h. h;
  dedupe = λ h. h;
}
