-- How a call ends that can't go on, and what the pool's answers leave.
use Rattle.std.proofs.Common.{◌≡◌, ◌≢◌, ◌≤◌, ◌+◌, ℕ, Bool, List, None, inl, inr, refl, ap, ◌∙◌, arith}
use Rattle.zot_contents.specs.declared.pool_call.PoolCall.{PoolCall}
use Rattle.zot_contents.specs.declared.pool_call.PoolCall.TheVariants as pool
use Rattle.zot_contents.specs.declared.pool_reply.PoolReply.{PoolReply}
use Rattle.zot_contents.specs.declared.pool_reply.PoolReply.TheVariants as replies
use Rattle.zot_model.specs.Among.{IsAmong}
use Rattle.zot_model.specs.Plain.{IsPlain, Rise, leavings}
use Rattle.zot_model.specs.Refusals.{no_memory, storage_fault}
use Rattle.zot_model.specs.State.{RepoState}
use Rattle.zot_model.specs.declared.call.Call.{Call}
use Rattle.zot_model.specs.declared.reply.Reply.{Reply}
use Rattle.zot_outside.specs.Faults.{Rose}
use Rattle.zot_outside.specs.declared.stores.store_error.StoreError.{StoreError}
use Rattle.zot_outside.specs.declared.stores.store_error.StoreError.TheVariants.{Missing, Failed, NoMemory}
use Rattle.zot_row.specs.Refusals.{pool_refusal, store_refusal}
use Rattle.zot_row.specs.Turns.{Counts, EndsPlainly, Takes, given}
use Rattle.zot_table.specs.Standing.{AreEqual, Holds}

-- ---- what the pool's answers leave

-- a read leaves what is held, whatever is answered
pub read_keeps : (answered : PoolReply) (name digest : List ℕ) (holds behind : Holds) → Takes answered (pool.Read name digest) holds behind → AreEqual holds behind
read_keeps replies.Done name digest holds behind h = absurd h
read_keeps (replies.Held list) name digest holds behind h = absurd h
read_keeps (replies.Size size) name digest holds behind h = absurd h
read_keeps (replies.Content bytes) name digest holds behind h = h.1
read_keeps replies.Nothing name digest holds behind h = h.1
read_keeps (replies.Removed was) name digest holds behind h = absurd h
read_keeps replies.Failed name digest holds behind h = h
read_keeps replies.NoMemory name digest holds behind h = h

-- so does an attach that isn't done
pub attach_keeps : (answered : PoolReply) (name digest bytes : List ℕ) (holds behind : Holds) → answered ≢ replies.Done → Takes answered (pool.Attach name digest bytes) holds behind → AreEqual holds behind
attach_keeps replies.Done name digest bytes holds behind isnt h = absurd (isnt refl)
attach_keeps (replies.Held list) name digest bytes holds behind isnt h = absurd h
attach_keeps (replies.Size size) name digest bytes holds behind isnt h = absurd h
attach_keeps (replies.Content found) name digest bytes holds behind isnt h = absurd h.0
attach_keeps replies.Nothing name digest bytes holds behind isnt h = absurd h.0
attach_keeps (replies.Removed was) name digest bytes holds behind isnt h = absurd h
attach_keeps replies.Failed name digest bytes holds behind isnt h = h
attach_keeps replies.NoMemory name digest bytes holds behind isnt h = h

-- and a mount that is given nothing
pub mount_keeps : (answered : PoolReply) (name from digest : List ℕ) (holds behind : Holds) → ((size : ℕ) → answered ≢ replies.Size size) → Takes answered (pool.Mount name from digest) holds behind → AreEqual holds behind
mount_keeps replies.Done name from digest holds behind isnt h = absurd h
mount_keeps (replies.Held list) name from digest holds behind isnt h = absurd h
mount_keeps (replies.Size size) name from digest holds behind isnt h = absurd (isnt size refl)
mount_keeps (replies.Content found) name from digest holds behind isnt h = absurd h.0
mount_keeps replies.Nothing name from digest holds behind isnt h = h.1
mount_keeps (replies.Removed was) name from digest holds behind isnt h = absurd h
mount_keeps replies.Failed name from digest holds behind isnt h = h
mount_keeps replies.NoMemory name from digest holds behind isnt h = h

-- and a detach that isn't done
pub detach_keeps : (answered : PoolReply) (name digest : List ℕ) (holds behind : Holds) → ((was : Bool) → answered ≢ replies.Removed was) → Takes answered (pool.Detach name digest) holds behind → AreEqual holds behind
detach_keeps replies.Done name digest holds behind isnt h = absurd h
detach_keeps (replies.Held list) name digest holds behind isnt h = absurd h
detach_keeps (replies.Size size) name digest holds behind isnt h = absurd h
detach_keeps (replies.Content found) name digest holds behind isnt h = absurd h.0
detach_keeps replies.Nothing name digest holds behind isnt h = absurd h.0
detach_keeps (replies.Removed was) name digest holds behind isnt h = absurd (isnt was refl)
detach_keeps replies.Failed name digest holds behind isnt h = h
detach_keeps replies.NoMemory name digest holds behind isnt h = h

-- no bytes are given but by a mount
pub unless_size : (answered : PoolReply) (asked : PoolCall) (holds : Holds) → ((size : ℕ) → answered ≢ replies.Size size) → given answered asked holds ≡ None
unless_size replies.Done asked holds isnt = refl
unless_size (replies.Held list) asked holds isnt = refl
unless_size (replies.Size size) asked holds isnt = absurd (isnt size refl)
unless_size (replies.Content bytes) asked holds isnt = refl
unless_size replies.Nothing asked holds isnt = refl
unless_size (replies.Removed was) asked holds isnt = refl
unless_size replies.Failed asked holds isnt = refl
unless_size replies.NoMemory asked holds isnt = refl

pub read_gives : (answered : PoolReply) (name digest : List ℕ) (holds : Holds) → given answered (pool.Read name digest) holds ≡ None
read_gives replies.Done name digest holds = refl
read_gives (replies.Held list) name digest holds = refl
read_gives (replies.Size size) name digest holds = refl
read_gives (replies.Content bytes) name digest holds = refl
read_gives replies.Nothing name digest holds = refl
read_gives (replies.Removed was) name digest holds = refl
read_gives replies.Failed name digest holds = refl
read_gives replies.NoMemory name digest holds = refl

pub attach_gives : (answered : PoolReply) (name digest bytes : List ℕ) (holds : Holds) → given answered (pool.Attach name digest bytes) holds ≡ None
attach_gives replies.Done name digest bytes holds = refl
attach_gives (replies.Held list) name digest bytes holds = refl
attach_gives (replies.Size size) name digest bytes holds = refl
attach_gives (replies.Content found) name digest bytes holds = refl
attach_gives replies.Nothing name digest bytes holds = refl
attach_gives (replies.Removed was) name digest bytes holds = refl
attach_gives replies.Failed name digest bytes holds = refl
attach_gives replies.NoMemory name digest bytes holds = refl

pub detach_gives : (answered : PoolReply) (name digest : List ℕ) (holds : Holds) → given answered (pool.Detach name digest) holds ≡ None
detach_gives replies.Done name digest holds = refl
detach_gives (replies.Held list) name digest holds = refl
detach_gives (replies.Size size) name digest holds = refl
detach_gives (replies.Content found) name digest holds = refl
detach_gives replies.Nothing name digest holds = refl
detach_gives (replies.Removed was) name digest holds = refl
detach_gives replies.Failed name digest holds = refl
detach_gives replies.NoMemory name digest holds = refl

-- ---- the faults

-- the count of the pool's failed calls stays, but where a shard failed
pub counts_stay : (answered : PoolReply) (failed fails : ℕ) → answered ≢ replies.Failed → Counts answered failed fails → fails ≡ failed
counts_stay replies.Done failed fails isnt h = h
counts_stay (replies.Held list) failed fails isnt h = h
counts_stay (replies.Size size) failed fails isnt h = h
counts_stay (replies.Content bytes) failed fails isnt h = h
counts_stay replies.Nothing failed fails isnt h = h
counts_stay (replies.Removed was) failed fails isnt h = h
counts_stay replies.Failed failed fails isnt h = absurd (isnt refl)
counts_stay replies.NoMemory failed fails isnt h = h

-- more of one makes more of both
pub rise_pool : (faults failed fails : ℕ) → Rise failed fails → Rise (faults + failed) (faults + fails)
rise_pool faults failed fails h = let later = h.later in let rose = h.rose in record { later = omega arith; rose = omega arith }

pub rise_part : (before after failed : ℕ) → before ≤ after → Rose before after → Rise (before + failed) (after + failed)
rise_part before after failed later rose = record { later = omega arith; rose = omega arith }

pub stay_both : (before after failed fails : ℕ) → after ≡ before → fails ≡ failed → after + fails ≡ before + failed
stay_both before after failed fails h k = ap (λ n. n + fails) h ∙ ap (λ n. before + n) k

-- ---- ends

pub plainly : (moment : ℕ) (old new : RepoState) (call : Call) (reply : Reply) (before after : ℕ) → IsPlain moment old call reply new → after ≡ before → EndsPlainly moment old call reply new before after
plainly moment old new call reply before after h stay = inl (h, stay)

pub in_want : (moment : ℕ) (old new : RepoState) (call : Call) (reply : Reply) (before after : ℕ) → reply ≡ no_memory → IsAmong (leavings moment old call) new → after ≡ before → EndsPlainly moment old call reply new before after
in_want moment old new call reply before after is leaves stay = inr (inl (record { reply_is = is; leaves = leaves }, stay))

pub in_fault : (moment : ℕ) (old new : RepoState) (call : Call) (reply : Reply) (before after : ℕ) → reply ≡ storage_fault → IsAmong (leavings moment old call) new → Rise before after → EndsPlainly moment old call reply new before after
in_fault moment old new call reply before after is leaves rise = inr (inr (record { reply_is = is; leaves = leaves }, rise))

-- a call that the pool doesn't give what it asked for
pub ungiven_ends : (answered : PoolReply) (moment : ℕ) (old new : RepoState) (call : Call) (reply : Reply) (faults failed fails : ℕ) → reply ≡ pool_refusal answered → Counts answered failed fails → IsAmong (leavings moment old call) new
    → EndsPlainly moment old call reply new (faults + failed) (faults + fails)
ungiven_ends replies.Done moment old new call reply faults failed fails is h leaves = in_want moment old new call reply (faults + failed) (faults + fails) is leaves (ap (λ n. faults + n) h)
ungiven_ends (replies.Held list) moment old new call reply faults failed fails is h leaves = in_want moment old new call reply (faults + failed) (faults + fails) is leaves (ap (λ n. faults + n) h)
ungiven_ends (replies.Size size) moment old new call reply faults failed fails is h leaves = in_want moment old new call reply (faults + failed) (faults + fails) is leaves (ap (λ n. faults + n) h)
ungiven_ends (replies.Content bytes) moment old new call reply faults failed fails is h leaves = in_want moment old new call reply (faults + failed) (faults + fails) is leaves (ap (λ n. faults + n) h)
ungiven_ends replies.Nothing moment old new call reply faults failed fails is h leaves = in_want moment old new call reply (faults + failed) (faults + fails) is leaves (ap (λ n. faults + n) h)
ungiven_ends (replies.Removed was) moment old new call reply faults failed fails is h leaves = in_want moment old new call reply (faults + failed) (faults + fails) is leaves (ap (λ n. faults + n) h)
ungiven_ends replies.Failed moment old new call reply faults failed fails is h leaves = in_fault moment old new call reply (faults + failed) (faults + fails) is leaves (rise_pool faults failed fails h)
ungiven_ends replies.NoMemory moment old new call reply faults failed fails is h leaves = in_want moment old new call reply (faults + failed) (faults + fails) is leaves (ap (λ n. faults + n) h)

-- a call that the part refuses
pub refused_ends : (error : StoreError) (moment : ℕ) (old new : RepoState) (call : Call) (reply : Reply) (before after failed : ℕ) → reply ≡ store_refusal error → before ≤ after → (error ≡ Failed → Rose before after) → (error ≢ Failed → after ≡ before)
    → IsAmong (leavings moment old call) new → EndsPlainly moment old call reply new (before + failed) (after + failed)
refused_ends Missing moment old new call reply before after failed is later rose stay leaves =
    in_want moment old new call reply (before + failed) (after + failed) is leaves (ap (λ n. n + failed) (stay (λ e. cc e)))
refused_ends Failed moment old new call reply before after failed is later rose stay leaves = in_fault moment old new call reply (before + failed) (after + failed) is leaves (rise_part before after failed later (rose refl))
refused_ends NoMemory moment old new call reply before after failed is later rose stay leaves =
    in_want moment old new call reply (before + failed) (after + failed) is leaves (ap (λ n. n + failed) (stay (λ e. cc e)))
