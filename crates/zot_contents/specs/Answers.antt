-- Answers of the calls of a shard as answers of the pool, and why each is given.
use Rattle.std.specs.Prelude.{◌≡◌, ℕ, ◌≤◌, List, Result, Ok, Err, ⊤}
use Rattle.zot_outside.specs.Faults.{Rose}
use Rattle.zot_outside.specs.declared.stores.store_error.StoreError.{StoreError}
use Rattle.zot_outside.specs.declared.stores.store_error.StoreError.TheVariants.{Missing, Failed, NoMemory}
use Rattle.zot_contents.specs.declared.holding.Holding.{Holding}
use Rattle.zot_contents.specs.declared.pool_call.PoolCall.{PoolCall}
use Rattle.zot_contents.specs.declared.pool_call.PoolCall.TheVariants as calls
use Rattle.zot_contents.specs.declared.pool_reply.PoolReply.{PoolReply}
use Rattle.zot_contents.specs.declared.pool_reply.PoolReply.TheVariants as replies

-- the answer of the pool to an error of the store, of which a missing object is none that is answered
abbrev pub Refuses : StoreError → PoolReply → Type 0
Refuses Missing reply = ⊥
Refuses Failed reply = reply ≡ replies.Failed
Refuses NoMemory reply = reply ≡ replies.NoMemory

-- the answer of the pool to what a call gives: this one where it gives something, and else that to its error
abbrev pub Replies : {T : Type 0} → (T → PoolReply) → Result T StoreError → PoolReply → Type 0
Replies reply_of (Ok x) reply = reply ≡ reply_of x
Replies reply_of (Err error) reply = Refuses error reply

-- a fact for an error that isn't a missing object
abbrev pub OnMissed : StoreError → Type 0 → Type 0
OnMissed Missing P = P
OnMissed Failed P = ⊤
OnMissed NoMemory P = ⊤

-- a fact where the answer is that the store failed
abbrev pub OnReplyFailed : PoolReply → Type 0 → Type 0
OnReplyFailed replies.Done P = ⊤
OnReplyFailed (replies.Held list) P = ⊤
OnReplyFailed (replies.Size size) P = ⊤
OnReplyFailed (replies.Content bytes) P = ⊤
OnReplyFailed replies.Nothing P = ⊤
OnReplyFailed (replies.Removed was) P = ⊤
OnReplyFailed replies.Failed P = P
OnReplyFailed replies.NoMemory P = ⊤

-- a fact where the answer is that memory ran out
abbrev pub OnReplyNoMemory : PoolReply → Type 0 → Type 0
OnReplyNoMemory replies.Done P = ⊤
OnReplyNoMemory (replies.Held list) P = ⊤
OnReplyNoMemory (replies.Size size) P = ⊤
OnReplyNoMemory (replies.Content bytes) P = ⊤
OnReplyNoMemory replies.Nothing P = ⊤
OnReplyNoMemory (replies.Removed was) P = ⊤
OnReplyNoMemory replies.Failed P = ⊤
OnReplyNoMemory replies.NoMemory P = P

-- a fact of a list that is answered
abbrev pub OnHeld : PoolReply → (List Holding → Type 0) → Type 0
OnHeld replies.Done P = ⊤
OnHeld (replies.Held list) P = P list
OnHeld (replies.Size size) P = ⊤
OnHeld (replies.Content bytes) P = ⊤
OnHeld replies.Nothing P = ⊤
OnHeld (replies.Removed was) P = ⊤
OnHeld replies.Failed P = ⊤
OnHeld replies.NoMemory P = ⊤

-- the store's count of faults never falls, rose where the answer is that it failed, and stayed where it is that memory ran out; behind the call that decides, calls may have failed whatever is answered
pub record HasReplyCause (before after : ℕ) (reply : PoolReply) : Type 0 where
  pub later : before ≤ after
  pub failed : OnReplyFailed reply (Rose before after)
  pub quiet : OnReplyNoMemory reply (after ≡ before)

-- a fact of a call that only looks
abbrev pub OnLook : PoolCall → Type 0 → Type 0
OnLook calls.Holdings P = P
OnLook (calls.Attach name digest bytes) P = ⊤
OnLook (calls.Mount name from digest) P = ⊤
OnLook (calls.Read name digest) P = P
OnLook (calls.Detach name digest) P = ⊤
