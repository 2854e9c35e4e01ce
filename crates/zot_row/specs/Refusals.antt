-- How a call is answered that can't go on.
use Rattle.zot_contents.specs.declared.pool_reply.PoolReply.{PoolReply}
use Rattle.zot_contents.specs.declared.pool_reply.PoolReply.TheVariants as replies
use Rattle.zot_model.specs.declared.reply.Reply.{Reply}
use Rattle.zot_model.specs.Refusals.{no_memory, storage_fault}
use Rattle.zot_outside.specs.declared.stores.store_error.StoreError.{StoreError}
use Rattle.zot_outside.specs.declared.stores.store_error.StoreError.TheVariants.{Missing, Failed, NoMemory}

-- where a call of the part has an error: the storage failed, or memory ran out
abbrev pub store_refusal : StoreError → Reply
store_refusal Missing = no_memory
store_refusal Failed = storage_fault
store_refusal NoMemory = no_memory

-- where the pool didn't give what it was asked for: the storage failed where a shard did, and else memory ran out
abbrev pub pool_refusal : PoolReply → Reply
pool_refusal replies.Done = no_memory
pool_refusal (replies.Held list) = no_memory
pool_refusal (replies.Size size) = no_memory
pool_refusal (replies.Content bytes) = no_memory
pool_refusal replies.Nothing = no_memory
pool_refusal (replies.Removed was) = no_memory
pool_refusal replies.Failed = storage_fault
pool_refusal replies.NoMemory = no_memory
