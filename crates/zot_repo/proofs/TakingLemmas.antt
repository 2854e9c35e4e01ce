-- What the plain pool answers, seen by a row.
use Rattle.std.proofs.Common.{◌≡◌, inl, inr, ℕ, List, length, Option, Some, None, IfSome, is_some, refl, sym, ap, subst, ◌∙◌}
use Rattle.std.proofs.lemmas.Slice.Eq.{bytes_eq-Decides}
use Rattle.sha2.specs.Sha256.{sha256}
use Rattle.zot_contents.proofs.HolderLemmas.{sound_bytes, with_bytes_beside, with_bytes_here}
use Rattle.zot_contents.specs.Holders.{digest_in, name_in}
use Rattle.zot_contents.specs.Pool.{AreSame, Gives, Holders, IsPlain, MayAnswer, content_of, if_sound, mount_of, plain_attach, plain_detach, with_bytes}
use Rattle.zot_contents.specs.declared.pool_call.PoolCall.{PoolCall}
use Rattle.zot_contents.specs.declared.pool_call.PoolCall.TheVariants as pool
use Rattle.zot_contents.specs.declared.pool_reply.PoolReply.{PoolReply}
use Rattle.zot_contents.specs.declared.pool_reply.PoolReply.TheVariants as replies
use Rattle.zot_digest.specs.Digest.{IsDigest}
use Rattle.zot_names.specs.Name.{IsName}
use Rattle.zot_repo.proofs.RowLemmas.{under_digest, under_same, under_same_at}
use Rattle.zot_repo.specs.Rows.{TakesRow, under}
use Rattle.zot_row.specs.Turns.{Takes}
use Rattle.zot_table.specs.Standing.{AreEqual, Sets}

module _ (Own : List ℕ → Type 0) (named : (name : List ℕ) → Own name → IsName name) (held behind : Holders) where
  -- ---- the same is held

  stays : AreSame held behind → (name : List ℕ) → IsName name → AreEqual (under held name) (under behind name)
  stays same name is = under_same held behind name (λ digest d. same digest name d is)

  takes_same : (name : List ℕ) (answered : PoolReply) (asked : PoolCall) → IsName name → AreSame held behind → (AreEqual (under held name) (under behind name) → Takes answered asked (under held name) (under behind name))
      → TakesRow Own name answered asked held behind
  takes_same name answered asked is same takes = record { here = takes (stays same name is); others = λ other own _. stays same other (named other own) }

  -- ---- one place is set

  module _ (name digest : List ℕ) (is : IsName name) (of : IsDigest digest) (found : Option (List ℕ)) (same : AreSame (with_bytes held digest name found) behind) where
    set_here : Sets (under held name) digest found (under behind name)
    set_here = record {
      here = under_digest behind name digest of ∙ same digest name of is ∙ with_bytes_here held digest name found;
      others = λ other apart. under_same_at held behind name other (λ d. same other name d is ∙ with_bytes_beside held digest name found other name (inl apart));
    }

    takes_set : (answered : PoolReply) (asked : PoolCall) → Takes answered asked (under held name) (under behind name) → TakesRow Own name answered asked held behind
    takes_set answered asked takes = record {
      here = takes;
      others = λ other own apart. under_same held behind other (λ d isd. same d other isd (named other own) ∙ with_bytes_beside held digest name found d other (inr apart));
    }

  -- ---- the calls

  takes_attach : (name digest bytes : List ℕ) (answered : PoolReply) → IsName name → IsDigest digest → Gives (plain_attach held name digest bytes) answered behind → TakesRow Own name answered (pool.Attach name digest bytes) held behind
  takes_attach name digest bytes answered is of h =
      subst (λ a. TakesRow Own name a (pool.Attach name digest bytes) held behind) (sym h.reply_is)
      (takes_set name digest is of (Some bytes) h.held_is replies.Done (pool.Attach name digest bytes) (set_here name digest is of (Some bytes) h.held_is))

  takes_mount : (name from digest : List ℕ) (answered : PoolReply) (found : Option (List ℕ)) → IsName name → IsDigest digest → if_sound digest (held digest from) ≡ found → Gives (mount_of held name digest found) answered behind
      → TakesRow Own name answered (pool.Mount name from digest) held behind
  takes_mount name from digest answered None is of has h =
      subst (λ a. TakesRow Own name a (pool.Mount name from digest) held behind) (sym h.reply_is) (takes_same name replies.Nothing (pool.Mount name from digest) is h.held_is (λ same. (tt, same)))
  takes_mount name from digest answered (Some bytes) is of has h =
      subst (λ a. TakesRow Own name a (pool.Mount name from digest) held behind) (sym h.reply_is)
      (takes_set name digest is of (Some bytes) h.held_is (replies.Size (length bytes)) (pool.Mount name from digest) (record {
        bytes = bytes;
        sound = (bytes_eq-Decides digest (sha256 bytes)).0 (sound_bytes digest (held digest from) bytes has);
        long = refl;
        sets = set_here name digest is of (Some bytes) h.held_is;
      }))

  takes_read : (name digest : List ℕ) (answered : PoolReply) (found : Option (List ℕ)) → IsName name → IsDigest digest → held digest name ≡ found → answered ≡ content_of found → AreSame held behind → TakesRow Own name answered (pool.Read name digest) held behind
  takes_read name digest answered None is of has gives same =
      subst (λ a. TakesRow Own name a (pool.Read name digest) held behind) (sym gives)
      (takes_same name replies.Nothing (pool.Read name digest) is same (λ equal. (under_digest held name digest of ∙ has, equal)))
  takes_read name digest answered (Some bytes) is of has gives same =
      subst (λ a. TakesRow Own name a (pool.Read name digest) held behind) (sym gives)
      (takes_same name (replies.Content bytes) (pool.Read name digest) is same (λ equal. (under_digest held name digest of ∙ has, equal)))

  takes_detach : (name digest : List ℕ) (answered : PoolReply) → IsName name → IsDigest digest → Gives (plain_detach held name digest) answered behind → TakesRow Own name answered (pool.Detach name digest) held behind
  takes_detach name digest answered is of h =
      subst (λ a. TakesRow Own name a (pool.Detach name digest) held behind) (sym h.reply_is)
      (takes_set name digest is of None h.held_is (replies.Removed (is_some (held digest name))) (pool.Detach name digest)
      (ap is_some (sym (under_digest held name digest of)), set_here name digest is of None h.held_is))

  -- ---- any of them

  plain_takes : (number : ℕ) (asked : PoolCall) (answered : PoolReply) → IfSome (digest_in asked) IsDigest → IsPlain number held asked answered behind → IfSome (name_in asked) (λ name. IsName name → TakesRow Own name answered asked held behind)
  unfolding IsPlain
  plain_takes number pool.Holdings answered of h = tt
  plain_takes number (pool.Attach name digest bytes) answered of h = λ is. takes_attach name digest bytes answered is of h
  plain_takes number (pool.Mount name from digest) answered of h = λ is. takes_mount name from digest answered (if_sound digest (held digest from)) is of refl h
  plain_takes number (pool.Read name digest) answered of h = λ is. takes_read name digest answered (held digest name) is of refl h.reply_is h.held_is
  plain_takes number (pool.Detach name digest) answered of h = λ is. takes_detach name digest answered is of h

  pub pool_takes : (number before after : ℕ) (name : List ℕ) (asked : PoolCall) (answered : PoolReply) → IsName name → name_in asked ≡ Some name → IfSome (digest_in asked) IsDigest
      → MayAnswer number (record { held = held; faults = before }) asked answered (record { held = behind; faults = after }) → TakesRow Own name answered asked held behind
  pool_takes number before after name asked answered is on of (inl h) = subst (λ n. IfSome n (λ k. IsName k → TakesRow Own k answered asked held behind)) on (plain_takes number asked answered of h.plain) is
  pool_takes number before after name asked answered is on of (inr (inl h)) =
      subst (λ a. TakesRow Own name a asked held behind) (sym h.reply_is) (takes_same name replies.NoMemory asked is h.held (λ equal. equal))
  pool_takes number before after name asked answered is on of (inr (inr h)) =
      subst (λ a. TakesRow Own name a asked held behind) (sym h.reply_is) (takes_same name replies.Failed asked is h.held (λ equal. equal))
