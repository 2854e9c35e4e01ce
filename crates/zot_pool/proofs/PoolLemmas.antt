-- What a call on one shard is for the pool.
use Rattle.std.proofs.Common.{◌≡◌, ℕ, zero, suc, ◌+◌, ◌-◌, ◌^◌, ◌≤◌, ◌<◌, min, arith, lit<, Bool, true, false, cond, ◌&&◌, List, [], ◌∷◌, map, length, get_or, set, Option, Some, None, IfSome, IfOk, OnErr, OnOk, is_some, refl, sym, ap, subst, ◌∙◌}
use Rattle.std.specs.Prelude.{Result, Ok, Err, sum, slice_index}
use Rattle.std.specs.List.{All, list_all, slice_get, sum_by}
use Rattle.std.specs.List.Sorted.{IsStrictlySortedBy}
use Rattle.std.specs.Option.{option_flatten}
use Rattle.std.specs.Result.{result_err}
use Rattle.std.proofs.Math.Nat.{mod-lt}
use Rattle.std.proofs.Math.Seq.{map-set_same}
use Rattle.std.proofs.lemmas.Bool.{true≢false}
use Rattle.std.proofs.lemmas.List.{get_or-map, get_or-set_same, length-map, length-set, map-set}
use Rattle.std.proofs.lemmas.List.Elements.{All-get_or, All-set}
use Rattle.std.proofs.lemmas.List.Folds.{list_all_at}
use Rattle.std.proofs.lemmas.List.FromFn.{get_or-range_with_len, length-range_with_len}
use Rattle.std.proofs.lemmas.List.Sums.{get_or-le-sum_by, sum-map, sum_by-set}
use Rattle.std.proofs.lemmas.Option.{slice_get-get_or}
use Rattle.zot_digest.specs.ByteMap.{byte_cmp}
use Rattle.zot_outside.specs.Faults.{HasStoreCause, OnMissing, Rose}
use Rattle.zot_outside.specs.Objects.{Objects, Told}
use Rattle.zot_outside.specs.declared.stores.store.Store.{Ghosts}
use Rattle.zot_outside.specs.declared.stores.store_error.StoreError.{StoreError}
use Rattle.zot_outside.specs.declared.stores.store_error.StoreError.TheVariants as stores
use Rattle.zot_links.specs.Changes.{HasCallsCause}
use Rattle.zot_links.specs.Meaning.{held}
use Rattle.zot_contents.proofs.HolderLemmas.{answer_of_all, listed_of_all}
use Rattle.zot_contents.specs.Holders.{Covers, KeepsOtherShards}
use Rattle.zot_contents.specs.Answers.{HasReplyCause, OnLook}
use Rattle.zot_contents.specs.Holdings.{AreAllHeld, key_of}
use Rattle.zot_contents.specs.Listing.{place_of, places_of}
use Rattle.zot_contents.specs.Pool.{Holders, MayAnswer}
use Rattle.zot_contents.specs.Shards.{AreTight, IsCallOf, IsOfShard, KeepsTight, shard_of, shards}
use Rattle.zot_contents.specs.declared.holding.Holding.{Holding}
use Rattle.zot_contents.specs.declared.pool_call.PoolCall.{PoolCall}
use Rattle.zot_contents.specs.declared.pool_call.PoolCall.TheVariants as calls
use Rattle.zot_contents.specs.declared.pool_reply.PoolReply.{PoolReply}
use Rattle.zot_contents.specs.declared.pool_reply.PoolReply.TheVariants as replies
use Rattle.zot_contents.specs.declared.shard.DigestShard.{DigestShard}
use Rattle.zot_pool.specs.Answers.{pooled}
use Rattle.zot_pool.specs.Pools.{AreDeduped, AreNumbered, AreTightPool, BothHold, ChangesOnly, HasPoolCause, HasReadCause, RoseAt, faults_of, held_of, held_in, holds, objects_of, refusal}
use Rattle.zot_pool.proofs.ListLemmas.{listed_ordered, listed_own}
use Rattle.zot_pool.specs.declared.pool_error.PoolError.{PoolError}

-- ---- lists

pub set_beside : {X : Type 0} (xs : List X) (i : ℕ) (y : X) → ChangesOnly i xs (set xs i y)
set_beside [] i y other apart = refl
set_beside (x ∷ xs) zero y zero apart = absurd (apart refl)
set_beside (x ∷ xs) zero y (suc other) apart = refl
set_beside (x ∷ xs) (suc i) y zero apart = refl
set_beside (x ∷ xs) (suc i) y (suc other) apart = set_beside xs i y other (λ e. apart (ap suc e))

pub set_at : {X : Type 0} (xs : List X) (i : ℕ) (y : X) → i < length xs → slice_get (set xs i y) i ≡ Some y
set_at xs i y within = slice_get-get_or (set xs i y) i y (subst (λ n. i < n) (sym (length-set xs i y)) within) ∙ ap Some (get_or-set_same xs i y y within)

list_all-set : {X : Type 0} (p : X → Bool) (xs : List X) (i : ℕ) (y d : X) → p y ≡ p (get_or xs i d) → list_all p (set xs i y) ≡ list_all p xs
list_all-set p [] i y d same = refl
list_all-set p (x ∷ xs) zero y d same = ap (λ b. b && list_all p xs) same
list_all-set p (x ∷ xs) (suc i) y d same = ap (λ b. p x && b) (list_all-set p xs i y d same)

-- ---- answers

pub pooled_ok : {T : Type 0} (answer : Result T StoreError) (result : Result T PoolError) (P Q : Type 0) → result ≡ pooled answer → (P → Q) → OnOk answer P → OnOk result Q
pooled_ok (Ok x) result P Q is f h = subst (λ r. OnOk r Q) (sym is) (f h)
pooled_ok (Err e) result P Q is f h = subst (λ r. OnOk r Q) (sym is) tt

pub pooled_err : {T : Type 0} (answer : Result T StoreError) (result : Result T PoolError) (P Q : Type 0) → result ≡ pooled answer → (P → Q) → OnErr answer P → OnErr result Q
pooled_err (Ok x) result P Q is f h = subst (λ r. OnErr r Q) (sym is) tt
pooled_err (Err e) result P Q is f h = subst (λ r. OnErr r Q) (sym is) (f h)

pub pooled_each : {T : Type 0} (answer : Result T StoreError) (result : Result T PoolError) (P Q : T → Type 0) → result ≡ pooled answer → ((x : T) → P x → Q x) → IfOk answer P → IfOk result Q
pooled_each (Ok x) result P Q is f h = subst (λ r. IfOk r Q) (sym is) (f x h)
pooled_each (Err e) result P Q is f h = subst (λ r. IfOk r Q) (sym is) tt

-- ---- what is held

none_hold : (a b : Option Holders) (P : Holders → Holders → Type 0) → a ≡ None → b ≡ None → BothHold a b P
none_hold None b P first second = second
none_hold (Some h) b P first second = cc first

all_hold : (one two : Bool) (old new : Holders) (P : Holders → Holders → Type 0) → two ≡ one → P old new → BothHold (cond one (Some old) None) (cond two (Some new) None) P
all_hold true true old new P same h = h
all_hold true false old new P same h = cc same
all_hold false true old new P same h = cc same
all_hold false false old new P same h = refl

holds_none : (parts : List (Option Objects)) (i : ℕ) → i < length parts → None ≡ get_or parts i None → holds parts ≡ None
holds_none parts i within none = ap (λ b. cond b (Some (held_in parts)) None) (list_all_at is_some parts i None within (ap is_some (sym none)))

-- what is held by all parts is, under the digests of one shard, what its part holds
pub part_covers : (parts : List (Option Objects)) (i : ℕ) (told : Objects) → slice_get parts i ≡ Some (Some told) → Covers i (held told) (held_in parts)
part_covers parts i told is digest own = ap (λ n. held_of (option_flatten (slice_get parts n)) digest) own.1 ∙ ap (λ p. held_of (option_flatten p) digest) is

pub parts_keep : (old new : List (Option Objects)) (i : ℕ) → ChangesOnly i old new → KeepsOtherShards i (held_in old) (held_in new)
parts_keep old new i changes digest is not = ap (λ p. held_of (option_flatten p) digest) (changes (shard_of digest) (λ same. not (is, same)))

module _ (parts : List (Option Objects)) (i : ℕ) (within : i < length parts) (P : Holders → Holders → Type 0) (Q : Objects → Objects → Type 0) where
  parts_told : (before after : Option Objects) → before ≡ get_or parts i before → Told before after Q
      → ((old new : Objects) → Covers i (held old) (held_in parts) → Covers i (held new) (held_in (set parts i after)) → KeepsOtherShards i (held_in parts) (held_in (set parts i after)) → Q old new → P (held_in parts) (held_in (set parts i after)))
      → BothHold (holds parts) (holds (set parts i after)) P
  parts_told None after is told all =
      none_hold (holds parts) (holds (set parts i after)) P (holds_none parts i within is)
      (holds_none (set parts i after) i (subst (λ n. i < n) (sym (length-set parts i after)) within) (sym told ∙ sym (get_or-set_same parts i after None within)))
  parts_told (Some old) None is told all = absurd told
  parts_told (Some old) (Some new) is told all =
      all_hold (list_all is_some parts) (list_all is_some (set parts i (Some new))) (held_in parts) (held_in (set parts i (Some new))) P
      (list_all-set is_some parts i (Some new) (Some old) (ap is_some is))
      (all old new (part_covers parts i old (slice_get-get_or parts i (Some old) within ∙ ap Some (sym is)))
      (part_covers (set parts i (Some new)) i new (set_at parts i (Some new) within)) (parts_keep parts (set parts i (Some new)) i (set_beside parts i (Some new))) told)

-- a fact of what is held, where all parts tell
where_told : (all : Bool) (holders : Holders) (P : Holders → Type 0) → (all ≡ true → P holders) → IfSome (cond all (Some holders) None) P
where_told true holders P h = h refl
where_told false holders P h = tt

-- what is told of one part is told of the pool
told_where : (parts : List (Option Objects)) (i : ℕ) → i < length parts → (P : Holders → Type 0) (Q : Objects → Type 0) → ((old : Objects) → Covers i (held old) (held_in parts) → Q old → P (held_in parts))
    → (here : Option Objects) → here ≡ get_or parts i here → IfSome here Q → IfSome (holds parts) P
told_where parts i within P Q so None is told =
    where_told (list_all is_some parts) (held_in parts) P (λ all. absurd (true≢false (sym all ∙ list_all_at is_some parts i None within (ap is_some (sym is)))))
told_where parts i within P Q so (Some old) is told =
    where_told (list_all is_some parts) (held_in parts) P (λ _. so old (part_covers parts i old (slice_get-get_or parts i (Some old) within ∙ ap Some (sym is))) told)

-- ---- counts

rose_all : (a b s t m : ℕ) → a ≤ s → a ≤ b → t + a ≡ s + b → min (a + 1) m ≤ b → min (s + 1) m ≤ t
rose_all a b s t m part later sums rose = omega arith

-- ---- a call on one shard

pub number_within : {S : Type 0} {G : Ghosts S} (xs : List (DigestShard S G)) (i : ℕ) → AreNumbered xs → i < shards → i < length xs
number_within xs i numbered below = subst (λ n. i < n) (sym (sym (length-map xs (λ s. s.number)) ∙ ap length numbered ∙ length-range_with_len 0 shards)) below

-- the shard of a digest is one of them
pub of_shard_within : {S : Type 0} {G : Ghosts S} (xs : List (DigestShard S G)) (i : ℕ) (digest : List ℕ) → AreNumbered xs → IsOfShard i digest → i < length xs
of_shard_within xs i digest numbered own = number_within xs i numbered (subst (λ n. n < shards) own.1 (mod-lt (slice_index digest 0) {m = shards} (lit< tt)))

module _ {S : Type 0} {G : Ghosts S} (xs : List (DigestShard S G)) (i : ℕ) (x y : DigestShard S G) (within : i < length xs) (is : x ≡ get_or xs i x) where
  abbrev objects : DigestShard S G → Option Objects
  objects s = G.objects s.part

  abbrev faults : DigestShard S G → ℕ
  faults s = G.faults s.part

  -- it has the number of its place
  pub number_is : AreNumbered xs → x.number ≡ i
  number_is numbered =
      ap (λ s. s.number) is ∙ sym (get_or-map (λ s. s.number) xs i x 0 within) ∙ ap (λ l. get_or l i 0) numbered
      ∙ get_or-range_with_len 0 shards i 0 (subst (λ n. i < n) (sym (length-map xs (λ s. s.number)) ∙ ap length numbered ∙ length-range_with_len 0 shards) within)
      ∙ omega arith

  -- a digest of its number is one of the shard's own
  pub is_its_own : (digest : List ℕ) → AreNumbered xs → IsOfShard i digest → IsOfShard x.number digest
  is_its_own digest numbered own = (own.0, own.1 ∙ sym (number_is numbered))

  pub still_numbered : AreNumbered xs → y.number ≡ x.number → AreNumbered (set xs i y)
  still_numbered numbered same = map-set_same (λ s. s.number) xs i y x (same ∙ ap (λ s. s.number) is) ∙ numbered

  -- what is told of its part is told of the pool
  pub both_hold : (P : Holders → Holders → Type 0) (Q : Objects → Objects → Type 0) → Told (objects x) (objects y) Q
      → ((old new : Objects) (before after : Holders) → Covers i (held old) before → Covers i (held new) after → KeepsOtherShards i before after → Q old new → P before after)
      → BothHold (holds (objects_of xs)) (holds (objects_of (set xs i y))) P
  both_hold P Q told all =
      let at : objects x ≡ get_or (map objects xs) i (objects x) = ap objects is ∙ sym (get_or-map objects xs i x (objects x) within) in
      subst (λ parts. BothHold (holds (map objects xs)) (holds parts) P) (sym (map-set objects xs i y))
      (parts_told (map objects xs) i (subst (λ n. i < n) (sym (length-map xs objects)) within) P Q (objects x) (objects y) at told
      (λ old new covers then_covers others q. all old new (held_in (map objects xs)) (held_in (set (map objects xs) i (objects y))) covers then_covers others q))

  pub objects_kept : objects y ≡ objects x → objects_of (set xs i y) ≡ objects_of xs
  objects_kept same = map-set_same objects xs i y x (same ∙ ap objects is)

  pub faults_kept : faults y ≡ faults x → faults_of (set xs i y) ≡ faults_of xs
  faults_kept same = map-set_same faults xs i y x (same ∙ ap faults is)

  pub at_old : slice_index (faults_of xs) i ≡ faults x
  at_old = get_or-map faults xs i x 0 within ∙ ap faults (sym is)

  pub at_new : slice_index (faults_of (set xs i y)) i ≡ faults y
  at_new = get_or-map faults (set xs i y) i x 0 (subst (λ n. i < n) (sym (length-set xs i y)) within) ∙ ap faults (get_or-set_same xs i y x within)

  sums : sum (faults_of (set xs i y)) + faults x ≡ sum (faults_of xs) + faults y
  sums =
      ap (λ n. n + faults x) (sum-map faults (set xs i y)) ∙ ap (λ s. sum_by faults (set xs i y) + faults s) is ∙ sum_by-set faults xs i y x within
      ∙ ap (λ n. n + faults y) (sym (sum-map faults xs))

  part_of_sum : faults x ≤ sum (faults_of xs)
  part_of_sum = subst (λ n. faults x ≤ n) (sym (sum-map faults xs)) (subst (λ s. faults s ≤ sum_by faults xs) (sym is) (get_or-le-sum_by faults xs i x within))

  rose_at : faults x ≤ faults y → Rose (faults x) (faults y) → RoseAt i (faults_of xs) (faults_of (set xs i y))
  rose_at later rose = record {
    here = subst (λ n. Rose n (slice_index (faults_of (set xs i y)) i)) (sym at_old) (subst (λ n. Rose (faults x) n) (sym at_new) rose);
    whole = rose_all (faults x) (faults y) (sum (faults_of xs)) (sum (faults_of (set xs i y))) (2 ^ 64 - 1) part_of_sum later sums rose;
  }

  here_later : faults x ≤ faults y → slice_index (faults_of xs) i ≤ slice_index (faults_of (set xs i y)) i
  here_later later = subst (λ n. n ≤ slice_index (faults_of (set xs i y)) i) (sym at_old) (subst (λ n. faults x ≤ n) (sym at_new) later)

  all_later : faults x ≤ faults y → sum (faults_of xs) ≤ sum (faults_of (set xs i y))
  all_later later = omega (arith, later, sums)

  pooled_cause : {T : Type 0} (answer : Result T StoreError) → OnMissing answer ⊥ → HasCallsCause (faults x) (faults y) answer → HasPoolCause i (faults_of xs) (faults_of (set xs i y)) (result_err (pooled answer))
  pooled_cause (Ok v) missing cause = record { later = here_later cause.later; whole = all_later cause.later; failed = tt; quiet = tt }
  pooled_cause (Err stores.Missing) missing cause = absurd missing
  pooled_cause (Err stores.Failed) missing cause = record { later = here_later cause.later; whole = all_later cause.later; failed = rose_at cause.later cause.failed; quiet = tt }
  pooled_cause (Err stores.NoMemory) missing cause = record { later = here_later cause.later; whole = all_later cause.later; failed = tt; quiet = faults_kept cause.quiet }

  pub calls_cause : {T : Type 0} (answer : Result T StoreError) (result : Result T PoolError) → result ≡ pooled answer → OnMissing answer ⊥ → HasCallsCause (faults x) (faults y) answer
      → HasPoolCause i (faults_of xs) (faults_of (set xs i y)) (result_err result)
  calls_cause answer result is_pooled missing cause =
      subst (λ r. HasPoolCause i (faults_of xs) (faults_of (set xs i y)) (result_err r)) (sym is_pooled) (pooled_cause answer missing cause)

  pooled_read : {T : Type 0} (answer : Result T StoreError) → OnMissing answer ⊥ → HasStoreCause (faults x) (faults y) answer → HasReadCause i (faults_of xs) (faults_of (set xs i y)) (result_err (pooled answer))
  pooled_read (Ok v) missing cause = record { cause = record { later = here_later cause.later; whole = all_later cause.later; failed = tt; quiet = tt }; kept = faults_kept cause.kept }
  pooled_read (Err stores.Missing) missing cause = absurd missing
  pooled_read (Err stores.Failed) missing cause = record { cause = record { later = here_later cause.later; whole = all_later cause.later; failed = rose_at cause.later cause.failed; quiet = tt }; kept = tt }
  pooled_read (Err stores.NoMemory) missing cause = record {
    cause = record { later = here_later cause.later; whole = all_later cause.later; failed = tt; quiet = faults_kept cause.kept };
    kept = faults_kept cause.kept;
  }

  pub read_cause : {T : Type 0} (answer : Result T StoreError) (result : Result T PoolError) → result ≡ pooled answer → OnMissing answer ⊥ → HasStoreCause (faults x) (faults y) answer
      → HasReadCause i (faults_of xs) (faults_of (set xs i y)) (result_err result)
  read_cause answer result is_pooled missing cause = subst (λ r. HasReadCause i (faults_of xs) (faults_of (set xs i y)) (result_err r)) (sym is_pooled) (pooled_read answer missing cause)

  -- equal bytes stay one object
  pub still_deduped : y.dedupe ≡ x.dedupe → AreDeduped xs → AreDeduped (set xs i y)
  still_deduped same deduped = All-set (λ s. s.dedupe ≡ true) xs i y (same ∙ ap (λ s. s.dedupe) is ∙ All-get_or (λ s. s.dedupe ≡ true) xs i x within deduped) deduped

  shard_tight : (before after : Option Objects) (P Q : Objects → Type 0) → Told before after (λ old new. P old → Q new) → IfSome before P → IfSome after Q
  shard_tight None after P Q told tight = subst (λ o. IfSome o Q) (sym told) tt
  shard_tight (Some old) None P Q told tight = absurd told
  shard_tight (Some old) (Some new) P Q told tight = told tight

  pub still_tight : KeepsTight x.dedupe x.number (objects x) x.digests (objects y) y.digests → y.number ≡ x.number → AreDeduped xs → AreTightPool xs → AreTightPool (set xs i y)
  still_tight keeps same deduped tight =
      All-set (λ s. IfSome (objects s) (λ told. AreTight told s.number s.digests)) xs i y
      (subst (λ n. IfSome (objects y) (λ told. AreTight told n y.digests)) (sym same)
      (shard_tight (objects x) (objects y) (λ told. AreTight told x.number x.digests) (λ told. AreTight told x.number y.digests)
      (keeps (ap (λ s. s.dedupe) is ∙ All-get_or (λ s. s.dedupe ≡ true) xs i x within deduped))
      (subst (λ s. IfSome (objects s) (λ told. AreTight told s.number s.digests)) (sym is) (All-get_or (λ s. IfSome (objects s) (λ told. AreTight told s.number s.digests)) xs i x within tight))))
      tight

  -- ---- a call that reads

  pub told_there : (P : Holders → Type 0) (Q : Objects → Type 0) → ((old : Objects) (holders : Holders) → Covers i (held old) holders → Q old → P holders) → IfSome (objects x) Q → IfSome (holds (objects_of xs)) P
  told_there P Q so told =
      told_where (map objects xs) i (subst (λ n. i < n) (sym (length-map xs objects)) within) P Q (λ old covers q. so old (held_in (map objects xs)) covers q) (objects x)
      (ap objects is ∙ sym (get_or-map objects xs i x (objects x) within)) told

  -- what is read of the part is what the pool holds
  pub read_held : (digest name : List ℕ) (found : Option (List ℕ)) → IsOfShard i digest → IfSome (objects x) (λ told. found ≡ held told digest name) → IfSome (holds (objects_of xs)) (λ holders. found ≡ holders digest name)
  read_held digest name found own told =
      told_there (λ holders. found ≡ holders digest name) (λ told. found ≡ held told digest name) (λ old holders covers q. q ∙ ap (λ h. h name) (sym (covers digest own))) told

  -- what is listed of it, the pool holds
  pub list_held : (list : List Holding) → AreNumbered xs → IfSome (objects x) (λ told. AreAllHeld x.number (held told) list) → IfSome (holds (objects_of xs)) (λ holders. AreAllHeld i holders list)
  list_held list numbered told =
      told_there (λ holders. AreAllHeld i holders list) (λ told. AreAllHeld i (held told) list) (λ old holders covers all. listed_of_all i (held old) holders covers list all)
      (subst (λ n. IfSome (objects x) (λ told. AreAllHeld n (held told) list)) (number_is numbered) told)

  pub read_tight : objects y ≡ objects x → y.digests ≡ x.digests → y.number ≡ x.number → AreTightPool xs → AreTightPool (set xs i y)
  read_tight kept digests number tight =
      All-set (λ s. IfSome (objects s) (λ told. AreTight told s.number s.digests)) xs i y
      (subst (λ o. IfSome o (λ told. AreTight told y.number y.digests)) (sym kept)
      (subst (λ n. IfSome (objects x) (λ told. AreTight told n y.digests)) (sym number)
      (subst (λ d. IfSome (objects x) (λ told. AreTight told x.number d)) (sym digests)
      (subst (λ s. IfSome (objects s) (λ told. AreTight told s.number s.digests)) (sym is) (All-get_or (λ s. IfSome (objects s) (λ told. AreTight told s.number s.digests)) xs i x within tight)))))
      tight

  -- ---- any call

  pub step_answer : (call : PoolCall) (reply : PoolReply) → AreNumbered xs → IsCallOf i call
      → Told (objects x) (objects y) (λ old new. MayAnswer x.number (record { held = held old; faults = faults x }) call reply (record { held = held new; faults = faults y }))
      → BothHold (holds (objects_of xs)) (holds (objects_of (set xs i y))) (λ old new. MayAnswer i (record { held = old; faults = slice_index (faults_of xs) i }) call reply (record { held = new; faults = slice_index (faults_of (set xs i y)) i }))
  step_answer call reply numbered own told =
      both_hold (λ old new. MayAnswer i (record { held = old; faults = slice_index (faults_of xs) i }) call reply (record { held = new; faults = slice_index (faults_of (set xs i y)) i }))
      (λ old new. MayAnswer x.number (record { held = held old; faults = faults x }) call reply (record { held = held new; faults = faults y })) told
      (λ old new before after covers then_covers others answer.
      subst (λ m. MayAnswer i (record { held = before; faults = m }) call reply (record { held = after; faults = slice_index (faults_of (set xs i y)) i })) (sym at_old)
      (subst (λ m. MayAnswer i (record { held = before; faults = faults x }) call reply (record { held = after; faults = m })) (sym at_new)
      (answer_of_all i (held old) (held new) before after (faults x) (faults y) call reply covers then_covers others own
      (subst (λ n. MayAnswer n (record { held = held old; faults = faults x }) call reply (record { held = held new; faults = faults y })) (number_is numbered) answer))))

  pub step_cause : (reply : PoolReply) → HasReplyCause (faults x) (faults y) reply → HasPoolCause i (faults_of xs) (faults_of (set xs i y)) (refusal reply)
  step_cause replies.Failed cause = record { later = here_later cause.later; whole = all_later cause.later; failed = rose_at cause.later cause.failed; quiet = tt }
  step_cause replies.NoMemory cause = record { later = here_later cause.later; whole = all_later cause.later; failed = tt; quiet = faults_kept cause.quiet }
  step_cause replies.Done cause = record { later = here_later cause.later; whole = all_later cause.later; failed = tt; quiet = tt }
  step_cause (replies.Held holdings) cause = record { later = here_later cause.later; whole = all_later cause.later; failed = tt; quiet = tt }
  step_cause (replies.Size size) cause = record { later = here_later cause.later; whole = all_later cause.later; failed = tt; quiet = tt }
  step_cause (replies.Content bytes) cause = record { later = here_later cause.later; whole = all_later cause.later; failed = tt; quiet = tt }
  step_cause replies.Nothing cause = record { later = here_later cause.later; whole = all_later cause.later; failed = tt; quiet = tt }
  step_cause (replies.Removed was) cause = record { later = here_later cause.later; whole = all_later cause.later; failed = tt; quiet = tt }

  pub step_looks : (call : PoolCall) → OnLook call (objects y ≡ objects x) → OnLook call (objects_of (set xs i y) ≡ objects_of xs)
  step_looks calls.Holdings same = objects_kept same
  step_looks (calls.Attach name digest bytes) same = tt
  step_looks (calls.Mount name from digest) same = tt
  step_looks (calls.Read name digest) same = objects_kept same
  step_looks (calls.Detach name digest) same = tt

  -- ---- a list of what is held, also where nothing is told

  pub list_own : (list : List Holding) → AreNumbered xs → map place_of list ≡ places_of x.digests → All (λ h. IsOfShard i h.digest) list
  list_own list numbered is_list = subst (λ n. All (λ h. IsOfShard n h.digest) list) (number_is numbered) (listed_own x.number x.digests x.own list is_list)

  pub list_ordered : (list : List Holding) → map place_of list ≡ places_of x.digests → IsStrictlySortedBy byte_cmp (map key_of list)
  list_ordered list is_list = listed_ordered x.number x.digests list x.own is_list
