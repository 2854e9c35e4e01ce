-- A pool that is opened part by part.
use Rattle.std.proofs.Common.{◌≡◌, ℕ, zero, suc, ◌+◌, ◌<◌, arith, inl, inr, Bool, true, List, [], ◌∷◌, ◌++◌, append-nil, map, length, take, drop, get_or, Option, Some, None, IfSome, option_map, refl, sym, ap, subst, ◌∙◌}
use Rattle.std.specs.List.{AllByRecursion, range_with_len, remove}
use Rattle.std.specs.Option.{option_flatten}
use Rattle.std.proofs.Math.Seq.{drop-cons}
use Rattle.std.proofs.lemmas.List.{length-append, take_more}
use Rattle.std.proofs.lemmas.List.Elements.{All-from_recursion, All-get_or}
use Rattle.std.proofs.lemmas.Option.{slice_get-map, slice_get_cases}
use Rattle.std.proofs.lemmas.Simd.{map-map}
use Rattle.zot_outside.specs.Objects.{Objects}
use Rattle.zot_outside.specs.declared.stores.store.Store.{Ghosts}
use Rattle.zot_contents.proofs.ShardLemmas.{tight_tree}
use Rattle.zot_contents.specs.Opening.{HasFaultCause, HaveMeaning, IsFirstBad, OnBadMeta}
use Rattle.zot_contents.specs.Shards.{AllStand, AreTight, IsTightTree, Kept, shards}
use Rattle.zot_contents.specs.declared.layout_fault.LayoutFault.{LayoutFault}
use Rattle.zot_contents.specs.declared.layout_fault.LayoutFault.TheVariants as faults
use Rattle.zot_contents.specs.declared.shard.DigestShard.{DigestShard}
use Rattle.zot_pool.proofs.PoolLemmas.{number_is}
use Rattle.zot_pool.proofs.SeamLemmas.{others_stay, part_before, part_here, risen_here, seen_after, seen_before, stops_within}
use Rattle.zot_pool.specs.Opening.{AllHaveMeaning, AreOpened, AreTightTrees, HasOpenCause, IsFirstBadPart, IsOpened, OnBadRecord, StopsAt, open_error}
use Rattle.zot_pool.specs.Pools.{AreDeduped, AreNumbered, AreTightPool, faults_of, objects_of, part_at}
use Rattle.zot_pool.specs.declared.pool_open_error.PoolOpenError.{PoolOpenError}

-- ---- lists

-- the first of what is left, and the rest
pub first_left : {X : Type 0} (xs left rest : List X) (x : X) (k : ℕ) → k < length xs → left ≡ drop k xs → x ≡ get_or left 0 x → rest ≡ remove left 0 → (x ≡ get_or xs k x) × (rest ≡ drop (suc k) xs)
first_left {X} xs left rest x k within is first removed =
    let all : left ≡ get_or xs k x ∷ drop (suc k) xs = is ∙ drop-cons xs k x within in (
      first ∙ ap (λ (l : List X). get_or l 0 x) all,
      removed ∙ ap (λ (l : List X). remove l 0) all,
    )

pub one_taken : {X : Type 0} (xs : List X) (x : X) (k : ℕ) → k < length xs → x ≡ get_or xs k x → take (k + 1) xs ≡ take k xs ++ (x ∷ [])
one_taken xs x k within is = take_more xs k x within ∙ ap (λ y. take k xs ++ (y ∷ [])) (sym is)

pub split_at : {X : Type 0} (xs : List X) (x : X) (k : ℕ) → k < length xs → x ≡ get_or xs k x → xs ≡ take k xs ++ (x ∷ drop (suc k) xs)
split_at [] x k within is = absurd (omega arith)
split_at (y ∷ xs) x zero within is = ap (λ z. z ∷ xs) (sym is)
split_at (y ∷ xs) x (suc k) within is = ap (λ l. y ∷ l) (split_at xs x k (omega arith) is)

-- ---- one shard more

module _ {S : Type 0} {G : Ghosts S} (dedupe : Bool) where
  pub opened_long : (n : ℕ) (parts : List S) (owned : List (DigestShard S G)) → AreOpened dedupe n parts owned → length owned ≡ length parts
  opened_long n [] [] h = refl
  opened_long n [] (s ∷ owned) h = absurd h
  opened_long n (p ∷ parts) [] h = absurd h
  opened_long n (p ∷ parts) (s ∷ owned) h = ap suc (opened_long (n + 1) parts owned h.1)

  pub opened_more : (n : ℕ) (parts : List S) (owned : List (DigestShard S G)) (part : S) (shard : DigestShard S G) → AreOpened dedupe n parts owned → IsOpened dedupe (n + length parts) part shard
      → AreOpened dedupe n (parts ++ (part ∷ [])) (owned ++ (shard ∷ []))
  opened_more n [] [] part shard h is = (subst (λ k. IsOpened dedupe k part shard) (omega arith) is, tt)
  opened_more n [] (s ∷ owned) part shard h is = absurd h
  opened_more n (p ∷ parts) [] part shard h is = absurd h
  opened_more n (p ∷ parts) (s ∷ owned) part shard h is = (h.0, opened_more (n + 1) parts owned part shard h.1 (subst (λ k. IsOpened dedupe k part shard) (omega arith) is))

  -- ---- what the shards are, all together

  pub opened_objects : (n : ℕ) (parts : List S) (owned : List (DigestShard S G)) → AreOpened dedupe n parts owned → objects_of owned ≡ map G.objects parts
  opened_objects n [] [] h = refl
  opened_objects n [] (s ∷ owned) h = absurd h
  opened_objects n (p ∷ parts) [] h = absurd h
  opened_objects n (p ∷ parts) (s ∷ owned) h = λ i. h.0.objects i ∷ opened_objects (n + 1) parts owned h.1 i

  pub opened_faults : (n : ℕ) (parts : List S) (owned : List (DigestShard S G)) → AreOpened dedupe n parts owned → faults_of owned ≡ map G.faults parts
  opened_faults n [] [] h = refl
  opened_faults n [] (s ∷ owned) h = absurd h
  opened_faults n (p ∷ parts) [] h = absurd h
  opened_faults n (p ∷ parts) (s ∷ owned) h = λ i. h.0.faults i ∷ opened_faults (n + 1) parts owned h.1 i

  opened_numbers : (n : ℕ) (parts : List S) (owned : List (DigestShard S G)) → AreOpened dedupe n parts owned → map (λ s. s.number) owned ≡ range_with_len n (length parts)
  opened_numbers n [] [] h = refl
  opened_numbers n [] (s ∷ owned) h = absurd h
  opened_numbers n (p ∷ parts) [] h = absurd h
  opened_numbers n (p ∷ parts) (s ∷ owned) h = λ i. h.0.number_is i ∷ opened_numbers (n + 1) parts owned h.1 i

  pub opened_numbered : (parts : List S) (owned : List (DigestShard S G)) → length parts ≡ shards → AreOpened dedupe 0 parts owned → AreNumbered owned
  opened_numbered parts owned many h = opened_numbers 0 parts owned h ∙ ap (range_with_len 0) many

  pub opened_deduped : (n : ℕ) (parts : List S) (owned : List (DigestShard S G)) → dedupe ≡ true → AreOpened dedupe n parts owned → AreDeduped owned
  opened_deduped n parts owned dedupes h = All-from_recursion (λ s. s.dedupe ≡ true) owned (each n parts owned h) where
    each : (n : ℕ) (parts : List S) (owned : List (DigestShard S G)) → AreOpened dedupe n parts owned → AllByRecursion (λ s. s.dedupe ≡ true) owned
    each n [] [] h = tt
    each n [] (s ∷ owned) h = absurd h
    each n (p ∷ parts) [] h = absurd h
    each n (p ∷ parts) (s ∷ owned) h = (h.0.dedupe_is ∙ dedupes, each (n + 1) parts owned h.1)

  -- what each part means
  opened_means : (n : ℕ) (parts : List S) (owned : List (DigestShard S G)) → AreOpened dedupe n parts owned → (k : ℕ) → IfSome (part_at (map G.objects parts) k) (λ told. HaveMeaning told (n + k))
  opened_means n [] [] h k = tt
  opened_means n [] (s ∷ owned) h k = absurd h
  opened_means n (p ∷ parts) [] h k = absurd h
  opened_means n (p ∷ parts) (s ∷ owned) h zero = subst (λ m. IfSome (G.objects p) (λ told. HaveMeaning told m)) (omega arith) h.0.meaning
  opened_means n (p ∷ parts) (s ∷ owned) h (suc k) =
      subst (λ m. IfSome (part_at (map G.objects parts) k) (λ told. HaveMeaning told m)) (omega arith) (opened_means (n + 1) parts owned h.1 k)

  pub opened_meaning : (parts : List S) (owned : List (DigestShard S G)) → AreOpened dedupe 0 parts owned → AllHaveMeaning (map G.objects parts)
  opened_meaning parts owned h = λ number _. subst (λ m. IfSome (part_at (map G.objects parts) number) (λ told. HaveMeaning told m)) (omega arith) (opened_means 0 parts owned h number)

  -- equal bytes
  tight_shard : (n : ℕ) (part : S) (shard : DigestShard S G) → IsOpened dedupe n part shard → IfSome (G.objects part) (λ told. IsTightTree told n) → IfSome (G.objects shard.part) (λ told. AreTight told shard.number shard.digests)
  tight_shard n part shard is tree =
      subst (λ o. IfSome o (λ told. AreTight told shard.number shard.digests)) (sym is.objects)
      (subst (λ m. IfSome (G.objects part) (λ told. AreTight told m shard.digests)) (sym is.number_is) (both (G.objects part) (λ told. IsTightTree told n) (λ told. AreTight told n shard.digests) is.tight tree)) where
        both : (o : Option Objects) (P Q : Objects → Type 0) → IfSome o (λ told. P told → Q told) → IfSome o P → IfSome o Q
        both None P Q f h = tt
        both (Some told) P Q f h = f h

  opened_tight : (n : ℕ) (parts : List S) (owned : List (DigestShard S G)) → AreOpened dedupe n parts owned → ((k : ℕ) → k < length parts → IfSome (part_at (map G.objects parts) k) (λ told. IsTightTree told (n + k)))
      → AllByRecursion (λ s. IfSome (G.objects s.part) (λ told. AreTight told s.number s.digests)) owned
  opened_tight n [] [] h tree = tt
  opened_tight n [] (s ∷ owned) h tree = absurd h
  opened_tight n (p ∷ parts) [] h tree = absurd h
  opened_tight n (p ∷ parts) (s ∷ owned) h tree = (
    tight_shard n p s h.0 (subst (λ m. IfSome (G.objects p) (λ told. IsTightTree told m)) (omega arith) (tree 0 (omega arith))),
    opened_tight (n + 1) parts owned h.1
        (λ k within. subst (λ m. IfSome (part_at (map G.objects parts) k) (λ told. IsTightTree told m)) (omega arith) (tree (suc k) (omega (arith, within)))),
  )

  pub opened_tight_pool : (parts : List S) (owned : List (DigestShard S G)) → length parts ≡ shards → AreOpened dedupe 0 parts owned → AreTightTrees (map G.objects parts) → AreTightPool owned
  opened_tight_pool parts owned many h trees =
      All-from_recursion (λ s. IfSome (G.objects s.part) (λ told. AreTight told s.number s.digests)) owned
      (opened_tight 0 parts owned h (λ k within. subst (λ m. IfSome (part_at (map G.objects parts) k) (λ told. IsTightTree told m)) (omega arith) (trees k (subst (λ m. k < m) many within))))

  -- ---- a part over which no shard is opened

  module _ (parts : List S) (owned : List (DigestShard S G)) (left : List S) (error : PoolOpenError) (stops : StopsAt dedupe parts owned left error) where
    abbrev parts_of : List (DigestShard S G) → List S
    parts_of l = map (λ s. s.part) l

    back_seen : {X : Type 0} (f : S → X) → map (λ (s : DigestShard S G). f s.part) owned ≡ map f stops.done → map f (parts_of owned ++ left) ≡ map f stops.done ++ (f stops.back ∷ map f stops.rest)
    back_seen f = seen_after f (λ (s : DigestShard S G). s.part) owned stops.done stops.rest left stops.back stops.left_is

    pub back_objects : map G.objects (parts_of owned ++ left) ≡ map G.objects parts
    back_objects =
        back_seen G.objects (opened_objects 0 stops.done owned stops.opened)
        ∙ ap (λ o. map G.objects stops.done ++ (o ∷ map G.objects stops.rest)) stops.objects ∙ sym (seen_before G.objects parts stops.done stops.rest stops.part stops.split)

    abbrev counts : ℕ → List ℕ
    counts n = map G.faults stops.done ++ (n ∷ map G.faults stops.rest)

    among : length parts ≡ shards → length stops.done < shards
    among many = subst (λ n. length stops.done < n) many (stops_within parts stops.done stops.rest stops.part stops.split)

    cause_of : length parts ≡ shards → (fault : LayoutFault) → HasFaultCause (G.faults stops.part) (G.faults stops.back) fault
        → HasOpenCause (counts (G.faults stops.part)) (counts (G.faults stops.back)) (open_error (length stops.done) fault)
    cause_of many (faults.BadMeta path text) cause = record { failed = tt; kept = ap counts cause.kept }
    cause_of many faults.Failed cause = record {
      failed = record {
        within = among many;
        here = risen_here G.faults stops.done stops.rest (G.faults stops.part) (G.faults stops.back) cause.failed;
        others = others_stay G.faults stops.done stops.rest (G.faults stops.part) (G.faults stops.back);
      };
      kept = tt;
    }
    cause_of many faults.NoMemory cause = record { failed = tt; kept = ap counts cause.kept }

    pub back_cause : length parts ≡ shards → HasOpenCause (map G.faults parts) (map G.faults (parts_of owned ++ left)) error
    back_cause many =
        subst (HasOpenCause (map G.faults parts) (map G.faults (parts_of owned ++ left))) (sym stops.error_is)
        (subst (λ l. HasOpenCause l (map G.faults (parts_of owned ++ left)) (open_error (length stops.done) stops.fault)) (sym (seen_before G.faults parts stops.done stops.rest stops.part stops.split))
        (subst (λ l. HasOpenCause (counts (G.faults stops.part)) l (open_error (length stops.done) stops.fault)) (sym (back_seen G.faults (opened_faults 0 stops.done owned stops.opened)))
        (cause_of many stops.fault stops.cause)))

    bad_of : length parts ≡ shards → (fault : LayoutFault) → OnBadMeta fault (λ path text. IfSome (G.objects stops.part) (λ told. IsFirstBad told (length stops.done) path text))
        → OnBadRecord (open_error (length stops.done) fault) (IsFirstBadPart (map G.objects parts))
    bad_of many (faults.BadMeta path text) bad = record {
      number = length stops.done;
      within = among many;
      here = subst (λ o. IfSome o (λ told. IsFirstBad told (length stops.done) path text)) (sym (part_here G.objects parts stops.done stops.rest stops.part stops.split)) bad;
      before = λ other within.
          subst (λ o. IfSome o (λ told. HaveMeaning told other)) (sym (part_before G.objects parts stops.done stops.rest stops.part stops.split other within))
          (subst (λ m. IfSome (part_at (map G.objects stops.done) other) (λ told. HaveMeaning told m)) (omega arith) (opened_means 0 stops.done owned stops.opened other));
    }
    bad_of many faults.Failed bad = tt
    bad_of many faults.NoMemory bad = tt

    pub back_bad : length parts ≡ shards → OnBadRecord error (IsFirstBadPart (map G.objects parts))
    back_bad many = subst (λ e. OnBadRecord e (IsFirstBadPart (map G.objects parts))) (sym stops.error_is) (bad_of many stops.fault stops.bad)

-- ---- a pool that is closed

closed_tree : (objects : Option Objects) (number : ℕ) (kept : Kept) → AllStand objects number kept → IfSome objects (λ told. AreTight told number kept) → IfSome objects (λ told. IsTightTree told number)
closed_tree None number kept stand tight = tt
closed_tree (Some told) number kept stand tight = tight_tree told number kept stand tight

pub closed_tight : {S : Type 0} {G : Ghosts S} (owned : List (DigestShard S G)) → AreNumbered owned → AreTightPool owned → AreTightTrees (objects_of owned)
closed_tight {S} {G} owned numbered tight number _ = elim (slice_get_cases owned number).1 [
  | inl (s, within, is, at) ↦
      subst (λ o. IfSome o (λ told. IsTightTree told number)) (sym (ap option_flatten (slice_get-map (λ (x : DigestShard S G). G.objects x.part) owned number ∙ ap (option_map (λ (x : DigestShard S G). G.objects x.part)) is)))
      (subst (λ n. IfSome (G.objects s.part) (λ told. IsTightTree told n)) (number_is owned number s s within (sym at) numbered)
      (closed_tree (G.objects s.part) s.number s.digests s.stand
      (subst (λ (x : DigestShard S G). IfSome (G.objects x.part) (λ told. AreTight told x.number x.digests)) at
      (All-get_or (λ x. IfSome (G.objects x.part) (λ told. AreTight told x.number x.digests)) owned number s within tight))))
  | inr (past, none) ↦
      subst (λ o. IfSome o (λ told. IsTightTree told number)) (sym (ap option_flatten (slice_get-map (λ (x : DigestShard S G). G.objects x.part) owned number ∙ ap (option_map (λ (x : DigestShard S G). G.objects x.part)) none))) tt
]

pub closed_parts : {S : Type 0} {G : Ghosts S} (owned : List (DigestShard S G)) (room parts : List S) → room ≡ [] → parts ≡ map (λ s. s.part) owned ++ room → map G.objects parts ≡ objects_of owned
closed_parts {S} {G} owned room parts none is =
    ap (map G.objects) (is ∙ ap (λ l. map (λ (s : DigestShard S G). s.part) owned ++ l) none ∙ append-nil (map (λ (s : DigestShard S G). s.part) owned))
    ∙ map-map G.objects (λ (s : DigestShard S G). s.part) owned

pub stopped_room : {S : Type 0} {G : Ghosts S} (dedupe : Bool) (parts : List S) (owned : List (DigestShard S G)) (left : List S) (error : PoolOpenError) → StopsAt dedupe parts owned left error
    → length owned + length left ≡ length parts
stopped_room dedupe parts owned left error stops =
    omega (arith, opened_long dedupe 0 stops.done owned stops.opened, ap length stops.left_is, ap length stops.split, length-append stops.done (stops.part ∷ stops.rest))
