-- The holders of a shard's digests, opened digest by digest.
use Rattle.std.proofs.Common.{◌≡◌, ◌≢◌, ◌⊎◌, ◌↔◌, ℕ, inl, inr, cond, List, [], ◌∷◌, map as each, Option, Some, None, IfSome, IsSome, is_some, Result, Ok, Err, refl, sym, ap, subst, ◌∙◌}
use Rattle.std.specs.Prelude.{IfErr, unwrap_or}
use Rattle.std.specs.Result.{IsErrAnd}
use Rattle.std.specs.FinMap as map
use Rattle.std.specs.FinMap.{get-empty, get-from_entries}
use Rattle.std.specs.FinMap.Entries.{find}
use Rattle.std.specs.List.{AllByRecursion}
use Rattle.std.specs.List.Sorted.{IsStrictlySortedBy}
use Rattle.std.specs.declared.cmp.Ordering.TheVariants.{Less}
use Rattle.std.proofs.lemmas.Bool.{true≢false}
use Rattle.std.proofs.lemmas.Cmp.{tied_itself}
use Rattle.zot_digest.specs.ByteMap.{byte_cmp, map_of}
use Rattle.zot_maps.proofs.Entries.{AllFound, all_found}
use Rattle.zot_maps.proofs.Maps.{byte_order, other_key}
use Rattle.zot_names.specs.Name.{IsName}
use Rattle.zot_outside.specs.Objects.{Objects}
use Rattle.zot_links.proofs.MeaningLemmas.{stands_means}
use Rattle.zot_links.proofs.StandLemmas.{decide}
use Rattle.zot_links.specs.Meaning.{IsWhole, Links, Stands, line_at, origin_of, record_at, record_in, record_path}
use Rattle.zot_links.specs.Opening.{HasObjects, LacksMeaning}
use Rattle.zot_contents.proofs.KeptLemmas.{none_kept, set_beside, set_here, set_only}
use Rattle.zot_contents.specs.Opening.{AreFound, HaveMeaning, IsFirstBad, OnBadMeta, WhereFound}
use Rattle.zot_contents.specs.Shards.{AllStand, AreTight, IsOfShard, IsTightTree, KeepsOnly, Kept, links_at}
use Rattle.zot_contents.specs.declared.layout_fault.LayoutFault.{LayoutFault}
use Rattle.zot_contents.specs.declared.layout_fault.LayoutFault.TheVariants as faults

abbrev pub Entries : Type 0
Entries = List (List ℕ × Links)

-- ---- the digests that are left

-- they were found with these holders, and are in order
pub record AreLeft (found : Kept) (left : Entries) : Type 0 where
  there : AllByRecursion (λ e. map.get found e.0 ≡ Some e.1) left
  ascend : IsStrictlySortedBy byte_cmp (each (λ e. e.0) left)

there_among : (found : Kept) (all left : Entries) → map_of all ≡ found → AllFound byte_order all left → AllByRecursion (λ e. map.get found e.0 ≡ Some e.1) left
there_among found all [] is h = tt
there_among found all (e ∷ left) is h =
    (ap (λ (m : Kept). map.get m e.0) (sym is) ∙ get-from_entries byte_order.total all e.0 ∙ h.0, there_among found all left is h.1)

pub left_first : (found : Kept) (es left : Entries) → left ≡ es → map_of es ≡ found → IsStrictlySortedBy byte_cmp (each (λ e. e.0) es) → AreLeft found left
left_first found es left same is sorted = subst (AreLeft found) (sym same) (record { there = there_among found es es is (all_found byte_order es sorted); ascend = sorted })

pub left_more : (found : Kept) (e : List ℕ × Links) (left : Entries) → AreLeft found (e ∷ left) → AreLeft found left
unfolding IsStrictlySortedBy
left_more found e left h = record { there = h.there.1; ascend = h.ascend.1 }

-- a lesser digest isn't left
apart_less : (digest other : List ℕ) → byte_cmp digest other ≡ Less → digest ≢ other
apart_less digest other less same = cc (sym (tied_itself byte_order.total digest) ∙ ap (byte_cmp digest) same ∙ less)

all_less : (digest low : List ℕ) → byte_cmp digest low ≡ Less → (keys : List (List ℕ)) → AllByRecursion (λ key. byte_cmp low key ≡ Less) keys → AllByRecursion (λ key. byte_cmp digest key ≡ Less) keys
all_less digest low less [] h = tt
all_less digest low less (key ∷ keys) h = (byte_order.total.trans digest low key less h.0, all_less digest low less keys h.1)

none_less : (digest : List ℕ) (es : Entries) → AllByRecursion (λ key. byte_cmp digest key ≡ Less) (each (λ e. e.0) es) → find byte_cmp digest es ≡ None
none_less digest [] h = refl
none_less digest (e ∷ es) h =
    ap (λ b. cond b (Some e.1) (find byte_cmp digest es)) (other_key byte_order digest e.0 (apart_less digest e.0 h.0)) ∙ none_less digest es h.1

not_left : (found : Kept) (digest other : List ℕ) (holders : Links) (left : Entries) → AreLeft found ((digest, holders) ∷ left) → byte_cmp other digest ≡ Less
    → find byte_cmp other ((digest, holders) ∷ left) ≡ None
unfolding IsStrictlySortedBy
not_left found digest other holders left h less = none_less other ((digest, holders) ∷ left) (less, all_less other digest less (each (λ e. e.0) left) h.ascend.0)

left_beside : (digest other : List ℕ) (holders : Links) (left : Entries) → other ≢ digest → find byte_cmp other ((digest, holders) ∷ left) ≡ find byte_cmp other left
left_beside digest other holders left apart = ap (λ b. cond b (Some holders) (find byte_cmp other left)) (other_key byte_order other digest apart)

-- ---- which digests are kept

pub among_none : (found digests : Kept) → digests ≡ map.empty → (digest : List ℕ) → IsSome (map.get digests digest) → IsSome (map.get found digest)
among_none found digests empty digest has = absurd (true≢false (sym has ∙ ap is_some (ap (λ (m : Kept). map.get m digest) empty ∙ get-empty byte_cmp digest)))

pub among_more : (found digests set later : Kept) (digest : List ℕ) (holders links : Links) (left : Entries) → AreLeft found ((digest, holders) ∷ left) → set ≡ map.insert digests digest links → KeepsOnly set digest later
    → ((other : List ℕ) → IsSome (map.get digests other) → IsSome (map.get found other)) → (other : List ℕ) → IsSome (map.get later other) → IsSome (map.get found other)
among_more found digests set later digest holders links left h is only among other has = elim (decide other digest) [
  | inl same ↦ ap (λ d. is_some (map.get found d)) same ∙ ap is_some h.there.0
  | inr apart ↦ among other (set_only digests set digest links is other (only other has apart) apart)
]

-- ---- what the digests so far stand for

module _ (told : Objects) (number : ℕ) where
  -- each digest of the shard that isn't left has its holders
  pub record HasOpened (left : Entries) (digests : Kept) : Type 0 where
    stand : (digest : List ℕ) → IsOfShard number digest → IsSome (find byte_cmp digest left) ⊎ Stands told digest (links_at digests digest)
    named : (digest name : List ℕ) → IsSome (map.get (links_at digests digest) name) → IsName name

  module _ (found : Kept) (are : AreFound told number found) where
    no_record : (digest : List ℕ) (object : Option (List ℕ)) → map.get told (record_path digest) ≡ object → ¬ IsSome object → IsSome (record_in object)
    no_record digest None is none = refl
    no_record digest (Some text) is none = absurd (none refl)

    no_holder : (links : Links) → links ≡ map.empty → (name : List ℕ) → ¬ IsSome (map.get links name)
    no_holder links is name has = true≢false (sym has ∙ ap is_some (ap (λ (l : Links). map.get l name) is ∙ get-empty byte_cmp name))

    -- a digest that wasn't found has no holders
    stands_empty : (digest : List ℕ) → IsOfShard number digest → map.get found digest ≡ None → Stands told digest map.empty
    unfolding record_at
    stands_empty digest is none = record {
      read = no_record digest (map.get told (record_path digest)) refl (λ there. true≢false (sym (are.records digest is there) ∙ ap is_some none));
      there = λ name has. absurd (no_holder map.empty refl name has);
      known = λ name named has. subst (λ (l : Links). IsSome (map.get l name)) (none_kept found digest none) ((are.holders digest is name named).0 has);
      origins = λ name has. absurd (no_holder map.empty refl name has);
      whole = λ name origin link. absurd (no_holder map.empty refl name (ap is_some link));
      named = λ name origin link. absurd (no_holder map.empty refl name (ap is_some link));
    }

    pub opened_first : (es left : Entries) (digests : Kept) → left ≡ es → map_of es ≡ found → digests ≡ map.empty → HasOpened left digests
    opened_first es left digests same is empty = record {
      stand = λ digest own. by digest own (find byte_cmp digest left) refl;
      named = λ digest name has. absurd (no_holder (links_at digests digest) (none digest) name has);
    } where
      none : (digest : List ℕ) → links_at digests digest ≡ map.empty
      none digest = none_kept digests digest (ap (λ (m : Kept). map.get m digest) empty ∙ get-empty byte_cmp digest)

      by : (digest : List ℕ) → IsOfShard number digest → (o : Option Links) → find byte_cmp digest left ≡ o → IsSome (find byte_cmp digest left) ⊎ Stands told digest (links_at digests digest)
      by digest own (Some links) at = inl (ap is_some at)
      by digest own None at =
          let unfound : map.get found digest ≡ None = ap (λ (m : Kept). map.get m digest) (sym is) ∙ get-from_entries byte_order.total es digest ∙ ap (find byte_cmp digest) (sym same) ∙ at in
          inr (subst (Stands told digest) (sym (none digest)) (stands_empty digest own unfound))

    module _ (digest : List ℕ) (holders : Links) (left : Entries) (digests : Kept) (are_left : AreLeft found ((digest, holders) ∷ left)) (h : HasOpened ((digest, holders) ∷ left) digests) where
      its_own : IsOfShard number digest
      its_own = are.own digest (ap is_some are_left.there.0)

      its_holders : links_at found digest ≡ holders
      its_holders = ap (λ (o : Option Links). unwrap_or o map.empty) are_left.there.0

      its_objects : HasObjects told digest holders
      its_objects = subst (HasObjects told digest) its_holders (are.holders digest its_own)

      pub opened_more : (set later : Kept) (links : Links) → set ≡ map.insert digests digest links → ((other : List ℕ) → links_at later other ≡ links_at set other)
          → (HasObjects told digest holders → Stands told digest links) → ((name : List ℕ) → IsSome (map.get links name) ↔ IsSome (map.get holders name)) → HasOpened left later
      opened_more set later links is same stands names = record { stand = stand_now; named = named_now } where
        here : links_at later digest ≡ links
        here = same digest ∙ set_here digests set digest links is

        beside : (other : List ℕ) → other ≢ digest → links_at later other ≡ links_at digests other
        beside other apart = same other ∙ set_beside digests set digest other links is apart

        stand_now : (other : List ℕ) → IsOfShard number other → IsSome (find byte_cmp other left) ⊎ Stands told other (links_at later other)
        stand_now other own = elim (decide other digest) [
          | inl one ↦ inr (subst (λ d. Stands told d (links_at later d)) (sym one) (subst (Stands told digest) (sym here) (stands its_objects)))
          | inr apart ↦ elim (h.stand other own) [
            | inl is_left ↦ inl (ap is_some (sym (left_beside digest other holders left apart)) ∙ is_left)
            | inr stood ↦ inr (subst (Stands told other) (sym (beside other apart)) stood)
          ]
        ]

        named_now : (other name : List ℕ) → IsSome (map.get (links_at later other) name) → IsName name
        named_now other name has = elim (decide other digest) [
          | inl one ↦
              are.named digest name
              (ap (λ l. is_some (map.get l name)) its_holders
              ∙ (names name).0 (ap (λ l. is_some (map.get l name)) (sym here) ∙ ap (λ d. is_some (map.get (links_at later d) name)) (sym one) ∙ has))
          | inr apart ↦ h.named other name (ap (λ l. is_some (map.get l name)) (sym (beside other apart)) ∙ has)
        ]

      -- a record that is refused is that of the least digest without a meaning
      pub first_bad : (path text : List ℕ) → (HasObjects told digest holders → (path ≡ record_path digest) × LacksMeaning told digest text) → IsFirstBad told number path text
      first_bad path text refused =
          let bad = refused its_objects in
          record {
            digest = digest;
            own = its_own;
            place = bad.0;
            there = ap (map.get told) bad.0 ∙ bad.1.there;
            none = bad.1.none;
            first = λ other own less. elim (h.stand other own) [
              | inl is_left ↦ absurd (true≢false (sym is_left ∙ ap is_some (not_left found digest other holders left are_left less)))
              | inr stood ↦ stands_means told other (links_at digests other) stood
            ];
          }

  -- all are opened
  pub all_opened : (digests : Kept) → HasOpened [] digests → AllStand (Some told) number digests
  all_opened digests h digest own = elim (h.stand digest own) [
    | inl is_left ↦ absurd (true≢false (sym is_left))
    | inr stood ↦ stood
  ]

  -- the whole holders are those of the whole objects
  pub all_tight : (digests : Kept) → HasOpened [] digests → IsTightTree told number → AreTight told number digests
  all_tight digests h tight digest own name other bytes one also has same some =
      let stood = all_opened digests h digest own in
      let whole : (holder : List ℕ) → IsWhole (links_at digests digest) holder → origin_of (line_at told digest holder) ≡ None =
      λ holder is. stood.origins holder (ap is_some is) ∙ ap origin_of is in
      tight digest name other bytes own
      (record { named = h.named digest name (ap is_some one); has = has; whole = whole name one })
      (record { named = h.named digest other (ap is_some also); has = same; whole = whole other also }) some

-- ---- the same of a store that may tell its objects

pub first_where : (objects : Option Objects) (found : Kept) (es left : Entries) (digests : Kept) → left ≡ es → map_of es ≡ found → digests ≡ map.empty
    → WhereFound objects found (λ told number. HasOpened told number left digests)
first_where None found es left digests same is empty = tt
first_where (Some told) found es left digests same is empty = λ number are. opened_first told number found are es left digests same is empty

pub more_where : (objects now : Option Objects) (found : Kept) (digest : List ℕ) (holders : Links) (left : Entries) (digests set later : Kept) (links : Links) → now ≡ objects → AreLeft found ((digest, holders) ∷ left)
    → set ≡ map.insert digests digest links → ((other : List ℕ) → links_at later other ≡ links_at set other)
    → IfSome now (λ told. HasObjects told digest holders → Stands told digest links) → ((name : List ℕ) → IsSome (map.get links name) ↔ IsSome (map.get holders name))
    → WhereFound objects found (λ told number. HasOpened told number ((digest, holders) ∷ left) digests) → WhereFound objects found (λ told number. HasOpened told number left later)
more_where None now found digest holders left digests set later links kept are_left is same stands names h = tt
more_where (Some told) now found digest holders left digests set later links kept are_left is same stands names h =
    λ number are. opened_more told number found are digest holders left digests are_left (h number are) set later links is same
    (subst (λ o. IfSome o (λ told. HasObjects told digest holders → Stands told digest links)) kept stands) names

pub bad_where : (objects now : Option Objects) (found : Kept) (digest : List ℕ) (holders : Links) (left : Entries) (digests : Kept) (path text : List ℕ) → now ≡ objects → AreLeft found ((digest, holders) ∷ left)
    → IfSome now (λ told. HasObjects told digest holders → (path ≡ record_path digest) × LacksMeaning told digest text)
    → WhereFound objects found (λ told number. HasOpened told number ((digest, holders) ∷ left) digests) → WhereFound objects found (λ told number. IsFirstBad told number path text)
bad_where None now found digest holders left digests path text kept are_left refused h = tt
bad_where (Some told) now found digest holders left digests path text kept are_left refused h =
    λ number are. first_bad told number found are digest holders left digests are_left (h number are) path text
    (subst (λ o. IfSome o (λ told. HasObjects told digest holders → (path ≡ record_path digest) × LacksMeaning told digest text)) kept refused)

pub stand_where : (objects : Option Objects) (found digests : Kept) (left : Entries) → left ≡ [] → WhereFound objects found (λ told number. HasOpened told number left digests)
    → WhereFound objects found (λ told number. AllStand (Some told) number digests)
stand_where None found digests left none h = tt
stand_where (Some told) found digests left none h = λ number are. all_opened told number digests (subst (λ l. HasOpened told number l digests) none (h number are))

pub tight_where : (objects : Option Objects) (found digests : Kept) (left : Entries) → left ≡ [] → WhereFound objects found (λ told number. HasOpened told number left digests)
    → WhereFound objects found (λ told number. IsTightTree told number → AreTight told number digests)
tight_where None found digests left none h = tt
tight_where (Some told) found digests left none h = λ number are. all_tight told number digests (subst (λ l. HasOpened told number l digests) none (h number are))

-- of the shard whose objects were found
pub found_where : (objects now : Option Objects) (found : Kept) (number : ℕ) (P : Objects → ℕ → Type 0) → now ≡ objects → IfSome objects (λ told. AreFound told number found) → WhereFound now found P
    → IfSome objects (λ told. P told number)
found_where None now found number P kept are h = tt
found_where (Some told) now found number P kept are h = subst (λ o. WhereFound o found P) kept h number are

pub all_where : (objects : Option Objects) (number : ℕ) (digests : Kept) → IfSome objects (λ told. AllStand (Some told) number digests) → AllStand objects number digests
all_where None number digests h digest own = tt
all_where (Some told) number digests h digest own = h digest own

-- each digest that stands has a meaning
pub all_mean : (objects : Option Objects) (number : ℕ) (digests : Kept) → AllStand objects number digests → IfSome objects (λ told. HaveMeaning told number)
all_mean None number digests h = tt
all_mean (Some told) number digests h = λ digest own. stands_means told digest (links_at digests digest) (h digest own)

-- ---- an error that is handed on

on_bad : (P Q : List ℕ → List ℕ → Type 0) → ((path text : List ℕ) → P path text → Q path text) → (fault : LayoutFault) → OnBadMeta fault P → OnBadMeta fault Q
on_bad P Q f (faults.BadMeta path text) h = f path text h
on_bad P Q f faults.Failed h = tt
on_bad P Q f faults.NoMemory h = tt

pub bad_on : {A : Type 0} (P Q : List ℕ → List ℕ → Type 0) → ((path text : List ℕ) → P path text → Q path text) → (result : Result A LayoutFault) (fault : LayoutFault) → IsErrAnd result (λ e. e ≡ fault)
    → OnBadMeta fault P → IfErr result (λ e. OnBadMeta e Q)
bad_on P Q f (Ok x) fault is h = tt
bad_on P Q f (Err e) fault is h = subst (λ e. OnBadMeta e Q) (sym is) (on_bad P Q f fault h)
