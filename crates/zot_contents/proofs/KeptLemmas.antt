-- What a shard keeps of its digests.
use Rattle.std.proofs.Common.{◌≡◌, ◌≢◌, ℕ, inl, inr, false, List, Option, Some, None, refl, sym, ap, subst, ◌∙◌}
use Rattle.std.specs.Prelude.{IsSome, OnErr, OnOk, Result, Ok, Err, is_some, unwrap_or}
use Rattle.std.specs.FinMap as map
use Rattle.std.specs.Map.{lookup}
use Rattle.std.specs.BTreeMap.{is_at}
use Rattle.zot_digest.specs.ByteMap.{byte_cmp, map_of}
use Rattle.zot_maps.proofs.Entries.{Writes, map_written}
use Rattle.zot_maps.proofs.Maps.{byte_order, found_at, get_elsewhere, get_here, removed_elsewhere, removed_here}
use Rattle.zot_links.proofs.StandLemmas.{decide}
use Rattle.zot_links.specs.Meaning.{Links}
use Rattle.zot_contents.specs.Opening.{with_holder}
use Rattle.zot_contents.specs.Shards.{AllOwn, IsOfShard, KeepsOnly, Kept, links_at}

-- a digest that was set is kept, with these holders
pub set_here : (old new : Kept) (digest : List ℕ) (links : Links) → new ≡ map.insert old digest links → links_at new digest ≡ links
set_here old new digest links is = ap (λ (o : Option Links). unwrap_or o map.empty) (ap (λ (m : Kept). map.get m digest) is ∙ get_here byte_order old digest links)

-- the others stay
pub set_beside : (old new : Kept) (digest other : List ℕ) (links : Links) → new ≡ map.insert old digest links → other ≢ digest → links_at new other ≡ links_at old other
set_beside old new digest other links is apart =
    ap (λ (o : Option Links). unwrap_or o map.empty) (ap (λ (m : Kept). map.get m other) is ∙ get_elsewhere byte_order old digest links other apart)

pub set_kept : {T E : Type 0} (r : Result T E) (old new : Kept) (digest : List ℕ) (links : Links) → OnOk r (new ≡ map.insert old digest links) → OnOk r (IsSome (map.get new digest))
set_kept (Ok x) old new digest links is = subst (λ o. IsSome o) (sym (ap (λ (m : Kept). map.get m digest) is ∙ get_here byte_order old digest links)) refl
set_kept (Err e) old new digest links is = tt

-- no holders at all are kept of a digest that isn't kept
pub none_kept : (kept : Kept) (digest : List ℕ) → map.get kept digest ≡ None → links_at kept digest ≡ map.empty
none_kept kept digest none = ap (λ (o : Option Links). unwrap_or o map.empty) none

pub set_empty : (old new : Kept) (digest : List ℕ) (links : Links) → map.get old digest ≡ None → links ≡ map.empty → new ≡ map.insert old digest links
    → (other : List ℕ) → links_at new other ≡ links_at old other
set_empty old new digest links none empty is other = elim (decide other digest) [
  | inl same ↦ ap (λ d. links_at new d) same ∙ set_here old new digest links is ∙ empty ∙ sym (none_kept old digest none) ∙ ap (λ d. links_at old d) (sym same)
  | inr apart ↦ set_beside old new digest other links is apart
]

pub keep_all : {T E : Type 0} (r : Result T E) (old new : Kept) (digest : List ℕ) (links : Links) → map.get old digest ≡ None → links ≡ map.empty
    → OnOk r (new ≡ map.insert old digest links) → OnErr r (new ≡ old) → (other : List ℕ) → links_at new other ≡ links_at old other
keep_all (Ok x) old new digest links none empty is kept = set_empty old new digest links none empty is
keep_all (Err e) old new digest links none empty is kept = λ other. ap (λ (m : Kept). links_at m other) kept

-- a digest of which nothing is kept is removed
pub removed_all : (old new : Kept) (digest : List ℕ) → links_at old digest ≡ map.empty → new ≡ map.remove old digest → (other : List ℕ) → links_at new other ≡ links_at old other
removed_all old new digest empty is other = elim (decide other digest) [
  | inl same ↦
      ap (λ (m : Kept). links_at m other) is ∙ ap (λ d. links_at (map.remove old digest) d) same
      ∙ ap (λ (o : Option Links). unwrap_or o map.empty) (removed_here byte_order old digest) ∙ sym empty ∙ ap (λ d. links_at old d) (sym same)
  | inr apart ↦ ap (λ (m : Kept). links_at m other) is ∙ ap (λ (o : Option Links). unwrap_or o map.empty) (removed_elsewhere byte_order old digest other apart)
]

-- nothing is found where there is nothing
pub found_none : {X : Type 0} (o : Option X) → is_some o ≡ false → o ≡ None
found_none None is = refl
found_none (Some x) is = cc is

-- ---- holders that are written in place

abbrev pub Entries : Type 0
Entries = List (List ℕ × Links)

-- the holders that a tree has under a digest
pub found_links : (es : Entries) (kept : Kept) (digest : List ℕ) (links : Links) → map_of es ≡ kept → Some links ≡ lookup (is_at (byte_cmp digest)) es → links_at kept digest ≡ links
found_links es kept digest links is has = ap (λ (o : Option Links). unwrap_or o map.empty) (found_at byte_order es kept digest (Some links) is has)

-- what a tree keeps after they were written
pub written_here : (es fs : Entries) (kept : Kept) (digest : List ℕ) (found links : Links) → map_of es ≡ kept → Some found ≡ lookup (is_at (byte_cmp digest)) es
    → Writes byte_order es fs digest links → links_at (map_of fs) digest ≡ links
written_here es fs kept digest found links is has writes = set_here kept (map_of fs) digest links (map_written byte_order es fs kept digest found links is has writes)

pub written_beside : (es fs : Entries) (kept : Kept) (digest : List ℕ) (found links : Links) → map_of es ≡ kept → Some found ≡ lookup (is_at (byte_cmp digest)) es
    → Writes byte_order es fs digest links → (other : List ℕ) → other ≢ digest → links_at (map_of fs) other ≡ links_at kept other
written_beside es fs kept digest found links is has writes other apart =
    set_beside kept (map_of fs) digest other links (map_written byte_order es fs kept digest found links is has writes) apart

-- a fact of the holders before and after
pub both_moved : {A : Type 0} (P : A → A → Type 0) (a b x y : A) → x ≡ a → y ≡ b → P a b → P x y
both_moved P a b x y before after h = subst (λ z. P x z) (sym after) (subst (λ z. P z b) (sym before) h)

-- a digest that is kept is found
pub not_found : (es : Entries) (kept : Kept) (digest : List ℕ) → map_of es ≡ kept → None ≡ lookup (is_at (byte_cmp digest)) es → IsSome (map.get kept digest) → ⊥
not_found es kept digest is none has = cc (sym has ∙ ap (λ (o : Option Links). is_some o) (found_at byte_order es kept digest None is none))

-- ---- which digests are kept

-- no more are after one was set
pub set_only : (old new : Kept) (digest : List ℕ) (links : Links) → new ≡ map.insert old digest links → KeepsOnly old digest new
set_only old new digest links is other has apart =
    subst (λ (o : Option Links). IsSome o) (ap (λ (m : Kept). map.get m other) is ∙ get_elsewhere byte_order old digest links other apart) has

pub set_only_so : {T E : Type 0} (r : Result T E) (old new : Kept) (digest : List ℕ) (links : Links) → OnOk r (new ≡ map.insert old digest links) → OnErr r (new ≡ old) → KeepsOnly old digest new
set_only_so (Ok x) old new digest links is kept = set_only old new digest links is
set_only_so (Err e) old new digest links is kept = λ other has apart. subst (λ (m : Kept). IsSome (map.get m other)) kept has

-- nor after one was removed
pub removed_only : (old new : Kept) (digest : List ℕ) → new ≡ map.remove old digest → KeepsOnly old digest new
removed_only old new digest is other has apart =
    subst (λ (o : Option Links). IsSome o) (ap (λ (m : Kept). map.get m other) is ∙ removed_elsewhere byte_order old digest other apart) has

-- nor after one was written in place
pub written_only : (es fs : Entries) (kept : Kept) (digest : List ℕ) (found links : Links) → map_of es ≡ kept → Some found ≡ lookup (is_at (byte_cmp digest)) es
    → Writes byte_order es fs digest links → KeepsOnly kept digest (map_of fs)
written_only es fs kept digest found links is has writes = set_only kept (map_of fs) digest links (map_written byte_order es fs kept digest found links is has writes)

-- after all three they are still of the shard
pub own_after : (number : ℕ) (kept first second later : Kept) (digest : List ℕ) → IsOfShard number digest → KeepsOnly kept digest first → KeepsOnly first digest second → KeepsOnly second digest later
    → AllOwn number kept → AllOwn number later
own_after number kept first second later digest is one two three own other has = elim (decide other digest) [
  | inl same ↦ subst (λ d. IsOfShard number d) (sym same) is
  | inr apart ↦ own other (one other (two other (three other has apart) apart) apart)
]

-- ---- an object is noted

pub noted_written : {T E : Type 0} (r : Result T E) (es fs : Entries) (kept : Kept) (digest : List ℕ) (found links : Links) (name : Option (List ℕ)) → map_of es ≡ kept
    → Some found ≡ lookup (is_at (byte_cmp digest)) es → Writes byte_order es fs digest links → OnOk r (links ≡ with_holder found name)
    → OnOk r (map_of fs ≡ map.insert kept digest (with_holder (links_at kept digest) name))
noted_written (Ok x) es fs kept digest found links name is has writes same =
    map_written byte_order es fs kept digest found links is has writes ∙ ap (map.insert kept digest) (same ∙ ap (λ l. with_holder l name) (sym (found_links es kept digest found is has)))
noted_written (Err e) es fs kept digest found links name is has writes same = tt

pub noted_new : {T E : Type 0} (r : Result T E) (es : Entries) (kept old new : Kept) (digest : List ℕ) (empty links : Links) (name : Option (List ℕ)) → map_of es ≡ kept → old ≡ map_of es
    → None ≡ lookup (is_at (byte_cmp digest)) es → empty ≡ map.empty → links ≡ with_holder empty name → OnOk r (new ≡ map.insert old digest links)
    → OnOk r (new ≡ map.insert kept digest (with_holder (links_at kept digest) name))
noted_new (Ok x) es kept old new digest empty links name is was none from same set =
    set
    ∙ ap (λ (m : Kept). map.insert m digest links) (was ∙ is)
    ∙ ap (map.insert kept digest) (same ∙ ap (λ l. with_holder l name) (from ∙ sym (none_kept kept digest (found_at byte_order es kept digest None is none))))
noted_new (Err e) es kept old new digest empty links name is was none from same set = tt
