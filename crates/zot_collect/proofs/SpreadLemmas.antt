-- Marks that spread: what one mark does, and one after another.
use Rattle.std.proofs.Common.{◌≡◌, ◌⊎◌, inl, inr, ◌<◌, ◌+◌, ℕ, Bool, true, false, cond, ◌||◌, List, [], ◌∷◌, ◌++◌, set, take, length, get_or, slice_get, Some, Contains, refl, sym, ap, subst, ◌∙◌, arith, true≢false, length-set, get_or-set_same, get_or-set_other}
use Rattle.std.proofs.lemmas.Bool.{cases_eq, cases_lt}
use Rattle.std.proofs.lemmas.List.{length_push}
use Rattle.std.proofs.lemmas.List.Elements.{Contains-append_left, Contains-push, Contains-push_cases}
use Rattle.std.proofs.lemmas.List.Sums.{sum_by-set}
use Rattle.std.specs.Str.{bytes_eq}
use Rattle.zot_collect.proofs.PlaceLemmas.{one_place, same_row}
use Rattle.zot_collect.proofs.SetLemmas.{bytes_same, same_bytes}
use Rattle.zot_collect.proofs.TestLemmas.{any_further, or_left, or_right}
use Rattle.zot_collect.specs.Marks.{Grows, HoldsThere, IsMarked, Spreads, count_marks}
use Rattle.zot_model.specs.Retire.{digests}
use Rattle.zot_model.specs.declared.manifest_row.ManifestRow.{ManifestRow}
use Rattle.zot_collect.specs.declared.staying.Staying.{Staying}
use Rattle.zot_media.specs.References.{has_digest}
use Rattle.zot_media.specs.declared.descriptor.Descriptor.{Descriptor}
use Rattle.zot_retention.specs.Kept.{Ascend}

-- ---- growth

pub grows_none : (P : ℕ → Type 0) (s : Staying) → Grows P s s
grows_none P s = record { long = refl; keeps = λ place h. h; waits = λ place h. h; only = λ place h. inl h; marked = λ place h. inl h; count = refl }

pub grows_more : (P : ℕ → Type 0) (a b c : Staying) → Grows P a b → Grows P b c → Grows P a c
grows_more P a b c f g = record {
  long = g.long ∙ f.long;
  keeps = λ place h. g.keeps place (f.keeps place h);
  waits = λ place h. g.waits place (f.waits place h);
  only = λ place h. elim (g.only place h) [
    | inl before ↦ elim (f.only place before) [ inl first ↦ inl first | inr new ↦ inr (new.0, g.waits place new.1) ]
    | inr new ↦ inr new
  ];
  marked = λ place h. elim (g.marked place h) [
    | inl before ↦ elim (f.marked place before) [ inl first ↦ inl first | inr new ↦ inr (g.keeps place new) ]
    | inr new ↦ inr new
  ];
  count = omega (arith, f.count, g.count);
}

pub grows_weaker : (P Q : ℕ → Type 0) (a b : Staying) → ((place : ℕ) → P place → Q place) → Grows P a b → Grows Q a b
grows_weaker P Q a b weaker f = record {
  long = f.long;
  keeps = f.keeps;
  waits = f.waits;
  only = λ place h. elim (f.only place h) [ inl first ↦ inl first | inr new ↦ inr (weaker place new.0, new.1) ];
  marked = f.marked;
  count = f.count;
}

-- ---- one mark

counted_one : (marks : List Bool) (place : ℕ) → place < length marks → get_or marks place false ≡ false → count_marks (set marks place true) ≡ count_marks marks + 1
counted_one marks place within h =
    let e = sum_by-set (λ (m : Bool). cond m 1 0) marks place true false within in
    let f = ap {B = ℕ} (λ (m : Bool). cond m 1 0) h in
    omega (arith, e, f)

keeps_one : (marks : List Bool) (place other : ℕ) → place < length marks → IsMarked marks other → IsMarked (set marks place true) other
keeps_one marks place other within h =
    elim (cases_eq other place) [
      | inl e ↦ subst (λ q. IsMarked (set marks place true) q) (sym e) (get_or-set_same marks place true false within)
      | inr apart ↦ get_or-set_other marks place other true false apart ∙ h
    ]

only_one : (marks : List Bool) (place other : ℕ) → IsMarked (set marks place true) other → IsMarked marks other ⊎ (other ≡ place)
only_one marks place other h =
    elim (cases_eq other place) [
      | inl e ↦ inr e
      | inr apart ↦ inl (sym (get_or-set_other marks place other true false apart) ∙ h)
    ]

-- a place without a mark gets one and waits
pub grows_one : (s t : Staying) (place : ℕ) → place < length s.marks.items → get_or s.marks.items place false ≡ false →
    t.marks.items ≡ set s.marks.items place true → t.waiting.items ≡ s.waiting.items ++ (place ∷ []) → Grows (λ other. other ≡ place) s t
grows_one s t place within free marks waiting =
    let here : Contains t.waiting.items place = subst (λ ws. Contains ws place) (sym waiting) (Contains-push s.waiting.items place) in record {
      long = ap length marks ∙ length-set s.marks.items place true;
      keeps = λ other h. subst (λ ms. IsMarked ms other) (sym marks) (keeps_one s.marks.items place other within h);
      waits = λ other h. subst (λ ws. Contains ws other) (sym waiting) (Contains-append_left s.waiting.items (place ∷ []) other h);
      only = λ other h. elim (only_one s.marks.items place other (subst (λ ms. IsMarked ms other) marks h)) [
        | inl before ↦ inl before
        | inr e ↦ inr (e, subst (λ q. Contains t.waiting.items q) (sym e) here)
      ];
      marked = λ other h. elim (Contains-push_cases s.waiting.items place other (subst (λ ws. Contains ws other) waiting h)) [
        | inl before ↦ inl before
        | inr e ↦ inr (subst (λ q. IsMarked t.marks.items q) e (subst (λ ms. IsMarked ms place) (sym marks) (get_or-set_same s.marks.items place true false within)))
      ];
      count = omega (arith, ap length waiting, length_push s.waiting.items place, ap count_marks marks, counted_one s.marks.items place within free);
    }

pub marked_here : (s t : Staying) (place : ℕ) → place < length s.marks.items → t.marks.items ≡ set s.marks.items place true → IsMarked t.marks.items place
marked_here s t place within marks = subst (λ ms. IsMarked ms place) (sym marks) (get_or-set_same s.marks.items place true false within)

-- ---- marks of manifests

-- no manifest more, where P holds of none
pub spreads_none : (P : ManifestRow → Type 0) (rows : List ManifestRow) (s : Staying) →
    ((place : ℕ) (row : ManifestRow) → slice_get rows place ≡ Some row → P row → ⊥) → Spreads P rows s s
spreads_none P rows s none = record { grows = grows_none (HoldsThere P rows) s; all = λ place row at h. absurd (none place row at h) }

-- the manifest of a digest, at its one place
pub spreads_one : (rows : List ManifestRow) (digest : List ℕ) (place : ℕ) (s t : Staying) → Ascend (digests rows) →
    HoldsThere (λ row. row.digest ≡ digest) rows place → Grows (λ other. other ≡ place) s t → IsMarked t.marks.items place →
    Spreads (λ row. row.digest ≡ digest) rows s t
spreads_one rows digest place s t up there grows marked = record {
  grows = grows_weaker (λ other. other ≡ place) (HoldsThere (λ row. row.digest ≡ digest) rows) s t
      (λ other e. subst (λ q. HoldsThere (λ row. row.digest ≡ digest) rows q) (sym e) there) grows;
  all = λ other row at same.
      subst (λ q. IsMarked t.marks.items q) (one_place rows place other there.0 row up there.1 at (there.2 ∙ sym same)) marked;
}

-- those of which P holds, and then those of which Q does
pub spreads_more : (P Q R : ManifestRow → Type 0) (rows : List ManifestRow) (a b c : Staying) →
    ((row : ManifestRow) → P row → R row) → ((row : ManifestRow) → Q row → R row) → ((row : ManifestRow) → R row → P row ⊎ Q row) →
    Spreads P rows a b → Spreads Q rows b c → Spreads R rows a c
spreads_more P Q R rows a b c left right split f g = record {
  grows = grows_more (HoldsThere R rows) a b c
      (grows_weaker (HoldsThere P rows) (HoldsThere R rows) a b (λ place h. (h.0, h.1, left h.0 h.2)) f.grows)
      (grows_weaker (HoldsThere Q rows) (HoldsThere R rows) b c (λ place h. (h.0, h.1, right h.0 h.2)) g.grows);
  all = λ place row at h. elim (split row h) [
    | inl first ↦ g.grows.keeps place (f.all place row at first)
    | inr second ↦ g.all place row at second
  ];
}

-- the manifests of the first descriptors, and of one more
or_split : (a b : Bool) → (a || b) ≡ true → (a ≡ true) ⊎ (b ≡ true)
or_split true b h = inl refl
or_split false b h = inr h

pub spreads_further : (rows : List ManifestRow) (children : List Descriptor) (i : ℕ) (x : Descriptor) (a b c : Staying) → i < length children → x ≡ get_or children i x →
    Spreads (λ row. has_digest row.digest (take i children) ≡ true) rows a b → Spreads (λ row. row.digest ≡ x.digest) rows b c →
    Spreads (λ row. has_digest row.digest (take (i + 1) children) ≡ true) rows a c
spreads_further rows children i x a b c within is f g =
    let one : (row : ManifestRow) → has_digest row.digest (take (i + 1) children) ≡ (has_digest row.digest (take i children) || bytes_eq x.digest row.digest)
    = λ row. any_further (λ (child : Descriptor). bytes_eq child.digest row.digest) children i x within is in
    spreads_more (λ row. has_digest row.digest (take i children) ≡ true) (λ row. row.digest ≡ x.digest) (λ row. has_digest row.digest (take (i + 1) children) ≡ true) rows a b c
    (λ row h. one row ∙ or_left (has_digest row.digest (take i children)) (bytes_eq x.digest row.digest) h)
    (λ row h. one row ∙ or_right (has_digest row.digest (take i children)) (bytes_eq x.digest row.digest) (same_bytes x.digest row.digest (sym h)))
    (λ row h. elim (or_split (has_digest row.digest (take i children)) (bytes_eq x.digest row.digest) (sym (one row) ∙ h)) [
      | inl first ↦ inl first
      | inr second ↦ inr (sym (bytes_same x.digest row.digest second))
    ])
    f g

-- ---- the manifests that stay by themselves, one after another

abbrev pub RootsBelow : (ManifestRow → Bool) → List ManifestRow → ℕ → List Bool → Type 0
RootsBelow root rows i marks = (place : ℕ) (row : ManifestRow) → place < i → slice_get rows place ≡ Some row → root row ≡ true → IsMarked marks place

below_or_there : (place i : ℕ) → place < i + 1 → (place < i) ⊎ (place ≡ i)
below_or_there place i lt = elim (cases_lt place i) [ inl below ↦ inl below | inr there ↦ inr (omega arith) ]

pub roots_grow : (root : ManifestRow → Bool) (rows : List ManifestRow) (s t u : Staying) (i : ℕ) (row : ManifestRow) → slice_get rows i ≡ Some row → root row ≡ true →
    Grows (HoldsThere (λ r. root r ≡ true) rows) s t → Grows (λ other. other ≡ i) t u → Grows (HoldsThere (λ r. root r ≡ true) rows) s u
roots_grow root rows s t u i row at is before grows =
    grows_more (HoldsThere (λ r. root r ≡ true) rows) s t u before
    (grows_weaker (λ other. other ≡ i) (HoldsThere (λ r. root r ≡ true) rows) t u
    (λ other e. subst (λ q. HoldsThere (λ r. root r ≡ true) rows q) (sym e) (row, at, is)) grows)

pub roots_with : (root : ManifestRow → Bool) (rows : List ManifestRow) (t u : Staying) (i : ℕ) → RootsBelow root rows i t.marks.items →
    Grows (λ other. other ≡ i) t u → IsMarked u.marks.items i → RootsBelow root rows (i + 1) u.marks.items
roots_with root rows t u i before grows marked place row lt at is =
    elim (below_or_there place i lt) [
      | inl below ↦ grows.keeps place (before place row below at is)
      | inr there ↦ subst (λ q. IsMarked u.marks.items q) (sym there) marked
    ]

pub roots_without : (root : ManifestRow → Bool) (rows : List ManifestRow) (t : Staying) (i : ℕ) (here : ManifestRow) → slice_get rows i ≡ Some here → root here ≡ false →
    RootsBelow root rows i t.marks.items → RootsBelow root rows (i + 1) t.marks.items
roots_without root rows t i here at_here none before place row lt at is =
    elim (below_or_there place i lt) [
      | inl below ↦ before place row below at is
      | inr there ↦ absurd (true≢false (sym is ∙ ap root (same_row rows i row here (subst (λ q. slice_get rows q ≡ Some row) there at) at_here) ∙ none))
    ]
