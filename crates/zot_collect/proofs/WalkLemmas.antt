-- The walk from the manifests that stay by themselves to their descendants: what holds at each turn, and at its end.
use Rattle.std.proofs.Common.{◌≡◌, ◌⊎◌, inl, inr, ◌<◌, ◌≤◌, ◌+◌, ℕ, zero, suc, Bool, true, false, cond, List, [], ◌∷◌, ◌++◌, map, length, get_or, replicate, slice_get, Some, All, Contains, refl, sym, ap, subst, ◌∙◌, arith, true≢false}
use Rattle.std.specs.Str.{bytes_eq}
use Rattle.std.proofs.lemmas.Bool.{cases_lt, false_from_ne_true}
use Rattle.std.proofs.lemmas.List.{get_or-map, get_or-replicate, get_or_default, get_or_past, length-map, length-replicate, length_push, nil_from_length, same_lists}
use Rattle.std.proofs.lemmas.List.Elements.{Contains-append_left, Contains-push, Contains-push_cases}
use Rattle.std.proofs.lemmas.List.Folds.{sum_by-replicate}
use Rattle.std.proofs.lemmas.List.Sums.{count_by-le-length}
use Rattle.std.proofs.lemmas.Map.Keys.{sorted_tail}
use Rattle.std.proofs.lemmas.Option.{slice_get-get_or}
use Rattle.zot_collect.proofs.PlaceLemmas.{all_at, one_place, same_row}
use Rattle.zot_collect.proofs.SetLemmas.{bytes_same, same_bytes}
use Rattle.zot_collect.proofs.TestLemmas.{item_at}
use Rattle.zot_collect.specs.Marks.{AllMarked, AreLeast, AreRoots, Grows, IsMarked, IsReady, Spreads, count_marks}
use Rattle.zot_model.specs.Retire.{IsClosed, digests, is_child}
use Rattle.zot_model.specs.declared.manifest_row.ManifestRow.{ManifestRow}
use Rattle.zot_collect.specs.declared.staying.Staying.{Staying}
use Rattle.zot_digest.specs.ByteMap.{byte_cmp}
use Rattle.zot_media.specs.References.{has_digest}
use Rattle.zot_retention.specs.Kept.{Ascend}

-- ---- the opening

unmarked : (n place : ℕ) → get_or (replicate n false) place false ≡ false
unmarked n place =
    elim (cases_lt place n) [
      | inl lt ↦ get_or-replicate n place false false lt
      | inr ge ↦ get_or_past (replicate n false) place false (omega (arith, ge, length-replicate n false))
    ]

nothing_waits : (place : ℕ) → Contains [] place → ⊥
nothing_waits place h = omega (arith, h.1)

not_marked : (marks : List Bool) (n place : ℕ) → marks ≡ replicate n false → IsMarked marks place → ⊥
not_marked marks n place none h = true≢false (sym h ∙ ap (λ ms. get_or ms place false) none ∙ unmarked n place)

pub opening_ready : (P : ManifestRow → Type 0) (rows : List ManifestRow) (s t : Staying) → s.marks.items ≡ replicate (length rows) false → s.waiting.items ≡ [] →
    Spreads P rows s t → IsReady rows t
opening_ready P rows s t marks waiting spread = record {
  long = spread.grows.long ∙ ap length marks ∙ length-replicate (length rows) false;
  waits = λ place h. elim (spread.grows.only place h) [
    | inl before ↦ absurd (not_marked s.marks.items (length rows) place marks before)
    | inr new ↦ new.1
  ];
  marked = λ place h. elim (spread.grows.marked place h) [
    | inl before ↦ absurd (nothing_waits place (subst (λ ws. Contains ws place) waiting before))
    | inr new ↦ new
  ];
  count = omega (arith, spread.grows.count, ap length waiting, ap count_marks marks, sum_by-replicate (λ (m : Bool). cond m 1 0) (length rows) false);
}

pub opening_roots : (root : ManifestRow → Bool) (rows : List ManifestRow) (s t : Staying) → s.marks.items ≡ replicate (length rows) false →
    Spreads (λ row. root row ≡ true) rows s t → AreRoots root rows t.marks.items
opening_roots root rows s t marks spread = record {
  all = spread.all;
  only = λ place h. elim (spread.grows.only place h) [
    | inl before ↦ absurd (not_marked s.marks.items (length rows) place marks before)
    | inr new ↦ new.0
  ];
}

-- ---- each turn

-- the marks and those that wait, after so many turns
pub record IsUnderway (rows : List ManifestRow) (marks : List Bool) (waiting : List ℕ) (turns : ℕ) : Type 0 where
  pub long : length marks ≡ length rows
  pub marked : (place : ℕ) → Contains waiting place → IsMarked marks place
  pub count : length waiting + turns ≡ count_marks marks

-- marked are the manifests that stay by themselves, others only where each closed set has them, and the children of each that doesn't wait
pub record IsSpreading (root : ManifestRow → Bool) (rows : List ManifestRow) (marks : List Bool) (waiting : List ℕ) : Type 0 where
  pub roots : AllMarked (λ row. root row ≡ true) rows marks
  pub only : (other : List ℕ → Bool) → IsClosed root rows other → (place : ℕ) (row : ManifestRow) → slice_get rows place ≡ Some row → IsMarked marks place → other row.digest ≡ true
  pub done : (place : ℕ) (row : ManifestRow) → slice_get rows place ≡ Some row → IsMarked marks place →
      Contains waiting place ⊎ AllMarked (λ child. is_child row child ≡ true) rows marks

pub underway_first : (rows : List ManifestRow) (s : Staying) → IsReady rows s → IsUnderway rows s.marks.items s.waiting.items 0
underway_first rows s ready = record { long = ready.long; marked = ready.marked; count = omega (arith, ready.count) }

pub spreading_first : (root : ManifestRow → Bool) (rows : List ManifestRow) (s : Staying) → IsReady rows s → AreRoots root rows s.marks.items →
    IsSpreading root rows s.marks.items s.waiting.items
spreading_first root rows s ready roots = record {
  roots = roots.all;
  only = λ other closed place row at h.
      let there = roots.only place h in
      subst (λ (r : ManifestRow). other r.digest ≡ true) (same_row rows place there.0 row there.1 at)
      (all_at (λ (r : ManifestRow). root r ≡ true → other r.digest ≡ true) rows place there.0 closed.roots there.1 there.2);
  done = λ place row at h. inl (ready.waits place h);
}

-- a place that waits has a manifest
pub waiting_within : (rows : List ManifestRow) (marks : List Bool) (waiting rest : List ℕ) (turns place : ℕ) → IsUnderway rows marks waiting turns →
    waiting ≡ rest ++ (place ∷ []) → place < length rows
waiting_within rows marks waiting rest turns place underway last =
    let h = underway.marked place (subst (λ ws. Contains ws place) (sym last) (Contains-push rest place)) in
    elim (cases_lt place (length rows)) [
      | inl lt ↦ lt
      | inr ge ↦ absurd (true≢false (sym h ∙ get_or_past marks place false (omega (arith, ge, underway.long))))
    ]

pub underway_more : (P : ℕ → Type 0) (rows : List ManifestRow) (s t : Staying) (waiting : List ℕ) (turns place : ℕ) → IsUnderway rows s.marks.items waiting turns →
    waiting ≡ s.waiting.items ++ (place ∷ []) → Grows P s t → IsUnderway rows t.marks.items t.waiting.items (turns + 1)
underway_more P rows s t waiting turns place underway last grows = record {
  long = grows.long ∙ underway.long;
  marked = λ other h. elim (grows.marked other h) [
    | inl before ↦ grows.keeps other (underway.marked other (subst (λ ws. Contains ws other) (sym last) (still other before)))
    | inr new ↦ new
  ];
  count = omega (arith, grows.count, underway.count, ap length last, length_push s.waiting.items place);
} where
  still : (other : ℕ) → Contains s.waiting.items other → Contains (s.waiting.items ++ (place ∷ [])) other
  still other h = Contains-append_left s.waiting.items (place ∷ []) other h

pub spreading_more : (root : ManifestRow → Bool) (rows : List ManifestRow) (s t : Staying) (waiting : List ℕ) (place : ℕ) (parent : ManifestRow) →
    IsSpreading root rows s.marks.items waiting → IsMarked s.marks.items place → waiting ≡ s.waiting.items ++ (place ∷ []) → slice_get rows place ≡ Some parent →
    Spreads (λ row. has_digest row.digest parent.reading.children ≡ true) rows s t → IsSpreading root rows t.marks.items t.waiting.items
spreading_more root rows s t waiting place parent before here last at_parent spread = record {
  roots = λ other row at h. spread.grows.keeps other (before.roots other row at h);
  only = λ chosen closed other row at h. elim (spread.grows.only other h) [
    | inl old ↦ before.only chosen closed other row at old
    | inr new ↦
        let child = new.0 in
        let has_parent = before.only chosen closed place parent at_parent here in
        let has_children = all_at (λ (r : ManifestRow). chosen r.digest ≡ true → All (λ (q : ManifestRow). is_child r q ≡ true → chosen q.digest ≡ true) rows) rows place parent closed.children at_parent has_parent in
        subst (λ (r : ManifestRow). chosen r.digest ≡ true) (same_row rows other child.0 row child.1 at)
        (all_at (λ (q : ManifestRow). is_child parent q ≡ true → chosen q.digest ≡ true) rows other child.0 has_children child.1 child.2)
  ];
  done = λ other row at h. elim (spread.grows.only other h) [
    | inl old ↦ elim (before.done other row at old) [
      | inl waits ↦ elim (Contains-push_cases s.waiting.items place other (subst (λ ws. Contains ws other) last waits)) [
        | inl still ↦ inl (spread.grows.waits other still)
        | inr e ↦ inr (subst (λ (r : ManifestRow). AllMarked (λ child. is_child r child ≡ true) rows t.marks.items)
            (same_row rows other parent row (subst (λ q. slice_get rows q ≡ Some parent) e at_parent) at) spread.all)
      ]
      | inr all ↦ inr (λ place' child at' is. spread.grows.keeps place' (all place' child at' is))
    ]
    | inr new ↦ inl new.1
  ];
}

-- ---- the end

-- the mark of a digest's manifest
abbrev pub mark_of : List ManifestRow → List Bool → List ℕ → Bool
mark_of [] marks digest = false
mark_of (row ∷ rows) [] digest = false
mark_of (row ∷ rows) (mark ∷ marks) digest = cond (bytes_eq row.digest digest) mark (mark_of rows marks digest)

not_here : (place : ℕ) → zero ≡ suc place → ⊥
not_here place e = omega (arith, e)

mark_at_place : (rows : List ManifestRow) (marks : List Bool) (place : ℕ) (row : ManifestRow) → Ascend (digests rows) → length marks ≡ length rows →
    slice_get rows place ≡ Some row → mark_of rows marks row.digest ≡ get_or marks place false
mark_at_place [] marks place row up long at = cc at
mark_at_place (r ∷ rows) [] place row up long at = absurd (omega (arith, long))
mark_at_place (r ∷ rows) (m ∷ marks) zero row up long at =
    ap (λ (b : Bool). cond b m (mark_of rows marks row.digest))
    (same_bytes r.digest row.digest (ap (λ (other : ManifestRow). other.digest) (same_row (r ∷ rows) zero r row refl at)))
mark_at_place (r ∷ rows) (m ∷ marks) (suc place) row up long at =
    let apart = false_from_ne_true (bytes_eq r.digest row.digest) (λ h.
    not_here place (one_place (r ∷ rows) zero (suc place) r row up refl at (bytes_same r.digest row.digest h))) in
    ap (λ (b : Bool). cond b m (mark_of rows marks row.digest)) apart
    ∙ mark_at_place rows marks place row (sorted_tail byte_cmp r.digest (digests rows) up) (omega (arith, long)) at

-- where nothing waits, the marks are those of the least set
pub least_at_end : (root : ManifestRow → Bool) (rows : List ManifestRow) (marks : List Bool) (waiting : List ℕ) → Ascend (digests rows) → length marks ≡ length rows →
    waiting ≡ [] → IsSpreading root rows marks waiting → AreLeast root rows marks
least_at_end root rows marks waiting up long none spreading = record {
  chosen = mark_of rows marks;
  least = record {
    closed = record {
      roots = λ k d within h. chosen_at k (get_or rows k d) (slice_get-get_or rows k d within) (spreading.roots k (get_or rows k d) (slice_get-get_or rows k d within) h);
      children = λ k d within has j e inside is.
          let parent_at = slice_get-get_or rows k d within in
          let child_at = slice_get-get_or rows j e inside in
          elim (spreading.done k (get_or rows k d) parent_at (marked_at k (get_or rows k d) parent_at has)) [
            | inl waits ↦ absurd (nothing_waits k (subst (λ ws. Contains ws k) none waits))
            | inr all ↦ chosen_at j (get_or rows j e) child_at (all j (get_or rows j e) child_at is)
          ];
    };
    least = λ other closed k d within h.
        spreading.only other closed k (get_or rows k d) (slice_get-get_or rows k d within) (marked_at k (get_or rows k d) (slice_get-get_or rows k d within) h);
  };
  each = same_lists marks (map (λ row. mark_of rows marks row.digest) rows) (long ∙ sym (length-map rows (λ (row : ManifestRow). mark_of rows marks row.digest))) (λ k d within.
      let inside : k < length rows = omega (arith, long, within) in
      let item = item_at rows k inside in
      get_or_default marks k d false within
      ∙ sym (get_or-map (λ (row : ManifestRow). mark_of rows marks row.digest) rows k item.0 d inside
      ∙ mark_at_place rows marks k (get_or rows k item.0) up long (slice_get-get_or rows k item.0 inside)));
} where
  chosen_at : (place : ℕ) (row : ManifestRow) → slice_get rows place ≡ Some row → IsMarked marks place → mark_of rows marks row.digest ≡ true
  chosen_at place row at h = mark_at_place rows marks place row up long at ∙ h

  marked_at : (place : ℕ) (row : ManifestRow) → slice_get rows place ≡ Some row → mark_of rows marks row.digest ≡ true → IsMarked marks place
  marked_at place row at h = sym (mark_at_place rows marks place row up long at) ∙ h

-- after as many turns as there are manifests nothing waits
pub nothing_left : (rows : List ManifestRow) (marks : List Bool) (waiting : List ℕ) (turns : ℕ) → IsUnderway rows marks waiting turns → length rows ≤ turns → waiting ≡ []
nothing_left rows marks waiting turns underway all =
    nil_from_length waiting (omega (arith, underway.count, underway.long, count_by-le-length (λ (m : Bool). m) marks))
