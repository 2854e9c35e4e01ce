-- A link becomes whole: its record and its origin's bytes change, and nothing is held otherwise.
use Rattle.std.proofs.Common.{◌≡◌, ◌≢◌, ℕ, ◌⊎◌, inl, inr, true, false, List, Option, Some, None, is_some, refl, sym, ap, subst, ◌∙◌}
use Rattle.std.specs.Prelude.{if◌then◌else◌, option_map}
use Rattle.std.specs.FinMap as map
use Rattle.std.specs.Str.{bytes_eq}
use Rattle.std.proofs.lemmas.Slice.Eq.{bytes_eq-Decides}
use Rattle.zot_names.specs.Name.{IsName}
use Rattle.zot_outside.specs.Objects.{Objects}
use Rattle.zot_links.proofs.StandLemmas.{decide, eq_false, eq_true, held_is, holds, link_holds, record_held, record_stands, whole_holds, whole_no_link}
use Rattle.zot_links.specs.Changes.{SetsRecord}
use Rattle.zot_links.specs.Meaning.{IsLink, IsTight, IsWhole, Links, Stands, held, held_by, object_at, origin_of}
use Rattle.zot_links.specs.Promotion.{promote, redirect}
use Rattle.zot_links.specs.Records.{line_in}
use Rattle.zot_links.specs.declared.record_line.RecordLine.{RecordLine}

mapped_some : (f : Option (List ℕ) → Option (List ℕ)) (holder : Option (Option (List ℕ))) → is_some (option_map f holder) ≡ is_some holder
mapped_some f None = refl
mapped_some f (Some origin) = refl

-- a holder that is a link after the redirection was one before
redirected_link : (name least m : List ℕ) (holder : Option (Option (List ℕ))) → option_map (redirect name least) holder ≡ Some (Some m)
    → (least ≡ m) ⊎ ((holder ≡ Some (Some m)) × (m ≢ name))
redirected_link name least m None h = cc h
redirected_link name least m (Some None) h = cc h
redirected_link name least m (Some (Some origin)) h =
    elim (bytes_eq origin name) as (λ b. bytes_eq origin name ≡ b → Some (if b then Some least else Some origin) ≡ Some (Some m) → (least ≡ m) ⊎ (◌≡◌ {A = Option (Option (List ℕ))} (Some (Some origin)) (Some (Some m)) × (m ≢ name))) [
      | true ↦ λ is k. inl (cc k)
      | false ↦ λ is k. let same : origin ≡ m = cc k in inr (k, λ e. let clash : false ≡ true = sym is ∙ eq_true origin name (same ∙ e) in cc clash)
    ] refl h

-- what a link holds doesn't change where its new origin has the same
redirect_holds : (object : List ℕ → Option (List ℕ)) (name least : List ℕ) (mine : Option (List ℕ)) (holder : Option (Option (List ℕ))) → object least ≡ object name
    → held_by object mine (origin_of (option_map (redirect name least) holder)) ≡ held_by object mine (origin_of holder)
redirect_holds object name least mine None same = refl
redirect_holds object name least mine (Some None) same = refl
redirect_holds object name least None (Some (Some origin)) same =
    elim (bytes_eq origin name) as (λ b. held_by object None (if b then Some least else Some origin) ≡ None) [ true ↦ refl | false ↦ refl ]
redirect_holds object name least (Some bytes) (Some (Some origin)) same =
    elim (bytes_eq origin name) as (λ b. bytes_eq origin name ≡ b → held_by object (Some bytes) (if b then Some least else Some origin) ≡ object origin) [
      | true ↦ λ is. same ∙ sym (ap object ((bytes_eq-Decides origin name).0 is))
      | false ↦ λ is. refl
    ] refl

module _ (old new : Objects) (digest : List ℕ) (lines : List RecordLine) (links later : Links) (s : Stands old digest links) (sets : SetsRecord old digest lines new)
    (name least : List ℕ) (whole : IsWhole links name) (link : IsLink links least name) (same : object_at old digest least ≡ object_at old digest name)
    (all : (other : List ℕ) → line_in lines other ≡ map.get later other) (is : (other : List ℕ) → map.get later other ≡ promote name least other (map.get links other)) where
  two : name ≢ least
  two e = whole_no_link links least name (subst (IsWhole links) e whole) link

  at_least : IsWhole later least
  at_least = is least ∙ ap (λ b. if b then Some None else if bytes_eq least name then Some (Some least) else option_map (redirect name least) (map.get links least)) (eq_true least least refl)

  pub at_name : IsLink later name least
  at_name =
      is name ∙ ap (λ b. if b then Some None else if bytes_eq name name then Some (Some least) else option_map (redirect name least) (map.get links name)) (eq_false name least two)
      ∙ ap (λ b. if b then Some (Some least) else option_map (redirect name least) (map.get links name)) (eq_true name name refl)

  at_rest : (other : List ℕ) → other ≢ least → other ≢ name → map.get later other ≡ option_map (redirect name least) (map.get links other)
  at_rest other first second =
      is other ∙ ap (λ b. if b then Some None else if bytes_eq other name then Some (Some least) else option_map (redirect name least) (map.get links other)) (eq_false other least first)
      ∙ ap (λ b. if b then Some (Some least) else option_map (redirect name least) (map.get links other)) (eq_false other name second)

  same_holders : (other : List ℕ) → is_some (map.get later other) ≡ is_some (map.get links other)
  same_holders other = elim (decide other least) [
    | inl e ↦ ap (λ n. is_some (map.get later n)) e ∙ ap is_some at_least ∙ sym (ap (λ n. is_some (map.get links n)) e ∙ ap is_some link)
    | inr first ↦ elim (decide other name) [
      | inl e ↦ ap (λ n. is_some (map.get later n)) e ∙ ap is_some at_name ∙ sym (ap (λ n. is_some (map.get links n)) e ∙ ap is_some whole)
      | inr second ↦ ap is_some (at_rest other first second) ∙ mapped_some (redirect name least) (map.get links other)
    ]
  ]

  pub whole_rest : (m : List ℕ) → IsWhole links m → m ≢ name → IsWhole later m
  whole_rest m is_whole second =
      at_rest m (λ e. whole_no_link links least name (subst (IsWhole links) e is_whole) link) second ∙ ap (option_map (redirect name least)) is_whole

  origin_whole : (other m : List ℕ) → IsLink later other m → IsWhole later m
  origin_whole other m to = elim (decide other least) [
    | inl e ↦ absurd (whole_no_link later least m at_least (sym (ap (map.get later) e) ∙ to))
    | inr first ↦ elim (decide other name) [
      | inl e ↦
          let k : Some (Some least) ≡ Some (Some m) = sym at_name ∙ sym (ap (map.get later) e) ∙ to in
          let one : least ≡ m = cc k in
          subst (IsWhole later) one at_least
      | inr second ↦ elim (redirected_link name least m (map.get links other) (sym (at_rest other first second) ∙ to)) [
        | inl one ↦ subst (IsWhole later) one at_least
        | inr before ↦ whole_rest m (s.whole other m before.0) before.1
      ]
    ]
  ]

  pub promoted_stands : Stands new digest later
  promoted_stands = record_stands old new digest lines links s sets later all same_holders origin_whole

  promoted_holds : (other : List ℕ) → holds old digest later other ≡ holds old digest links other
  promoted_holds other = elim (decide other least) [
    | inl e ↦
        ap (holds old digest later) e ∙ whole_holds old digest later least at_least ∙ same
        ∙ sym (ap (holds old digest links) e ∙ link_holds old digest links least name (s.there least (ap is_some link)) link)
    | inr first ↦ elim (decide other name) [
      | inl e ↦
          ap (holds old digest later) e ∙ link_holds old digest later name least (s.there name (ap is_some whole)) at_name ∙ same
          ∙ sym (ap (holds old digest links) e ∙ whole_holds old digest links name whole)
      | inr second ↦
          ap (λ h. held_by (object_at old digest) (object_at old digest other) (origin_of h)) (at_rest other first second)
          ∙ redirect_holds (object_at old digest) name least (object_at old digest other) (map.get links other) same
    ]
  ]

  pub promoted_held : (other : List ℕ) → IsName other → held new digest other ≡ held old digest other
  promoted_held other named =
      record_held old new digest lines links s sets later all same_holders origin_whole other named ∙ promoted_holds other ∙ sym (held_is old digest links s other named)

  -- a whole holder after it is the former link, or was whole and is another
  pub was_whole : (other : List ℕ) → IsWhole later other → (other ≡ least) ⊎ (IsWhole links other × (other ≢ name))
  was_whole other now = elim (decide other least) [
    | inl e ↦ inl e
    | inr first ↦ elim (decide other name) [
      | inl e ↦ absurd (whole_no_link later name least (sym (ap (map.get later) e) ∙ now) at_name)
      | inr second ↦ inr (unmapped (map.get links other) (sym (at_rest other first second) ∙ now), second)
    ]
  ] where
    unmapped : (holder : Option (Option (List ℕ))) → option_map (redirect name least) holder ≡ Some None → holder ≡ Some None
    unmapped None h = cc h
    unmapped (Some None) h = refl
    unmapped (Some (Some origin)) h =
        elim (bytes_eq origin name) as (λ b. Some (if b then Some least else Some origin) ≡ Some None → ◌≡◌ {A = Option (Option (List ℕ))} (Some (Some origin)) (Some None)) [ true ↦ λ k. cc k | false ↦ λ k. k ] h

  pub promoted_tight : IsTight old digest links → IsTight new digest later
  promoted_tight tight one other bytes first second has also some = elim (was_whole one first) [
    | inl e ↦ elim (was_whole other second) [
      | inl f ↦ e ∙ sym f
      | inr was ↦ absurd (was.1 (sym (tight name other bytes whole was.0 (sym same ∙ sym (ap (object_at old digest) e) ∙ sym (sets.objects one) ∙ has) (sym (sets.objects other) ∙ also) some)))
    ]
    | inr was ↦ elim (was_whole other second) [
      | inl f ↦ absurd (was.1 (tight one name bytes was.0 whole (sym (sets.objects one) ∙ has) (sym same ∙ sym (ap (object_at old digest) f) ∙ sym (sets.objects other) ∙ also) some))
      | inr also_was ↦ tight one other bytes was.0 also_was.0 (sym (sets.objects one) ∙ has) (sym (sets.objects other) ∙ also) some
    ]
  ]
