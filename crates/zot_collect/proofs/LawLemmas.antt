-- Laws of what a collection removes.
use Rattle.std.proofs.Common.{◌≡◌, ℕ, Bool, true, false, cond, not, ◌&&◌, ◌||◌, List, [], ◌∷◌, map, get_or, Option, Some, None, All, Contains, refl, sym, ap, ap₂, subst, ◌∙◌, arith, true≢false}
use Rattle.std.specs.List.{AllByRecursion, filter, list_any}
use Rattle.std.specs.Str.{bytes_eq}
use Rattle.std.proofs.lemmas.Bool.{false_from_ne_true}
use Rattle.std.proofs.lemmas.List.Elements.{All-contains, All-contains_itself, All-from_recursion, All-map, filter_passes, recursion_from_All}
use Rattle.std.proofs.lemmas.List.Folds.{list_any_at}
use mathlib.Core.Path.{fun_ext}
use Rattle.zot_collect.proofs.SetLemmas.{bytes_same, same_bytes, same_tests}
use Rattle.zot_collect.specs.Retire.{GoneManifests, gone_tags, is_tagged, left_tags}
use Rattle.zot_model.specs.Retire.{AreOutside, GoWhere, IsClosed, IsLeast, is_child, is_root, left_manifests, manifests_without}
use Rattle.zot_model.specs.Sweep.{is_sweepable, swept}
use Rattle.zot_model.specs.declared.manifest_row.ManifestRow.{ManifestRow}
use Rattle.zot_retention.proofs.KeptLemmas.{kept_again}
use Rattle.zot_retention.specs.Kept.{is_kept, kept_rows}
use Rattle.zot_retention.specs.declared.policy.Policy.{Policy}
use Rattle.zot_retention.specs.declared.tag_row.TagRow.{TagRow}

-- ---- tests

pub not_true : (b : Bool) → not b ≡ true → b ≡ false
not_true true h = sym h
not_true false h = refl

not_not : (b : Bool) → not (not b) ≡ b
not_not true = refl
not_not false = refl

and_left : (a b : Bool) → (a && b) ≡ true → a ≡ true
and_left true b h = refl
and_left false b h = h

pub and_right : (a b : Bool) → (a && b) ≡ true → b ≡ true
and_right true b h = h
and_right false b h = absurd (true≢false (sym h))

and_both : (a b : Bool) → a ≡ true → b ≡ true → (a && b) ≡ true
and_both true b h k = k
and_both false b h k = h

-- ---- filters

one_apart : {X : Type 0} (q : X → Bool) (x : X) (others : List X) (stays : Bool) → (stays ≡ true → q x ≡ false) → filter q others ≡ [] → filter q (cond stays (x ∷ others) others) ≡ []
one_apart q x others true apart none = ap (λ (b : Bool). cond b (x ∷ filter q others) (filter q others)) (apart refl) ∙ none
one_apart q x others false apart none = none

-- nothing passes two tests of which each element fails one
none_both : {X : Type 0} (p q : X → Bool) (xs : List X) → AllByRecursion (λ x. p x ≡ true → q x ≡ false) xs → filter q (filter p xs) ≡ []
none_both p q [] apart = refl
none_both p q (x ∷ xs) apart = one_apart q x (filter p xs) (p x) apart.0 (none_both p q xs apart.1)

each : {X : Type 0} (P : X → Type 0) (xs : List X) → ((x : X) → P x) → AllByRecursion P xs
each P [] h = tt
each P (x ∷ xs) h = (h x, each P xs h)

-- where all pass, none fails
none_fails : {X : Type 0} (p : X → Bool) (xs : List X) → filter p xs ≡ xs → filter (λ x. not (p x)) xs ≡ []
none_fails p xs e = ap (filter (λ x. not (p x))) (sym e) ∙ none_both p (λ x. not (p x)) xs (each (λ x. p x ≡ true → not (p x) ≡ false) xs (λ x h. ap not h))

one_again : {X : Type 0} (p : X → Bool) (x : X) (xs : List X) (stays : Bool) → (stays ≡ true → p x ≡ true) → filter p xs ≡ xs →
    filter p (cond stays (x ∷ xs) xs) ≡ cond stays (x ∷ xs) xs
one_again p x xs true passes e = ap (λ (b : Bool). cond b (x ∷ filter p xs) (filter p xs)) (passes refl) ∙ ap (λ ys. x ∷ ys) e
one_again p x xs false passes e = e

filter_twice : {X : Type 0} (p : X → Bool) (xs : List X) → filter p (filter p xs) ≡ filter p xs
filter_twice p [] = refl
filter_twice p (x ∷ xs) = one_again p x (filter p xs) (p x) (λ h. h) (filter_twice p xs)

-- two tests that agree at each element keep the same elements
filter_where : {X : Type 0} (p q : X → Bool) (xs : List X) → AllByRecursion (λ x. p x ≡ q x) xs → filter p xs ≡ filter q xs
filter_where p q [] same = refl
filter_where p q (x ∷ xs) same = ap₂ (λ (b : Bool) ys. cond b (x ∷ ys) ys) same.0 (filter_where p q xs same.1)

any_one : {X : Type 0} (q : X → Bool) (x : X) (xs : List X) (stays : Bool) → list_any q (cond stays (x ∷ xs) xs) ≡ ((stays && q x) || list_any q xs)
any_one q x xs true = refl
any_one q x xs false = refl

any_filtered : {X : Type 0} (p q : X → Bool) (xs : List X) → list_any q (filter p xs) ≡ list_any (λ x. p x && q x) xs
any_filtered p q [] = refl
any_filtered p q (x ∷ xs) = any_one q x (filter p xs) (p x) ∙ ap (λ b. (p x && q x) || b) (any_filtered p q xs)

pub any_mapped : {X Y : Type 0} (f : X → Y) (q : Y → Bool) (xs : List X) → list_any q (map f xs) ≡ list_any (λ x. q (f x)) xs
any_mapped f q [] = refl
any_mapped f q (x ∷ xs) = ap (λ b. q (f x) || b) (any_mapped f q xs)

-- what holds of each that passes
one_of_filtered : {X : Type 0} (P : X → Type 0) (x : X) (xs : List X) (stays : Bool) → AllByRecursion P (cond stays (x ∷ xs) xs) → (stays ≡ true → P x) × AllByRecursion P xs
one_of_filtered P x xs true all = (λ _. all.0, all.1)
one_of_filtered P x xs false all = (λ h. absurd (true≢false (sym h)), all)

of_filtered : {X : Type 0} (P : X → Type 0) (p : X → Bool) (xs : List X) → AllByRecursion P (filter p xs) → AllByRecursion (λ x. p x ≡ true → P x) xs
of_filtered P p [] all = tt
of_filtered P p (x ∷ xs) all =
    let parts = one_of_filtered P x (filter p xs) (p x) all in
    (parts.0, of_filtered P p xs parts.1)

all_filtered : {X : Type 0} (P : X → Type 0) (p : X → Bool) (xs : List X) → All P (filter p xs) → All (λ x. p x ≡ true → P x) xs
all_filtered P p xs all = All-from_recursion (λ x. p x ≡ true → P x) xs (of_filtered P p xs (recursion_from_All P (filter p xs) all))

of_mapped : {X Y : Type 0} (P : Y → Type 0) (f : X → Y) (xs : List X) → AllByRecursion P (map f xs) → AllByRecursion (λ x. P (f x)) xs
of_mapped P f [] all = tt
of_mapped P f (x ∷ xs) all = (all.0, of_mapped P f xs all.1)

-- ---- blobs

pub none_swept_again : (manifests : List ManifestRow) (blobs : List (List ℕ × ℕ)) (moment delay : ℕ) →
    swept manifests (filter (λ blob. not (is_sweepable manifests moment delay blob)) blobs) moment delay ≡ []
none_swept_again manifests blobs moment delay =
    let test = is_sweepable manifests moment delay in
    ap (map (λ (blob : List ℕ × ℕ). blob.0))
    (none_both (λ blob. not (test blob)) test blobs (each (λ blob. not (test blob) ≡ true → test blob ≡ false) blobs (λ blob. not_true (test blob))))

-- ---- tags

kept_rows_are : (policy : Policy) (tags : List TagRow) (moment : ℕ) → kept_rows policy tags moment ≡ filter (is_kept policy tags moment) tags
unfolding kept_rows
kept_rows_are policy tags moment = refl

-- of the tags that are left all are kept
all_kept : (policy : Policy) (tags : List TagRow) (moment : ℕ) →
    filter (is_kept policy (kept_rows policy tags moment) moment) (kept_rows policy tags moment) ≡ kept_rows policy tags moment
all_kept policy tags moment = sym (kept_rows_are policy (kept_rows policy tags moment) moment) ∙ kept_again policy tags moment

pub no_tags_again : (policy : Option Policy) (tags : List TagRow) (moment : ℕ) → gone_tags policy (left_tags policy tags moment) moment ≡ []
no_tags_again None tags moment = refl
no_tags_again (Some policy) tags moment =
    let left = kept_rows policy tags moment in
    ap (map (λ (row : TagRow). row.tag)) (none_fails (is_kept policy left moment) left (all_kept policy tags moment))

-- the same digests have kept tags
tagged_still : (policy : Policy) (tags : List TagRow) (moment : ℕ) (digest : List ℕ) →
    is_tagged (is_kept policy (kept_rows policy tags moment) moment) (kept_rows policy tags moment) digest ≡ is_tagged (is_kept policy tags moment) tags digest
tagged_still policy tags moment digest =
    let left = kept_rows policy tags moment in
    let here = λ (row : TagRow). bytes_eq row.digest digest in
    sym (any_filtered (is_kept policy left moment) here left)
    ∙ ap (list_any here) (all_kept policy tags moment ∙ kept_rows_are policy tags moment)
    ∙ any_filtered (is_kept policy tags moment) here tags

-- ---- manifests

module _ (chosen : List ℕ → Bool) where
  one_gone : (digest : List ℕ) (row : ManifestRow) (b : Bool) → chosen row.digest ≡ b → (not b && bytes_eq row.digest digest) ≡ true → not (chosen digest) ≡ true
  one_gone digest row true e h = absurd (true≢false (sym h))
  one_gone digest row false e h = ap not (sym (ap chosen (bytes_same row.digest digest h)) ∙ e)

  -- a digest that is among those that go isn't chosen
  some_gone : (digest : List ℕ) (rows : List ManifestRow) → list_any (λ row. not (chosen row.digest) && bytes_eq row.digest digest) rows ≡ true → not (chosen digest) ≡ true
  some_gone digest [] h = absurd (true≢false (sym h))
  some_gone digest (row ∷ rows) h = split (not (chosen row.digest) && bytes_eq row.digest digest) refl h (some_gone digest rows)
    where
      split : (b : Bool) → (not (chosen row.digest) && bytes_eq row.digest digest) ≡ b → (b || list_any (λ r. not (chosen r.digest) && bytes_eq r.digest digest) rows) ≡ true →
          (list_any (λ r. not (chosen r.digest) && bytes_eq r.digest digest) rows ≡ true → not (chosen digest) ≡ true) → not (chosen digest) ≡ true
      split true e k others = one_gone digest row (chosen row.digest) refl e
      split false e k others = others k

  -- what is left are the chosen ones
  left_are : (manifests : List ManifestRow) (gone : List (List ℕ)) → gone ≡ manifests_without (λ row. chosen row.digest) manifests →
      left_manifests gone manifests ≡ filter (λ row. chosen row.digest) manifests
  left_are manifests gone is =
      filter_where (λ row. not (list_any (λ digest. bytes_eq digest row.digest) gone)) (λ row. chosen row.digest) manifests
      (recursion_from_All (λ row. not (list_any (λ digest. bytes_eq digest row.digest) gone) ≡ chosen row.digest) manifests (λ k d within.
      let row = get_or manifests k d in
      let test = λ (other : ManifestRow). not (chosen other.digest) && bytes_eq other.digest row.digest in
      let among : list_any (λ digest. bytes_eq digest row.digest) gone ≡ list_any test manifests =
      ap (list_any (λ digest. bytes_eq digest row.digest)) is
      ∙ any_mapped (λ (other : ManifestRow). other.digest) (λ digest. bytes_eq digest row.digest) (filter (λ other. not (chosen other.digest)) manifests)
      ∙ any_filtered (λ (other : ManifestRow). not (chosen other.digest)) (λ other. bytes_eq other.digest row.digest) manifests in
      ap not (among ∙ same_tests (list_any test manifests) (not (chosen row.digest)) (some_gone row.digest manifests)
      (λ h. list_any_at test manifests k d within (and_both (not (chosen row.digest)) (bytes_eq row.digest row.digest) h (same_bytes row.digest row.digest refl))))
      ∙ not_not (chosen row.digest)))

-- all that the least set has is in the least set of what is left
least_again : (root : ManifestRow → Bool) (manifests : List ManifestRow) (first second : List ℕ → Bool) → IsLeast root manifests first →
    IsClosed root (filter (λ row. first row.digest) manifests) second → All (λ row. first row.digest ≡ true → second row.digest ≡ true) manifests
least_again root manifests first second least again =
    let left = filter (λ (row : ManifestRow). first row.digest) manifests in
    let in_left = λ (row : ManifestRow). first row.digest in
    let roots = all_filtered (λ (row : ManifestRow). root row ≡ true → second row.digest ≡ true) in_left manifests again.roots in
    let children = all_filtered (λ (parent : ManifestRow). second parent.digest ≡ true → All (λ (row : ManifestRow). is_child parent row ≡ true → second row.digest ≡ true) left) in_left manifests again.children in
    let both = least.least (λ digest. first digest && second digest) (record {
      roots = λ k d within h.
          let has = least.closed.roots k d within h in
          and_both (first (get_or manifests k d).digest) (second (get_or manifests k d).digest) has (roots k d within has h);
      children = λ k d within has j e inside is.
          let parent = get_or manifests k d in
          let child = get_or manifests j e in
          let has_first = and_left (first parent.digest) (second parent.digest) has in
          let has_second = and_right (first parent.digest) (second parent.digest) has in
          let in_first = least.closed.children k d within has_first j e inside is in
          and_both (first child.digest) (second child.digest) in_first
          (all_filtered (λ (row : ManifestRow). is_child parent row ≡ true → second row.digest ≡ true) in_left manifests (children k d within has_first has_second) j e inside in_first is);
    }) in
    λ k d within h. and_right (first (get_or manifests k d).digest) (second (get_or manifests k d).digest) (both k d within h)

outside_again : (root : ManifestRow → Bool) (manifests : List ManifestRow) (gone again : List (List ℕ)) → AreOutside root manifests gone →
    AreOutside root (left_manifests gone manifests) again → again ≡ []
outside_again root manifests gone again first second =
    let in_left = λ (row : ManifestRow). first.chosen row.digest in
    let left = left_are first.chosen manifests gone first.others in
    let closed = subst (λ rows. IsClosed root rows second.chosen) left second.least.closed in
    let all = least_again root manifests first.chosen second.chosen first.least closed in
    second.others
    ∙ ap (manifests_without (λ row. second.chosen row.digest)) left
    ∙ ap (map (λ (row : ManifestRow). row.digest)) (none_both in_left (λ row. not (second.chosen row.digest)) manifests
    (recursion_from_All (λ row. in_left row ≡ true → not (second.chosen row.digest) ≡ false) manifests (λ k d within h. ap not (all k d within h))))

go_again : (deletes : Bool) (root : ManifestRow → Bool) (manifests : List ManifestRow) (gone again : List (List ℕ)) → GoWhere deletes root manifests gone →
    GoWhere deletes root (left_manifests gone manifests) again → again ≡ []
go_again false root manifests gone again first second = second
go_again true root manifests gone again first second = outside_again root manifests gone again first second

pub no_manifests_again : (policy : Option Policy) (tags : List TagRow) (manifests : List ManifestRow) (moment delay : ℕ) (gone again : List (List ℕ)) →
    GoneManifests policy tags manifests moment delay gone →
    GoneManifests policy (left_tags policy tags moment) (left_manifests gone manifests) moment delay again → again ≡ []
no_manifests_again None tags manifests moment delay gone again first second = second
no_manifests_again (Some policy) tags manifests moment delay gone again first second =
    go_again policy.delete_untagged (is_root (is_tagged (is_kept policy tags moment) tags) moment delay) manifests gone again first
    (subst (λ (tagged : List ℕ → Bool). GoWhere policy.delete_untagged (is_root tagged moment delay) (left_manifests gone manifests) again)
    (fun_ext (tagged_still policy tags moment)) second)

pub gone_once : (gone : List (List ℕ)) (manifests : List ManifestRow) → left_manifests gone (left_manifests gone manifests) ≡ left_manifests gone manifests
gone_once gone manifests = filter_twice (λ row. not (list_any (λ digest. bytes_eq digest row.digest) gone)) manifests

-- ---- children

not_among_none : (digest : List ℕ) → Contains [] digest → ⊥
not_among_none digest h = omega (arith, h.1)

-- what goes isn't chosen, and what isn't chosen goes
gone_not_chosen : (chosen : List ℕ → Bool) (manifests : List ManifestRow) (digest : List ℕ) → Contains (manifests_without (λ row. chosen row.digest) manifests) digest →
    not (chosen digest) ≡ true
gone_not_chosen chosen manifests digest =
    let out = filter (λ (row : ManifestRow). not (chosen row.digest)) manifests in
    All-contains (λ d. not (chosen d) ≡ true) (map (λ (row : ManifestRow). row.digest) out) digest
    (All-map (λ d. not (chosen d) ≡ true) (λ (row : ManifestRow). row.digest) out (filter_passes (λ (row : ManifestRow). not (chosen row.digest)) manifests))

not_chosen_gone : (chosen : List ℕ → Bool) (manifests : List ManifestRow) (row : ManifestRow) → Contains manifests row → not (chosen row.digest) ≡ true →
    Contains (manifests_without (λ other. chosen other.digest) manifests) row.digest
not_chosen_gone chosen manifests row here =
    let test = λ (other : ManifestRow). not (chosen other.digest) in
    let gone = map (λ (other : ManifestRow). other.digest) (filter test manifests) in
    let each_there = of_mapped (Contains gone) (λ (other : ManifestRow). other.digest) (filter test manifests) (recursion_from_All (Contains gone) gone (All-contains_itself gone)) in
    All-contains (λ (other : ManifestRow). test other ≡ true → Contains gone other.digest) manifests row
    (All-from_recursion (λ (other : ManifestRow). test other ≡ true → Contains gone other.digest) manifests
    (of_filtered (λ (other : ManifestRow). Contains gone other.digest) test manifests each_there)) here

outside_with_parents : (root : ManifestRow → Bool) (manifests : List ManifestRow) (gone : List (List ℕ)) (parent child : ManifestRow) → AreOutside root manifests gone →
    Contains manifests parent → Contains manifests child → is_child parent child ≡ true → Contains gone child.digest → Contains gone parent.digest
outside_with_parents root manifests gone parent child outside has_parent has_child is goes =
    let chosen = outside.chosen in
    let child_out = gone_not_chosen chosen manifests child.digest (subst (λ all. Contains all child.digest) outside.others goes) in
    let parent_out : chosen parent.digest ≡ false = false_from_ne_true (chosen parent.digest) (λ h.
    let children = All-contains (λ (r : ManifestRow). chosen r.digest ≡ true → All (λ (q : ManifestRow). is_child r q ≡ true → chosen q.digest ≡ true) manifests) manifests parent outside.least.closed.children has_parent h in
    let in_chosen = All-contains (λ (q : ManifestRow). is_child parent q ≡ true → chosen q.digest ≡ true) manifests child children has_child is in
    true≢false (sym child_out ∙ ap not in_chosen)) in
    subst (λ all. Contains all parent.digest) (sym outside.others) (not_chosen_gone chosen manifests parent has_parent (ap not parent_out))

go_with_parents : (deletes : Bool) (root : ManifestRow → Bool) (manifests : List ManifestRow) (gone : List (List ℕ)) (parent child : ManifestRow) → GoWhere deletes root manifests gone →
    Contains manifests parent → Contains manifests child → is_child parent child ≡ true → Contains gone child.digest → Contains gone parent.digest
go_with_parents false root manifests gone parent child none has_parent has_child is goes =
    absurd (not_among_none child.digest (subst (λ all. Contains all child.digest) none goes))
go_with_parents true root manifests gone parent child outside has_parent has_child is goes = outside_with_parents root manifests gone parent child outside has_parent has_child is goes

pub gone_with_parents : (policy : Option Policy) (tags : List TagRow) (manifests : List ManifestRow) (moment delay : ℕ) (gone : List (List ℕ)) (parent child : ManifestRow) →
    GoneManifests policy tags manifests moment delay gone → Contains manifests parent → Contains manifests child → is_child parent child ≡ true →
    Contains gone child.digest → Contains gone parent.digest
gone_with_parents None tags manifests moment delay gone parent child none has_parent has_child is goes =
    absurd (not_among_none child.digest (subst (λ all. Contains all child.digest) none goes))
gone_with_parents (Some policy) tags manifests moment delay gone parent child go has_parent has_child is goes =
    go_with_parents policy.delete_untagged (is_root (is_tagged (is_kept policy tags moment) tags) moment delay) manifests gone parent child go has_parent has_child is goes
