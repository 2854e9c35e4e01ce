-- What a digest's objects stand for after each kind of write.
use Rattle.std.proofs.Common.{◌≡◌, ◌≢◌, ℕ, ◌⊎◌, inl, inr, true, false, List, Option, Some, None, is_some, IsSome, refl, sym, ap, subst, ◌∙◌}
use Rattle.std.specs.FinMap as map
use Rattle.std.specs.Str.{bytes_eq}
use Rattle.std.proofs.lemmas.Bool.{false_from_ne_true, true≢false}
use Rattle.std.proofs.lemmas.Slice.Eq.{bytes_eq-Decides}
use Rattle.zot_maps.proofs.Maps.{byte_order, get_elsewhere, get_here, removed_elsewhere, removed_here}
use Rattle.zot_names.specs.Name.{IsName}
use Rattle.zot_outside.specs.Objects.{Objects}
use Rattle.zot_links.specs.Changes.{SetsObject, SetsRecord}
use Rattle.zot_links.specs.Meaning.{IsFree, IsLink, IsWhole, Links, Stands, held, held_by, line_among, line_at, object_at, origin_of}
use Rattle.zot_links.specs.Records.{line_in}
use Rattle.zot_links.specs.declared.record_line.RecordLine.{RecordLine}

-- ---- options and names

pub decide : (name other : List ℕ) → (name ≡ other) ⊎ (name ≢ other)
decide name other =
    elim (bytes_eq name other) as (λ b. bytes_eq name other ≡ b → (name ≡ other) ⊎ (name ≢ other)) [
      | true ↦ λ is. inl ((bytes_eq-Decides name other).0 is)
      | false ↦ λ is. inr (λ same. true≢false (sym ((bytes_eq-Decides name other).1 same) ∙ is))
    ] refl

pub eq_true : (name other : List ℕ) → name ≡ other → bytes_eq name other ≡ true
eq_true name other is = (bytes_eq-Decides name other).1 is

pub eq_false : (name other : List ℕ) → name ≢ other → bytes_eq name other ≡ false
eq_false name other apart = false_from_ne_true (bytes_eq name other) (λ is. apart ((bytes_eq-Decides name other).0 is))

pub origin_some : (holder : Option (Option (List ℕ))) (origin : List ℕ) → origin_of holder ≡ Some origin → holder ≡ Some (Some origin)
origin_some None origin h = cc h
origin_some (Some None) origin h = cc h
origin_some (Some (Some other)) origin h = ap Some h

none_not_some : {X : Type 0} (x : Option X) → x ≡ None → IsSome x → ⊥
none_not_some x none some = true≢false (sym some ∙ ap is_some none)

not_both : {X : Type 0} (x : Option X) (y : X) → x ≡ None → x ≡ Some y → ⊥
not_both x y none some = let clash : None ≡ Some y = sym none ∙ some in cc clash

-- a whole holder isn't a link
pub whole_no_link : (links : Links) (name origin : List ℕ) → IsWhole links name → IsLink links name origin → ⊥
whole_no_link links name origin whole link = let clash : Some None ≡ Some (Some origin) = sym whole ∙ link in cc clash

-- ---- what a holder holds, by what is kept of it

abbrev pub holds : Objects → List ℕ → Links → List ℕ → Option (List ℕ)
holds objects digest links name = held_by (object_at objects digest) (object_at objects digest name) (origin_of (map.get links name))

pub held_by_near : (object before : List ℕ → Option (List ℕ)) (mine origin : Option (List ℕ)) → ((m : List ℕ) → origin ≡ Some m → object m ≡ before m) → held_by object mine origin ≡ held_by before mine origin
held_by_near object before None origin near = refl
held_by_near object before (Some bytes) None near = refl
held_by_near object before (Some bytes) (Some origin) near = near origin refl

pub held_is : (objects : Objects) (digest : List ℕ) (links : Links) → Stands objects digest links → (name : List ℕ) → IsName name → held objects digest name ≡ holds objects digest links name
unfolding held
held_is objects digest links s name is =
    elim (object_at objects digest name) as (λ o. object_at objects digest name ≡ o
    → held_by (object_at objects digest) o (origin_of (line_at objects digest name)) ≡ held_by (object_at objects digest) o (origin_of (map.get links name))) [
      | None ↦ λ _. refl
      | Some bytes ↦ λ has. ap (λ g. held_by (object_at objects digest) (Some bytes) g) (s.origins name (s.known name is (ap is_some has)))
    ] refl

-- the holder of an object of its own holds that, and a link what its origin has
pub whole_holds : (objects : Objects) (digest : List ℕ) (links : Links) (name : List ℕ) → IsWhole links name → holds objects digest links name ≡ object_at objects digest name
whole_holds objects digest links name whole = ap (λ h. held_by (object_at objects digest) (object_at objects digest name) (origin_of h)) whole ∙ own (object_at objects digest name) where
  own : (mine : Option (List ℕ)) → held_by (object_at objects digest) mine None ≡ mine
  own None = refl
  own (Some bytes) = refl

pub link_holds : (objects : Objects) (digest : List ℕ) (links : Links) (name origin : List ℕ) → IsSome (object_at objects digest name) → IsLink links name origin
    → holds objects digest links name ≡ object_at objects digest origin
link_holds objects digest links name origin has link =
    ap (λ h. held_by (object_at objects digest) (object_at objects digest name) (origin_of h)) link ∙ its (object_at objects digest name) has where
      its : (mine : Option (List ℕ)) → IsSome mine → held_by (object_at objects digest) mine (Some origin) ≡ object_at objects digest origin
      its None some = absurd (true≢false (sym some))
      its (Some bytes) some = refl

-- where no object changed, all is held as before
pub same_objects : (old new : Objects) (digest : List ℕ) (links : Links) → Stands old digest links → Stands new digest links → ((name : List ℕ) → object_at new digest name ≡ object_at old digest name)
    → (name : List ℕ) → IsName name → held new digest name ≡ held old digest name
same_objects old new digest links s now same name is =
    held_is new digest links now name is ∙ ap (λ o. held_by (object_at new digest) o (origin_of (map.get links name))) (same name)
    ∙ held_by_near (object_at new digest) (object_at old digest) (object_at old digest name) (origin_of (map.get links name)) (λ m _. same m)
    ∙ sym (held_is old digest links s name is)

-- no link needs the object of a link
pub link_free : (objects : Objects) (digest : List ℕ) (links : Links) (name origin : List ℕ) → Stands objects digest links → IsLink links name origin → IsFree links name
link_free objects digest links name origin s link other to = whole_no_link links name origin (s.whole other name to) link

-- where an object changed that no link needs, the others hold what they held
beside_holds : (old new : Objects) (digest name : List ℕ) (object : Option (List ℕ)) (links : Links) → SetsObject old digest name object new → IsFree links name
    → (other : List ℕ) → other ≢ name → holds new digest links other ≡ holds old digest links other
beside_holds old new digest name object links sets free other apart =
    ap (λ o. held_by (object_at new digest) o (origin_of (map.get links other))) (sets.beside other apart)
    ∙ held_by_near (object_at new digest) (object_at old digest) (object_at old digest other) (origin_of (map.get links other))
    (λ m e. sets.beside m (λ same. free other (origin_some (map.get links other) m e ∙ ap (λ n. Some (Some n)) same)))

-- ---- an object is set

module _ (old new : Objects) (digest name bytes : List ℕ) (links : Links) (s : Stands old digest links) (sets : SetsObject old digest name (Some bytes) new) where
  line_stays : (other : List ℕ) → line_at new digest other ≡ line_at old digest other
  line_stays other = ap (λ r. line_among r other) sets.lines

  there_now : IsSome (object_at new digest name)
  there_now = ap is_some sets.here

  -- of a holder
  pub own_stands : IsSome (map.get links name) → Stands new digest links
  own_stands holder = record {
    read = ap is_some sets.lines ∙ s.read;
    there = λ other h. elim (decide other name) [
      | inl same ↦ ap (λ n. is_some (object_at new digest n)) same ∙ there_now
      | inr apart ↦ ap is_some (sets.beside other apart) ∙ s.there other h
    ];
    known = λ other is h. elim (decide other name) [
      | inl same ↦ ap (λ n. is_some (map.get links n)) same ∙ holder
      | inr apart ↦ s.known other is (sym (ap is_some (sets.beside other apart)) ∙ h)
    ];
    origins = λ other h. ap origin_of (line_stays other) ∙ s.origins other h;
    whole = s.whole;
    named = λ other origin link. line_stays origin ∙ s.named other origin link;
  }

  -- of a link: nothing is held otherwise
  pub link_held : (origin : List ℕ) → IsLink links name origin → (other : List ℕ) → IsName other → held new digest other ≡ held old digest other
  link_held origin link other is =
      let holder : IsSome (map.get links name) = ap is_some link in
      let now = own_stands holder in
      let apart_from : origin ≢ name = λ same. whole_no_link links name origin (subst (IsWhole links) same (s.whole name origin link)) link in
      let middle : holds new digest links other ≡ holds old digest links other = elim (decide other name) [
        | inl same ↦
            ap (holds new digest links) same ∙ link_holds new digest links name origin there_now link ∙ sets.beside origin apart_from
            ∙ sym (link_holds old digest links name origin (s.there name holder) link) ∙ sym (ap (holds old digest links) same)
        | inr apart ↦ beside_holds old new digest name (Some bytes) links sets (link_free old digest links name origin s link) other apart
      ] in
      held_is new digest links now other is ∙ middle ∙ sym (held_is old digest links s other is)

  -- of a whole holder that no link needs: it holds these bytes
  pub whole_held_here : IsWhole links name → IsName name → held new digest name ≡ Some bytes
  whole_held_here whole is =
      held_is new digest links (own_stands (ap is_some whole)) name is ∙ whole_holds new digest links name whole ∙ sets.here

  pub whole_held_beside : IsWhole links name → IsFree links name → (other : List ℕ) → IsName other → other ≢ name → held new digest other ≡ held old digest other
  whole_held_beside whole free other is apart =
      held_is new digest links (own_stands (ap is_some whole)) other is ∙ beside_holds old new digest name (Some bytes) links sets free other apart
      ∙ sym (held_is old digest links s other is)

-- ---- an object is set, of a new holder, which has its line already

module _ (old new : Objects) (digest name bytes : List ℕ) (links : Links) (s : Stands old digest links) (sets : SetsObject old digest name (Some bytes) new)
    (origin : Option (List ℕ)) (absent : map.get links name ≡ None) (mine : line_at old digest name ≡ Some origin)
    (from : (m : List ℕ) → origin ≡ Some m → IsWhole links m × (line_at old digest m ≡ Some None)) where
  abbrev later : Links
  later = map.insert links name origin

  at_name : map.get later name ≡ Some origin
  at_name = get_here byte_order links name origin

  at_other : (other : List ℕ) → other ≢ name → map.get later other ≡ map.get links other
  at_other other apart = get_elsewhere byte_order links name origin other apart

  whole_apart : (other : List ℕ) → IsWhole links other → other ≢ name
  whole_apart other whole same = not_both (map.get links name) None absent (subst (IsWhole links) same whole)

  no_link_to : IsFree links name
  no_link_to other link = whole_apart name (s.whole other name link) refl

  later_link : (other m : List ℕ) → IsLink later other m → (IsWhole links m × (line_at old digest m ≡ Some None))
  later_link other m link = elim (decide other name) [
    | inl same ↦ let e : Some origin ≡ Some (Some m) = sym at_name ∙ sym (ap (map.get later) same) ∙ link in from m (cc e)
    | inr apart ↦ let before : IsLink links other m = sym (at_other other apart) ∙ link in (s.whole other m before, s.named other m before)
  ]

  pub new_stands : Stands new digest later
  new_stands = record {
    read = ap is_some sets.lines ∙ s.read;
    there = λ other h. elim (decide other name) [
      | inl same ↦ ap (λ n. is_some (object_at new digest n)) same ∙ there_now old new digest name bytes links s sets
      | inr apart ↦ ap is_some (sets.beside other apart) ∙ s.there other (sym (ap is_some (at_other other apart)) ∙ h)
    ];
    known = λ other is h. elim (decide other name) [
      | inl same ↦ ap (λ n. is_some (map.get later n)) same ∙ ap is_some at_name
      | inr apart ↦ ap is_some (at_other other apart) ∙ s.known other is (sym (ap is_some (sets.beside other apart)) ∙ h)
    ];
    origins = λ other h.
        let before : origin_of (line_at old digest other) ≡ origin_of (map.get later other) = elim (decide other name) [
          | inl same ↦ ap (λ n. origin_of (line_at old digest n)) same ∙ ap origin_of (mine ∙ sym at_name) ∙ sym (ap (λ n. origin_of (map.get later n)) same)
          | inr apart ↦ s.origins other (sym (ap is_some (at_other other apart)) ∙ h) ∙ sym (ap origin_of (at_other other apart))
        ] in
        ap origin_of (line_stays old new digest name bytes links s sets other) ∙ before;
    whole = λ other m link. let is = later_link other m link in at_other m (whole_apart m is.0) ∙ is.0;
    named = λ other m link. line_stays old new digest name bytes links s sets m ∙ (later_link other m link).1;
  }

  pub new_held_beside : (other : List ℕ) → IsName other → other ≢ name → held new digest other ≡ held old digest other
  new_held_beside other is apart =
      held_is new digest later new_stands other is
      ∙ ap (λ h. held_by (object_at new digest) (object_at new digest other) (origin_of h)) (at_other other apart)
      ∙ beside_holds old new digest name (Some bytes) links sets no_link_to other apart ∙ sym (held_is old digest links s other is)

  pub new_held_whole : origin ≡ None → IsName name → held new digest name ≡ Some bytes
  new_held_whole whole is =
      held_is new digest later new_stands name is ∙ whole_holds new digest later name (at_name ∙ ap Some whole) ∙ sets.here

  pub new_held_link : (m : List ℕ) → origin ≡ Some m → IsName name → held new digest name ≡ object_at old digest m
  new_held_link m link is =
      held_is new digest later new_stands name is ∙ link_holds new digest later name m (there_now old new digest name bytes links s sets) (at_name ∙ ap Some link)
      ∙ sets.beside m (whole_apart m (from m link).0)

-- ---- an object that no link needs is removed

module _ (old new : Objects) (digest name : List ℕ) (links : Links) (s : Stands old digest links) (free : IsFree links name) (sets : SetsObject old digest name None new) where
  abbrev left : Links
  left = map.remove links name

  left_other : (other : List ℕ) → other ≢ name → map.get left other ≡ map.get links other
  left_other other apart = removed_elsewhere byte_order links name other apart

  is_left : (other : List ℕ) → IsSome (map.get left other) → other ≢ name
  is_left other some same = none_not_some (map.get left other) (ap (map.get left) same ∙ removed_here byte_order links name) some

  was_link : (other m : List ℕ) → IsLink left other m → IsLink links other m
  was_link other m link = sym (left_other other (is_left other (ap is_some link))) ∙ link

  pub gone_stands : Stands new digest left
  gone_stands = record {
    read = ap is_some sets.lines ∙ s.read;
    there = λ other h. let apart = is_left other h in ap is_some (sets.beside other apart) ∙ s.there other (sym (ap is_some (left_other other apart)) ∙ h);
    known = λ other is h.
        let apart : other ≢ name = λ same. none_not_some (object_at new digest other) (ap (object_at new digest) same ∙ sets.here) h in
        ap is_some (left_other other apart) ∙ s.known other is (sym (ap is_some (sets.beside other apart)) ∙ h);
    origins = λ other h.
        let apart = is_left other h in
        ap (λ r. origin_of (line_among r other)) sets.lines ∙ s.origins other (sym (ap is_some (left_other other apart)) ∙ h) ∙ sym (ap origin_of (left_other other apart));
    whole = λ other m link.
        let before = was_link other m link in
        left_other m (λ same. free other (before ∙ ap (λ n. Some (Some n)) same)) ∙ s.whole other m before;
    named = λ other m link. ap (λ r. line_among r m) sets.lines ∙ s.named other m (was_link other m link);
  }

  pub gone_held_here : held new digest name ≡ None
  unfolding held
  gone_held_here = ap (λ o. held_by (object_at new digest) o (origin_of (line_at new digest name))) sets.here

  pub gone_held_beside : (other : List ℕ) → IsName other → other ≢ name → held new digest other ≡ held old digest other
  gone_held_beside other is apart =
      held_is new digest left gone_stands other is
      ∙ ap (λ h. held_by (object_at new digest) (object_at new digest other) (origin_of h)) (left_other other apart)
      ∙ beside_holds old new digest name None links sets free other apart ∙ sym (held_is old digest links s other is)

-- ---- a record is set

module _ (old new : Objects) (digest : List ℕ) (lines : List RecordLine) (links : Links) (s : Stands old digest links) (sets : SetsRecord old digest lines new)
    (later : Links) (all : (name : List ℕ) → line_in lines name ≡ map.get later name) where
  says_line : (name : List ℕ) → line_at new digest name ≡ map.get later name
  says_line name = ap (λ r. line_among r name) sets.says ∙ all name

-- with the lines of the same holders
module _ (old new : Objects) (digest : List ℕ) (lines : List RecordLine) (links : Links) (s : Stands old digest links) (sets : SetsRecord old digest lines new)
    (later : Links) (all : (name : List ℕ) → line_in lines name ≡ map.get later name)
    (same : (name : List ℕ) → is_some (map.get later name) ≡ is_some (map.get links name)) (whole : (name origin : List ℕ) → IsLink later name origin → IsWhole later origin) where
  pub record_stands : Stands new digest later
  record_stands = record {
    read = ap is_some sets.says;
    there = λ name h. ap is_some (sets.objects name) ∙ s.there name (sym (same name) ∙ h);
    known = λ name is h. same name ∙ s.known name is (sym (ap is_some (sets.objects name)) ∙ h);
    origins = λ name h. ap origin_of (says_line old new digest lines links s sets later all name);
    whole = whole;
    named = λ name origin link. says_line old new digest lines links s sets later all origin ∙ whole name origin link;
  }

  pub record_held : (name : List ℕ) → IsName name → held new digest name ≡ holds old digest later name
  record_held name is =
      held_is new digest later record_stands name is
      ∙ ap (λ o. held_by (object_at new digest) o (origin_of (map.get later name))) (sets.objects name)
      ∙ held_by_near (object_at new digest) (object_at old digest) (object_at old digest name) (origin_of (map.get later name)) (λ m _. sets.objects m)

-- with the same lines
module _ (old new : Objects) (digest : List ℕ) (lines : List RecordLine) (links : Links) (s : Stands old digest links) (sets : SetsRecord old digest lines new)
    (all : (name : List ℕ) → line_in lines name ≡ map.get links name) where
  pub again_stands : Stands new digest links
  again_stands = record_stands old new digest lines links s sets links all (λ _. refl) s.whole

  pub again_held : (name : List ℕ) → IsName name → held new digest name ≡ held old digest name
  again_held = same_objects old new digest links s again_stands sets.objects

-- with one line more, of a repository that has no object
module _ (old new : Objects) (digest : List ℕ) (lines : List RecordLine) (links : Links) (s : Stands old digest links) (sets : SetsRecord old digest lines new)
    (name : List ℕ) (origin : Option (List ℕ)) (absent : map.get links name ≡ None) (all : (other : List ℕ) → line_in lines other ≡ map.get (map.insert links name origin) other) where
  kept_line : (other : List ℕ) → IsSome (map.get links other) → line_at new digest other ≡ map.get links other
  kept_line other some =
      says_line old new digest lines links s sets (map.insert links name origin) all other
      ∙ get_elsewhere byte_order links name origin other (λ same. none_not_some (map.get links other) (ap (map.get links) same ∙ absent) some)

  pub more_stands : Stands new digest links
  more_stands = record {
    read = ap is_some sets.says;
    there = λ other h. ap is_some (sets.objects other) ∙ s.there other h;
    known = λ other is h. s.known other is (sym (ap is_some (sets.objects other)) ∙ h);
    origins = λ other h. ap origin_of (kept_line other h);
    whole = s.whole;
    named = λ other m link. let whole = s.whole other m link in kept_line m (ap is_some whole) ∙ whole;
  }

  pub more_line : line_at new digest name ≡ Some origin
  more_line = says_line old new digest lines links s sets (map.insert links name origin) all name ∙ get_here byte_order links name origin

  pub whole_line_there : (m : List ℕ) → IsWhole links m → line_at new digest m ≡ Some None
  whole_line_there m whole = kept_line m (ap is_some whole) ∙ whole

  pub more_held : (other : List ℕ) → IsName other → held new digest other ≡ held old digest other
  more_held = same_objects old new digest links s more_stands sets.objects

-- with another origin of one holder that no link needs
module _ (old new : Objects) (digest : List ℕ) (lines : List RecordLine) (links : Links) (s : Stands old digest links) (sets : SetsRecord old digest lines new)
    (name : List ℕ) (origin : Option (List ℕ)) (holder : IsSome (map.get links name)) (free : IsFree links name) (from : (m : List ℕ) → origin ≡ Some m → IsWhole links m × (m ≢ name))
    (all : (other : List ℕ) → line_in lines other ≡ map.get (map.insert links name origin) other) where
  abbrev changed : Links
  changed = map.insert links name origin

  changed_name : map.get changed name ≡ Some origin
  changed_name = get_here byte_order links name origin

  changed_other : (other : List ℕ) → other ≢ name → map.get changed other ≡ map.get links other
  changed_other other apart = get_elsewhere byte_order links name origin other apart

  changed_same : (other : List ℕ) → is_some (map.get changed other) ≡ is_some (map.get links other)
  changed_same other = elim (decide other name) [
    | inl same ↦ ap (λ n. is_some (map.get changed n)) same ∙ ap is_some changed_name ∙ sym (ap (λ n. is_some (map.get links n)) same ∙ holder)
    | inr apart ↦ ap is_some (changed_other other apart)
  ]

  changed_whole : (other m : List ℕ) → IsLink changed other m → IsWhole changed m
  changed_whole other m link = elim (decide other name) [
    | inl same ↦
        let e : Some origin ≡ Some (Some m) = sym changed_name ∙ sym (ap (map.get changed) same) ∙ link in
        let is = from m (cc e) in
        changed_other m is.1 ∙ is.0
    | inr apart ↦
        let before : IsLink links other m = sym (changed_other other apart) ∙ link in
        changed_other m (λ same. free other (before ∙ ap (λ n. Some (Some n)) same)) ∙ s.whole other m before
  ]

  pub set_stands : Stands new digest changed
  set_stands = record_stands old new digest lines links s sets changed all changed_same changed_whole

  pub set_held_beside : (other : List ℕ) → IsName other → other ≢ name → held new digest other ≡ held old digest other
  set_held_beside other is apart =
      record_held old new digest lines links s sets changed all changed_same changed_whole other is
      ∙ ap (λ h. held_by (object_at old digest) (object_at old digest other) (origin_of h)) (changed_other other apart) ∙ sym (held_is old digest links s other is)

  pub set_held_whole : origin ≡ None → IsName name → held new digest name ≡ object_at old digest name
  set_held_whole whole is =
      record_held old new digest lines links s sets changed all changed_same changed_whole name is ∙ whole_holds old digest changed name (changed_name ∙ ap Some whole)

  pub set_held_link : (m : List ℕ) → origin ≡ Some m → IsName name → held new digest name ≡ object_at old digest m
  set_held_link m link is =
      record_held old new digest lines links s sets changed all changed_same changed_whole name is ∙ link_holds old digest changed name m (s.there name holder) (changed_name ∙ ap Some link)
