-- The holders of a digest found at an opening: what the lines of its record make of the repositories that have objects.
use Rattle.std.proofs.Common.{◌≡◌, ◌≢◌, ◌⊎◌, ℕ, inl, inr, cond, List, [], ◌∷◌, ◌++◌, length, map, Option, Some, None, is_some, IsSome, refl, sym, ap, subst, ◌∙◌}
use Rattle.std.specs.Prelude.{IfSome, unwrap_or}
use Rattle.std.specs.BTreeMap.{insert_entry}
use Rattle.std.specs.FinMap as finite
use Rattle.std.specs.FinMap.{get-empty, get-from_entries}
use Rattle.std.specs.FinMap.Entries.{find}
use Rattle.std.specs.List.{AllByRecursion}
use Rattle.std.specs.List.Sorted.{IsStrictlySortedBy}
use Rattle.std.proofs.lemmas.Bool.{true≢false}
use Rattle.zot_digest.specs.ByteMap.{byte_cmp, map_of}
use Rattle.zot_maps.proofs.Maps.{byte_order, get_elsewhere, get_here, other_key, same_key}
use Rattle.zot_names.specs.Name.{IsName}
use Rattle.zot_outside.specs.Objects.{Objects, bytes_at}
use Rattle.zot_links.proofs.LineLemmas.{no_lines}
use Rattle.zot_links.proofs.LinkLemmas.{copied_more}
use Rattle.zot_links.proofs.RecordLemmas.{record_is}
use Rattle.zot_links.proofs.StandLemmas.{decide}
use Rattle.zot_links.specs.Meaning.{HasMeaning, IsLink, Links, Stands, line_among, line_at, origin_of, record_at, record_in, record_path}
use Rattle.zot_links.specs.Opening.{Dangles, HasObjects, LacksMeaning, Line, Opens, Strays}
use Rattle.zot_links.specs.Records.{AreLines, NamesRepos, line_in, pair_of, record_of}
use Rattle.zot_links.specs.declared.record_line.RecordLine.{RecordLine}

abbrev pub Entries : Type 0
Entries = List (List ℕ × Option (List ℕ))

-- ---- the tree of a record's lines

none_left : {X : Type 0} (left : List X) → length left ≡ 0 → left ≡ []
none_left [] h = refl
none_left (next ∷ left) h = cc h

-- an iterator that has nothing left
pub none_in : {X : Type 0} (left : List X) (n : ℕ) → n ≡ length left → n ≡ 0 → left ≡ []
none_in left n long none = none_left left (sym long ∙ none)

names_of_pairs : (lines : List RecordLine) → map (λ (e : List ℕ × Option (List ℕ)). e.0) (map pair_of lines) ≡ map (λ (line : RecordLine). line.name) lines
names_of_pairs [] = refl
names_of_pairs (line ∷ lines) = ap (λ ns. line.name ∷ ns) (names_of_pairs lines)

pub line_put : (lines rest : List RecordLine) (made new : Entries) (line : RecordLine) → AreLines lines → map pair_of lines ≡ made ++ map pair_of (line ∷ rest)
    → new ≡ insert_entry byte_cmp made line.name line.origin → map pair_of lines ≡ new ++ map pair_of rest
line_put lines rest made new line are is put =
    copied_more (map pair_of lines) made new (map pair_of rest) line.name line.origin is (subst (IsStrictlySortedBy byte_cmp) (sym (names_of_pairs lines)) are.ascend) put

pub lines_put : (lines : List RecordLine) (made : Entries) (tree : Links) → map pair_of lines ≡ made → tree ≡ map_of made → (name : List ℕ) → finite.get tree name ≡ line_in lines name
lines_put lines made tree is of name = ap (λ m. finite.get m name) of ∙ get-from_entries byte_order.total made name ∙ ap (find byte_cmp name) (sym is)

-- ---- holders one after another

found_here : (name : List ℕ) (value : Option (List ℕ)) (rest : Entries) → find byte_cmp name ((name, value) ∷ rest) ≡ Some value
found_here name value rest = ap (λ b. cond b (Some value) (find byte_cmp name rest)) (same_key byte_order name)

found_beside : (name other : List ℕ) (value : Option (List ℕ)) (rest : Entries) → other ≢ name → find byte_cmp other ((name, value) ∷ rest) ≡ find byte_cmp other rest
found_beside name other value rest apart = ap (λ b. cond b (Some value) (find byte_cmp other rest)) (other_key byte_order other name apart)

-- the repositories that were found are these holders and those that are left, and the holders have the origins of their lines
pub record HasOpened (line : Line) (found : Links) (rest : Entries) (links : Links) : Type 0 where
  pub each : (name : List ℕ) → IsSome (finite.get found name) → IsSome (finite.get links name) ⊎ IsSome (find byte_cmp name rest)
  pub among : (name : List ℕ) → IsSome (finite.get links name) → IsSome (finite.get found name)
  pub left : (name : List ℕ) → IsSome (find byte_cmp name rest) → IsSome (finite.get found name)
  pub named : (name : List ℕ) → IsSome (finite.get links name) → IsName name
  pub origins : (name : List ℕ) → IsSome (finite.get links name) → finite.get links name ≡ Some (origin_of (line name))
  pub whole : (name origin : List ℕ) → IsLink links name origin → IsSome (finite.get found origin) × (line origin ≡ Some None)

no_some : {X : Type 0} (x : Option X) → x ≡ None → IsSome x → ⊥
no_some x none some = true≢false (sym some ∙ ap is_some none)

none_yet : (links : Links) → links ≡ finite.empty → (name : List ℕ) → finite.get links name ≡ None
none_yet links is name = ap (λ m. finite.get m name) is ∙ get-empty byte_cmp name

pub opened_none : (line : Line) (found links : Links) (es : Entries) → map_of es ≡ found → links ≡ finite.empty → HasOpened line found es links
opened_none line found links es is empty =
    let same : (name : List ℕ) → finite.get found name ≡ find byte_cmp name es = λ name. ap (λ m. finite.get m name) (sym is) ∙ get-from_entries byte_order.total es name in
    record {
      each = λ name h. inr (ap is_some (sym (same name)) ∙ h);
      among = λ name h. absurd (no_some (finite.get links name) (none_yet links empty name) h);
      left = λ name h. ap is_some (same name) ∙ h;
      named = λ name h. absurd (no_some (finite.get links name) (none_yet links empty name) h);
      origins = λ name h. absurd (no_some (finite.get links name) (none_yet links empty name) h);
      whole = λ name origin h. absurd (no_some (finite.get links name) (none_yet links empty name) (ap is_some h));
    }

module _ (line : Line) (found : Links) (rest : Entries) (name : List ℕ) (value : Option (List ℕ)) (links : Links) (h : HasOpened line found ((name, value) ∷ rest) links) where
  pub it_was_found : IsSome (finite.get found name)
  it_was_found = h.left name (ap is_some (found_here name value rest))

  -- the origin of its line has no object, or isn't whole
  pub strays_here : Dangles line found name → Strays line found
  strays_here d = record { name = name; there = it_was_found; dangles = d }

  module _ (origin : Option (List ℕ)) (new : Links) (is_named : IsName name) (is : new ≡ finite.insert links name origin) (by_line : origin ≡ origin_of (line name))
      (stands : IfSome origin (λ o. IsSome (finite.get found o) × (line o ≡ Some None))) where
    here : finite.get new name ≡ Some origin
    here = ap (λ m. finite.get m name) is ∙ get_here byte_order links name origin

    beside : (other : List ℕ) → other ≢ name → finite.get new other ≡ finite.get links other
    beside other apart = ap (λ m. finite.get m other) is ∙ get_elsewhere byte_order links name origin other apart

    now : (other : List ℕ) → IsSome (finite.get links other) ⊎ IsSome (find byte_cmp other ((name, value) ∷ rest)) → IsSome (finite.get new other) ⊎ IsSome (find byte_cmp other rest)
    now other k = elim (decide other name) [
      | inl same ↦ inl (ap (λ n. is_some (finite.get new n)) same ∙ ap is_some here)
      | inr apart ↦ elim k [
        | inl was ↦ inl (ap is_some (beside other apart) ∙ was)
        | inr left ↦ inr (ap is_some (sym (found_beside name other value rest apart)) ∙ left)
      ]
    ]

    -- a fact of the holders is one of the new ones, where it is of this one
    each_of : (P : List ℕ → Type 0) → P name → ((other : List ℕ) → IsSome (finite.get links other) → other ≢ name → P other) → (other : List ℕ) → IsSome (finite.get new other) → P other
    each_of P mine others other k = elim (decide other name) [
      | inl same ↦ subst P (sym same) mine
      | inr apart ↦ others other (sym (ap is_some (beside other apart)) ∙ k) apart
    ]

    left_beside : (other : List ℕ) → IsSome (find byte_cmp other rest) → IsSome (finite.get found other)
    left_beside other k = elim (decide other name) [
      | inl same ↦ ap (λ n. is_some (finite.get found n)) same ∙ it_was_found
      | inr apart ↦ h.left other (ap is_some (found_beside name other value rest apart) ∙ k)
    ]

    whole_by : (from : List ℕ) (o : Option (List ℕ)) → o ≡ Some from → IfSome o (λ p. IsSome (finite.get found p) × (line p ≡ Some None)) → IsSome (finite.get found from) × (line from ≡ Some None)
    whole_by from None e k = cc e
    whole_by from (Some p) e k = let same : p ≡ from = cc e in subst (λ q. IsSome (finite.get found q) × (line q ≡ Some None)) same k

    pub opened_more : HasOpened line found rest new
    opened_more = record {
      each = λ other k. now other (h.each other k);
      among = each_of (λ other. IsSome (finite.get found other)) it_was_found (λ other k _. h.among other k);
      left = left_beside;
      named = each_of IsName is_named (λ other k _. h.named other k);
      origins = each_of (λ other. finite.get new other ≡ Some (origin_of (line other))) (here ∙ ap Some by_line) (λ other k apart. beside other apart ∙ h.origins other k);
      whole = λ other from k. elim (decide other name) [
        | inl same ↦ whole_by from origin (let one : Some origin ≡ Some (Some from) = sym here ∙ ap (finite.get new) (sym same) ∙ k in cc one) stands
        | inr apart ↦ h.whole other from (sym (beside other apart) ∙ k)
      ];
    }

pub opened_all : (line : Line) (found links : Links) → HasOpened line found [] links → Opens line found links
opened_all line found links h = record {
  names = λ name. (
    h.among name,
    λ k. elim (h.each name k) [
      | inl is ↦ is
      | inr none ↦ absurd (true≢false (sym none))
    ],
  );
  named = h.named;
  origins = h.origins;
  whole = h.whole;
}

-- ---- what the objects mean

text_says : (object : Option (List ℕ)) (text : List ℕ) → text ≡ unwrap_or object [] → record_in object ≡ record_of text
text_says None text is = sym (no_lines text (ap length is))
text_says (Some bytes) text is = ap record_of (sym is)

record_says : (objects : Objects) (digest text : List ℕ) → text ≡ bytes_at objects (record_path digest) → record_at objects digest ≡ record_of text
unfolding record_at
record_says objects digest text is = text_says (finite.get objects (record_path digest)) text is

-- a repository that has a line in a record is a name
line_named : (lines : List RecordLine) (name : List ℕ) (origin : Option (List ℕ)) → AllByRecursion NamesRepos lines → line_in lines name ≡ Some origin → IsName name × IfSome origin IsName
line_named [] name origin all h = cc h
line_named (line ∷ lines) name origin all h = elim (decide name line.name) [
  | inl same ↦
      let here : Some line.origin ≡ Some origin = sym (found_here line.name line.origin (map pair_of lines)) ∙ ap (λ n. line_in (line ∷ lines) n) (sym same) ∙ h in
      (subst IsName (sym same) all.0.0, subst (λ o. IfSome o IsName) (let e : line.origin ≡ origin = cc here in e) all.0.1)
  | inr apart ↦ line_named lines name origin all.1 (sym (found_beside line.name name line.origin (map pair_of lines) apart) ∙ h)
]

among_named : (text : List ℕ) (read : Option (List RecordLine)) → record_of text ≡ read → (name origin : List ℕ) → line_among read name ≡ Some (Some origin) → IsName name × IsName origin
among_named text None is name origin h = cc h
among_named text (Some lines) is name origin h = line_named lines name (Some origin) (record_is text lines is).1.names h

module _ (objects : Objects) (digest text : List ℕ) (found : Links) (is : text ≡ bytes_at objects (record_path digest)) (has : HasObjects objects digest found) where
  says : (name : List ℕ) → line_at objects digest name ≡ line_among (record_of text) name
  says name = ap (λ r. line_among r name) (record_says objects digest text is)

  pub opened_stands : (links : Links) → IsSome (record_of text) → Opens (line_among (record_of text)) found links → Stands objects digest links
  opened_stands links read h =
      let whole : (name origin : List ℕ) → IsLink links name origin → finite.get links origin ≡ Some None = λ name origin link.
      let to = h.whole name origin link in h.origins origin ((h.names origin).1 to.0) ∙ ap (λ l. Some (origin_of l)) to.1 in
      record {
        read = ap is_some (record_says objects digest text is) ∙ read;
        there = λ name k. (has name (h.named name k)).1 ((h.names name).0 k);
        known = λ name named k. (h.names name).1 ((has name named).0 k);
        origins = λ name k. ap origin_of (says name) ∙ sym (ap origin_of (h.origins name k));
        whole = whole;
        named = λ name origin link. says origin ∙ (h.whole name origin link).1;
      }

  no_meaning : (IsSome (record_of text) → Strays (line_among (record_of text)) found) → ¬ HasMeaning objects digest
  no_meaning h means =
      let strays = h (sym (ap is_some (record_says objects digest text is)) ∙ means.read) in
      let d = strays.dangles in
      let names = among_named text (record_of text) refl strays.name d.origin d.names in
      let whole = means.linked strays.name d.origin names.0 ((has strays.name names.0).1 strays.there) (says strays.name ∙ d.names) in
      d.lacks ((has d.origin names.1).0 whole.0, sym (says d.origin) ∙ whole.1)

  its_text : (object : Option (List ℕ)) → text ≡ unwrap_or object [] → (IsSome (record_of text) → Strays (line_among (record_of text)) found) → object ≡ Some text
  its_text (Some bytes) same h = ap Some (sym same)
  its_text None same h =
      let empty = no_lines text (ap length same) in
      let strays = h (ap is_some empty) in
      let none : None ≡ Some (Some strays.dangles.origin) = sym (ap (λ r. line_among r strays.name) empty) ∙ strays.dangles.names in
      cc none

  pub refused_lacks : (IsSome (record_of text) → Strays (line_among (record_of text)) found) → LacksMeaning objects digest text
  refused_lacks h = record { there = its_text (finite.get objects (record_path digest)) is h; none = no_meaning h }

-- ---- over a store that tells its objects

pub told_stands : (objects : Option Objects) (digest text slice : List ℕ) (found links : Links) → slice ≡ text → IfSome objects (λ told. text ≡ bytes_at told (record_path digest)) → IsSome (record_of slice)
    → Opens (line_among (record_of slice)) found links → IfSome objects (λ told. HasObjects told digest found → Stands told digest links)
told_stands None digest text slice found links same is read h = tt
told_stands (Some told) digest text slice found links same is read h = λ has. opened_stands told digest slice found (same ∙ is) has links read h

pub told_lacks : (objects : Option Objects) (digest text slice : List ℕ) (found : Links) → slice ≡ text → IfSome objects (λ told. text ≡ bytes_at told (record_path digest))
    → (IsSome (record_of slice) → Strays (line_among (record_of slice)) found) → IfSome objects (λ told. HasObjects told digest found → LacksMeaning told digest text)
told_lacks None digest text slice found same is h = tt
told_lacks (Some told) digest text slice found same is h = λ has. subst (LacksMeaning told digest) same (refused_lacks told digest slice found (same ∙ is) has h)
