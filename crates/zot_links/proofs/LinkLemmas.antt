-- Holders in a tree, one by one.
use Rattle.std.proofs.Common.{arith, ◌≡◌, ◌≢◌, ℕ, inl, inr, append_assoc, Bool, true, false, cond, List, [], ◌∷◌, ◌++◌, length, map, Option, Some, None, refl, sym, ap, subst, ◌∙◌, MatchOption, Bor}
use Rattle.std.specs.Prelude.{T, ◌&&◌, if◌then◌else◌, IfOk, OnOk, Result, Ok, Err, option_copied, option_map}
use Rattle.std.specs.BTreeMap.{insert_entry}
use Rattle.std.specs.FinMap as finite
use Rattle.std.specs.FinMap.{entries_sorted, get-empty, get-entries, get-from_entries}
use Rattle.std.specs.FinMap.Entries.{below_all, find, is_sorted, same_entries}
use Rattle.std.specs.List.{AllByRecursion}
use Rattle.std.specs.List.Sorted.{IsStrictlySortedBy}
use Rattle.std.specs.Ordering.{eq_by_cmp, is_eq, is_lt, match_ordering, ordering_reverse}
use Rattle.std.specs.Str.{bytes_eq}
use Rattle.std.specs.declared.cmp.Ordering.TheVariants.{Less, Greater}
use Rattle.std.proofs.lemmas.Bool.{true≢false}
use Rattle.std.proofs.lemmas.Slice.Eq.{bytes_eq-Decides}
use Rattle.zot_digest.specs.ByteMap.{byte_cmp, map_of}
use Rattle.zot_maps.proofs.Maps.{byte_order, get_elsewhere, get_here, same_key, tied_keys}
use Rattle.zot_links.proofs.StandLemmas.{decide, eq_false, eq_true}
use Rattle.zot_links.specs.Meaning.{IsFree, IsLink, Links}
use Rattle.zot_links.specs.Promotion.{first_link, is_link_to, line_of_entry, promote, redirect}
use Rattle.zot_links.specs.Records.{AreLines, NamesRepos, line_in, pair_of}
use Rattle.zot_links.specs.declared.record_line.RecordLine.{RecordLine}

both : (a b : Bool) → T a → T b → T (a && b)
both true b x y = y
both false b x y = absurd x

pub apart : (low key : List ℕ) → byte_cmp low key ≡ Less → eq_by_cmp byte_cmp key low ≡ false
apart low key less = split (eq_by_cmp byte_cmp key low) refl where
  split : (b : Bool) → eq_by_cmp byte_cmp key low ≡ b → b ≡ false
  split false is = refl
  split true is =
      absurd (true≢false (sym (same_key byte_order low) ∙ ap (λ k. is_eq (byte_cmp low k)) (sym (tied_keys byte_order key low is)) ∙ ap is_eq less))

module _ {X : Type 0} where
  below : (low : List ℕ) (es : List (List ℕ × X)) → AllByRecursion (λ y. byte_cmp low y ≡ Less) (map (λ e. e.0) es) → T (below_all byte_cmp low es)
  below low [] h = tt
  below low (e ∷ es) h = both (is_lt (byte_cmp low e.0)) (below_all byte_cmp low es) (rw h.0 tt) (below low es h.1)

  in_order : (es : List (List ℕ × X)) → IsStrictlySortedBy byte_cmp (map (λ e. e.0) es) → T (is_sorted byte_cmp es)
  unfolding IsStrictlySortedBy
  in_order [] h = tt
  in_order (e ∷ es) h = both (below_all byte_cmp e.0 es) (is_sorted byte_cmp es) (below e.0 es h.0) (in_order es h.1)

  -- the entries of the map that a tree's entries make are these
  pub entries_of : (es : List (List ℕ × X)) → IsStrictlySortedBy byte_cmp (map (λ e. e.0) es) → finite.entries (map_of es) ≡ es
  entries_of es h =
      same_entries byte_cmp byte_order.total byte_order.antisymmetric (finite.entries (map_of es)) es (entries_sorted (map_of es)) (in_order es h)
      (λ q. sym (get-entries (map_of es) q) ∙ get-from_entries byte_order.total es q)

  -- what holds of all keys holds of one among them
  all_at : (P : List ℕ → Type 0) (es more : List (List ℕ × X)) (k : List ℕ) (v : X) → AllByRecursion P (map (λ e. e.0) (es ++ (k, v) ∷ more)) → P k
  all_at P [] more k v h = h.0
  all_at P (e ∷ es) more k v h = all_at P es more k v h.1

  -- an entry whose key is greater comes last
  pub push_last : (es more : List (List ℕ × X)) (k : List ℕ) (v w : X) → IsStrictlySortedBy byte_cmp (map (λ e. e.0) (es ++ (k, w) ∷ more)) → insert_entry byte_cmp es k v ≡ es ++ (k, v) ∷ []
  unfolding IsStrictlySortedBy
  push_last [] more k v w h = refl
  push_last (e ∷ es) more k v w h =
      let greater : byte_cmp k e.0 ≡ Greater = byte_order.total.antisymm k e.0 ∙ ap ordering_reverse (all_at (λ y. byte_cmp e.0 y ≡ Less) es more k w h.0) in
      ap (λ o. match_ordering o ((k, v) ∷ e ∷ es) ((e.0, v) ∷ es) (e ∷ insert_entry byte_cmp es k v)) greater ∙ ap (λ r. e ∷ r) (push_last es more k v w h.1)

  pub same_keys : (f : X → X) (es : List (List ℕ × X)) → map (λ (e : List ℕ × X). e.0) (map (λ (e : List ℕ × X). (e.0, f e.1)) es) ≡ map (λ e. e.0) es
  same_keys f [] = refl
  same_keys f (e ∷ es) = ap (λ ks. e.0 ∷ ks) (same_keys f es)

abbrev Entries : Type 0
Entries = List (List ℕ × Option (List ℕ))

-- ---- the first link to a repository

link_to : (name : List ℕ) (origin : Option (List ℕ)) → is_link_to name origin ≡ true → origin ≡ Some name
link_to name None h = cc h
link_to name (Some origin) h = ap Some ((bytes_eq-Decides origin name).0 h)

is_link : (name : List ℕ) (origin : Option (List ℕ)) → origin ≡ Some name → is_link_to name origin ≡ true
is_link name None h = cc h
is_link name (Some origin) h = let same : origin ≡ name = cc h in (bytes_eq-Decides origin name).1 same

first_none : (name : List ℕ) (es : Entries) → first_link name es ≡ None → (other : List ℕ) → find byte_cmp other es ≢ Some (Some name)
first_none name [] none other found = cc found
first_none name (e ∷ es) none other found =
    elim (is_link_to name e.1) as (λ b. is_link_to name e.1 ≡ b → (if b then Some e.0 else first_link name es) ≡ None → ⊥) [
      | true ↦ λ is k. cc k
      | false ↦ λ is k.
          elim (eq_by_cmp byte_cmp other e.0) as (λ b. cond b (Some e.1) (find byte_cmp other es) ≡ Some (Some name) → ⊥) [
            | true ↦ λ hit. let one : e.1 ≡ Some name = cc hit in true≢false (sym (is_link name e.1 one) ∙ is)
            | false ↦ λ hit. first_none name es k other hit
          ] found
    ] refl none

first_below : (low name l : List ℕ) (es : Entries) → AllByRecursion (λ y. byte_cmp low y ≡ Less) (map (λ e. e.0) es) → first_link name es ≡ Some l → byte_cmp low l ≡ Less
first_below low name l [] all h = cc h
first_below low name l (e ∷ es) all h =
    elim (is_link_to name e.1) as (λ b. (if b then Some e.0 else first_link name es) ≡ Some l → byte_cmp low l ≡ Less) [
      | true ↦ λ k. let same : e.0 ≡ l = cc k in subst (λ y. byte_cmp low y ≡ Less) same all.0
      | false ↦ λ k. first_below low name l es all.1 k
    ] h

first_some : (name l : List ℕ) (es : Entries) → IsStrictlySortedBy byte_cmp (map (λ e. e.0) es) → first_link name es ≡ Some l → find byte_cmp l es ≡ Some (Some name)
unfolding IsStrictlySortedBy
first_some name l [] sorted h = cc h
first_some name l (e ∷ es) sorted h =
    elim (is_link_to name e.1) as (λ b. is_link_to name e.1 ≡ b → (if b then Some e.0 else first_link name es) ≡ Some l → find byte_cmp l (e ∷ es) ≡ Some (Some name)) [
      | true ↦ λ is k.
          let same : e.0 ≡ l = cc k in
          ap (λ b. cond b (Some e.1) (find byte_cmp l es)) (ap (λ q. eq_by_cmp byte_cmp q e.0) (sym same) ∙ same_key byte_order e.0) ∙ ap Some (link_to name e.1 is)
      | false ↦ λ is k.
          ap (λ b. cond b (Some e.1) (find byte_cmp l es)) (apart e.0 l (first_below e.0 name l es sorted.0 k)) ∙ first_some name l es sorted.1 k
    ] refl h

-- the least link to a repository, or that no link needs it
pub first_is : (name : List ℕ) (es : Entries) (links : Links) → map_of es ≡ links → IsStrictlySortedBy byte_cmp (map (λ e. e.0) es) → (found : Option (Bor (List ℕ))) → option_copied found ≡ first_link name es
    → MatchOption found (IsFree links name) (λ link. IsLink links link.now name)
first_is name es links is sorted None h =
    λ other link. first_none name es (sym h) other (sym (get-from_entries byte_order.total es other) ∙ ap (λ m. finite.get m other) is ∙ link)
first_is name es links is sorted (Some l) h =
    ap (λ m. finite.get m l.now) (sym is) ∙ get-from_entries byte_order.total es l.now ∙ first_some name l.now es sorted (sym h)

-- ---- the lines of holders

names_stay : (es : Entries) → map (λ (line : RecordLine). line.name) (map line_of_entry es) ≡ map (λ e. e.0) es
names_stay [] = refl
names_stay (e ∷ es) = ap (λ ks. e.0 ∷ ks) (names_stay es)

pairs_stay : (es : Entries) → map pair_of (map line_of_entry es) ≡ es
pairs_stay [] = refl
pairs_stay (e ∷ es) = ap (λ r. e ∷ r) (pairs_stay es)

pub are_lines : (es : Entries) (lines : List RecordLine) → lines ≡ map line_of_entry es → AllByRecursion NamesRepos lines → IsStrictlySortedBy byte_cmp (map (λ e. e.0) es) → AreLines lines
are_lines es lines is names sorted = record {
  names = names;
  ascend = subst (IsStrictlySortedBy byte_cmp) (sym (ap (map (λ (line : RecordLine). line.name)) is ∙ names_stay es)) sorted;
}

pub lines_say : (es : Entries) (lines : List RecordLine) (links : Links) → lines ≡ map line_of_entry es → map_of es ≡ links → (name : List ℕ) → line_in lines name ≡ finite.get links name
lines_say es lines links is same name =
    ap (λ ls. find byte_cmp name (map pair_of ls)) is ∙ ap (find byte_cmp name) (pairs_stay es)
    ∙ sym (get-from_entries byte_order.total es name) ∙ ap (λ m. finite.get m name) same

-- ---- redirected holders

find_mapped : (f : Option (List ℕ) → Option (List ℕ)) (es : Entries) (name : List ℕ) → find byte_cmp name (map (λ e. (e.0, f e.1)) es) ≡ option_map f (find byte_cmp name es)
find_mapped f [] name = refl
find_mapped f (e ∷ es) name =
    elim (eq_by_cmp byte_cmp name e.0) as (λ b. cond b (Some (f e.1)) (find byte_cmp name (map (λ e. (e.0, f e.1)) es)) ≡ option_map f (cond b (Some e.1) (find byte_cmp name es))) [
      | true ↦ refl
      | false ↦ find_mapped f es name
    ]

pub redirected_get : (from to : List ℕ) (es made : Entries) (links : Links) → made ≡ map (λ e. (e.0, redirect from to e.1)) es → map_of es ≡ links
    → (name : List ℕ) → finite.get (map_of made) name ≡ option_map (redirect from to) (finite.get links name)
redirected_get from to es made links is same name =
    get-from_entries byte_order.total made name ∙ ap (find byte_cmp name) is ∙ find_mapped (redirect from to) es name
    ∙ ap (option_map (redirect from to)) (sym (get-from_entries byte_order.total es name) ∙ ap (λ m. finite.get m name) same)

-- ---- trees that are made holder by holder

pub copied_more : (es made new rest : Entries) (name : List ℕ) (origin : Option (List ℕ)) → es ≡ made ++ (name, origin) ∷ rest → IsStrictlySortedBy byte_cmp (map (λ e. e.0) es)
    → new ≡ insert_entry byte_cmp made name origin → es ≡ new ++ rest
copied_more es made new rest name origin is sorted put =
    let last = push_last made rest name origin origin (subst (λ l. IsStrictlySortedBy byte_cmp (map (λ (e : List ℕ × Option (List ℕ)). e.0) l)) is sorted) in
    is ∙ sym (append_assoc made ((name, origin) ∷ []) rest) ∙ ap (λ l. l ++ rest) (sym (put ∙ last))

pub redirected_more : (f : Option (List ℕ) → Option (List ℕ)) (es made new rest : Entries) (name : List ℕ) (origin : Option (List ℕ))
    → map (λ e. (e.0, f e.1)) es ≡ made ++ map (λ e. (e.0, f e.1)) ((name, origin) ∷ rest) → IsStrictlySortedBy byte_cmp (map (λ e. e.0) es)
    → new ≡ insert_entry byte_cmp made name (f origin) → map (λ e. (e.0, f e.1)) es ≡ new ++ map (λ e. (e.0, f e.1)) rest
redirected_more f es made new rest name origin is sorted put =
    copied_more (map (λ e. (e.0, f e.1)) es) made new (map (λ e. (e.0, f e.1)) rest) name (f origin) is (subst (IsStrictlySortedBy byte_cmp) (sym (same_keys f es)) sorted) put

-- ---- copies with a change

-- a link that became whole, and its origin a link to it
pub promoted_get : (made links : Links) (name least : List ℕ) → ((other : List ℕ) → finite.get made other ≡ option_map (redirect name least) (finite.get links other))
    → (other : List ℕ) → finite.get (finite.insert (finite.insert made name (Some least)) least None) other ≡ promote name least other (finite.get links other)
promoted_get made links name least all other = elim (decide other least) [
  | inl same ↦
      ap (finite.get (finite.insert (finite.insert made name (Some least)) least None)) same ∙ get_here byte_order (finite.insert made name (Some least)) least None
      ∙ sym (ap (λ b. if b then Some None else if bytes_eq other name then Some (Some least) else option_map (redirect name least) (finite.get links other)) (eq_true other least same))
  | inr first ↦
      let rest : finite.get (finite.insert made name (Some least)) other ≡ (if bytes_eq other name then Some (Some least) else option_map (redirect name least) (finite.get links other)) = elim (decide other name) [
        | inl same ↦
            ap (finite.get (finite.insert made name (Some least))) same ∙ get_here byte_order made name (Some least)
            ∙ sym (ap (λ b. if b then Some (Some least) else option_map (redirect name least) (finite.get links other)) (eq_true other name same))
        | inr second ↦
            get_elsewhere byte_order made name (Some least) other second ∙ all other
            ∙ sym (ap (λ b. if b then Some (Some least) else option_map (redirect name least) (finite.get links other)) (eq_false other name second))
      ] in
      get_elsewhere byte_order (finite.insert made name (Some least)) least None other first ∙ rest
      ∙ sym (ap (λ b. if b then Some None else if bytes_eq other name then Some (Some least) else option_map (redirect name least) (finite.get links other)) (eq_false other least first))
]

-- ---- the lines of a result

pub lines_are : {V E : Type 0} (r : Result V E) (items : V → List RecordLine) (es : Entries) → IfOk r (λ v. items v ≡ map line_of_entry es) → IfOk r (λ v. AllByRecursion NamesRepos (items v))
    → OnOk r (IsStrictlySortedBy byte_cmp (map (λ e. e.0) es)) → IfOk r (λ v. AreLines (items v))
lines_are (Ok v) items es is names sorted = are_lines es (items v) is names sorted
lines_are (Err e) items es is names sorted = is

-- ---- no holders

-- a tree has no entries exactly where its map is empty
pub empty_both : {X : Type 0} (es : List (List ℕ × X)) (b : Bool) → (b ≡ true → length es ≡ 0) → (length es ≡ 0 → b ≡ true) → (b ≡ true → map_of es ≡ finite.empty) × (map_of es ≡ finite.empty → b ≡ true)
empty_both [] b there back = (λ h. refl, λ h. back refl)
empty_both (e ∷ es) b there back = (
  λ h. absurd (omega (arith, there h)),
  λ h. absurd (cc (sym (get-from_entries byte_order.total (e ∷ es) e.0 ∙ ap (λ b. cond b (Some e.1) (find byte_cmp e.0 es)) (same_key byte_order e.0)) ∙ ap (λ m. finite.get m e.0) h ∙ get-empty byte_cmp e.0)),
)
