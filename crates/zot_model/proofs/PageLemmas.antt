-- The pages of one list of tags are the whole list.
use Rattle.std.proofs.Common.{◌≡◌, ℕ, suc, zero, ◌<◌, ◌≤◌, Bool, true, false, cond, List, [], ◌∷◌, ◌++◌, length, map, take, drop, Option, Some, None, refl, sym, ap, subst, ◌∙◌, arith, if◌then◌else◌, unwrap_or}
use Rattle.std.specs.Prelude.{◌&&◌, T, nat_lt, ⊤}
use Rattle.std.specs.Cmp.{tied_itself}
use Rattle.std.specs.FinMap as finite
use Rattle.std.specs.FinMap.{entries_sorted}
use Rattle.std.specs.FinMap.Entries.{below_all, is_sorted}
use Rattle.std.specs.List.{filter}
use Rattle.std.specs.Ordering.{is_lt}
use Rattle.std.specs.declared.cmp.Ordering.{Ordering}
use Rattle.std.specs.declared.cmp.Ordering.TheVariants.{Less, Equal, Greater}
use Rattle.zot_digest.specs.ByteMap.{ByteMap, byte_cmp}
use Rattle.zot_maps.proofs.Maps.{byte_order}
use Rattle.zot_model.specs.Pages.{ArePages, Page, comes_after, joined, last_of, page, tags_after}
use Rattle.zot_model.specs.State.{StoredTag}

-- ---- tags in byte order

-- one tag stands before another
abbrev Before : List ℕ → List ℕ → Type 0
Before tag other = is_lt (byte_cmp tag other) ≡ true

less : (o : Ordering) → is_lt o ≡ true → o ≡ Less
less Less h = refl
less Equal h = cc h
less Greater h = cc h

before_through : (x y z : List ℕ) → Before x y → Before y z → Before x z
before_through x y z h k = ap is_lt (byte_order.total.trans x y z (less (byte_cmp x y) h) (less (byte_cmp y z) k))

not_itself : (x : List ℕ) → is_lt (byte_cmp x x) ≡ false
not_itself x = ap is_lt (tied_itself byte_order.total x)

by_test : (b : Bool) → ¬ (b ≡ true) → b ≡ false
by_test true h = absurd (h refl)
by_test false h = refl

not_back : (x y : List ℕ) → Before x y → is_lt (byte_cmp y x) ≡ false
not_back x y h = by_test (is_lt (byte_cmp y x)) (λ k. cc (sym (before_through x y x h k) ∙ not_itself x))

-- a tag stands before all of a list
abbrev BeforeAll : List ℕ → List (List ℕ) → Type 0
BeforeAll tag [] = ⊤
BeforeAll tag (other ∷ tags) = Before tag other × BeforeAll tag tags

-- the tags rise
abbrev Rises : List (List ℕ) → Type 0
Rises [] = ⊤
Rises (tag ∷ tags) = BeforeAll tag tags × Rises tags

holds : (b : Bool) → T b → b ≡ true
holds true h = refl
holds false h = absurd h

both : (a b : Bool) → T (a && b) → T a × T b
both true b h = (tt, h)
both false b h = absurd h

below_rises : {X : Type 0} (tag : List ℕ) (es : List (List ℕ × X)) → T (below_all byte_cmp tag es) → BeforeAll tag (map (λ e. e.0) es)
below_rises tag [] h = tt
below_rises tag (e ∷ es) h = let two = both (is_lt (byte_cmp tag e.0)) (below_all byte_cmp tag es) h in (holds (is_lt (byte_cmp tag e.0)) two.0, below_rises tag es two.1)

sorted_rises : {X : Type 0} (es : List (List ℕ × X)) → T (is_sorted byte_cmp es) → Rises (map (λ e. e.0) es)
sorted_rises [] h = tt
sorted_rises (e ∷ es) h = let two = both (below_all byte_cmp e.0 es) (is_sorted byte_cmp es) h in (below_rises e.0 es two.0, sorted_rises es two.1)

keys_rise : (tags : ByteMap StoredTag) → Rises (finite.keys tags)
keys_rise tags = sorted_rises (finite.entries tags) (entries_sorted tags)

-- ---- what stays of them

before_some : (test : List ℕ → Bool) (tag : List ℕ) (tags : List (List ℕ)) → BeforeAll tag tags → BeforeAll tag (filter test tags)
before_some test tag [] h = tt
before_some test tag (other ∷ tags) h =
    elim (test other) as (λ b. BeforeAll tag (cond b (other ∷ filter test tags) (filter test tags))) [ true ↦ (h.0, before_some test tag tags h.1) | false ↦ before_some test tag tags h.1 ]

filter_rises : (test : List ℕ → Bool) (tags : List (List ℕ)) → Rises tags → Rises (filter test tags)
filter_rises test [] h = tt
filter_rises test (tag ∷ tags) h =
    elim (test tag) as (λ b. Rises (cond b (tag ∷ filter test tags) (filter test tags))) [ true ↦ (before_some test tag tags h.0, filter_rises test tags h.1) | false ↦ filter_rises test tags h.1 ]

-- all of these come after a tag that stands before them
all_after : (tag : List ℕ) (tags : List (List ℕ)) → BeforeAll tag tags → filter (comes_after (Some tag)) tags ≡ tags
all_after tag [] h = refl
all_after tag (other ∷ tags) h = ap (λ b. cond b (other ∷ filter (comes_after (Some tag)) tags) (filter (comes_after (Some tag)) tags)) h.0 ∙ ap (λ l. other ∷ l) (all_after tag tags h.1)

same_some : (x y : List ℕ) → Some x ≡ Some y → x ≡ y
same_some x y h = ap (λ o. unwrap_or o x) h

-- the last of the first tags stands where one before all of them stands before it
last_before : (n : ℕ) (tag last : List ℕ) (tags : List (List ℕ)) → BeforeAll tag tags → last_of (take n tags) ≡ Some last → Before tag last
last_before zero tag last tags h is = cc is
last_before (suc n) tag last [] h is = cc is
last_before (suc zero) tag last (other ∷ tags) h is = subst (Before tag) (same_some other last is) h.0
last_before (suc (suc n)) tag last (other ∷ []) h is = subst (Before tag) (same_some other last is) h.0
last_before (suc (suc n)) tag last (other ∷ next ∷ tags) h is = last_before (suc n) tag last (next ∷ tags) h.1 is

-- what comes after the last of the first tags are the others
goes_on : (n : ℕ) (last : List ℕ) (tags : List (List ℕ)) → Rises tags → last_of (take n tags) ≡ Some last → filter (comes_after (Some last)) tags ≡ drop n tags
goes_on zero last tags h is = cc is
goes_on (suc n) last [] h is = cc is
goes_on (suc zero) last (tag ∷ tags) h is =
    let same = same_some tag last is in
    subst (λ l. filter (comes_after (Some l)) (tag ∷ tags) ≡ tags) same
    (ap (λ b. cond b (tag ∷ filter (comes_after (Some tag)) tags) (filter (comes_after (Some tag)) tags)) (not_itself tag) ∙ all_after tag tags h.0)
goes_on (suc (suc n)) last (tag ∷ []) h is =
    subst (λ l. filter (comes_after (Some l)) (tag ∷ []) ≡ []) (same_some tag last is) (ap (λ b. cond b (tag ∷ []) []) (not_itself tag))
goes_on (suc (suc n)) last (tag ∷ next ∷ tags) h is =
    ap (λ b. cond b (tag ∷ filter (comes_after (Some last)) (next ∷ tags)) (filter (comes_after (Some last)) (next ∷ tags))) (not_back tag last (last_before (suc n) tag last (next ∷ tags) h.0 is))
    ∙ goes_on (suc n) last (next ∷ tags) h.1 is

-- what comes after a tag, which comes after another one, comes after that
after_through : (last : Option (List ℕ)) (tag other : List ℕ) → comes_after last tag ≡ true → comes_after (Some tag) other ≡ true → comes_after last other ≡ true
after_through None tag other h k = refl
after_through (Some last) tag other h k = before_through last tag other h k

filter_twice : (last : Option (List ℕ)) (tag : List ℕ) (tags : List (List ℕ)) → comes_after last tag ≡ true → filter (comes_after (Some tag)) (filter (comes_after last) tags) ≡ filter (comes_after (Some tag)) tags
filter_twice last tag [] h = refl
filter_twice last tag (other ∷ tags) h =
    elim (comes_after last other) as (λ b. comes_after last other ≡ b
    → filter (comes_after (Some tag)) (cond b (other ∷ filter (comes_after last) tags) (filter (comes_after last) tags)) ≡ filter (comes_after (Some tag)) (other ∷ tags)) [
      | true ↦ λ is. ap (λ l. cond (comes_after (Some tag) other) (other ∷ l) l) (filter_twice last tag tags h)
      | false ↦ λ is.
          filter_twice last tag tags h
          ∙ ap (λ b. cond b (other ∷ filter (comes_after (Some tag)) tags) (filter (comes_after (Some tag)) tags))
          (sym (by_test (comes_after (Some tag) other) (λ k. cc (sym is ∙ after_through last tag other h k))))
    ] refl

-- the last of the first of the tags after one comes after it
last_after : (n : ℕ) (last : Option (List ℕ)) (tag : List ℕ) (tags : List (List ℕ)) → last_of (take n (filter (comes_after last) tags)) ≡ Some tag → comes_after last tag ≡ true
last_after n None tag tags is = refl
last_after n (Some last) tag tags is = last_before n last tag (filter (comes_after (Some last)) tags) (after_all tags) is where
  after_all : (tags : List (List ℕ)) → BeforeAll last (filter (comes_after (Some last)) tags)
  after_all [] = tt
  after_all (other ∷ tags) =
      elim (is_lt (byte_cmp last other)) as (λ b. is_lt (byte_cmp last other) ≡ b → BeforeAll last (cond b (other ∷ filter (comes_after (Some last)) tags) (filter (comes_after (Some last)) tags))) [
        | true ↦ λ h. (h, after_all tags)
        | false ↦ λ h. after_all tags
      ] refl

-- ---- pages

-- where a page says that more follow, its last tag is where they go on
next_is : (b : Bool) (last : Option (List ℕ)) (next : List ℕ) → (if b then last else None) ≡ Some next → last ≡ Some next
next_is true last next h = h
next_is false last next h = cc h

next_more : (b c : Bool) (last : Option (List ℕ)) (next : List ℕ) → (if b && c then last else None) ≡ Some next → c ≡ true
next_more true true last next h = refl
next_more true false last next h = cc h
next_more false c last next h = cc h

-- where it doesn't, nothing follows
short : (n : ℕ) (tags : List (List ℕ)) → length tags ≤ n → take n tags ≡ tags
short n [] h = take_none n where
  take_none : (n : ℕ) → take {A = List ℕ} n [] ≡ []
  take_none zero = refl
  take_none (suc n) = refl
short zero (tag ∷ tags) h = absurd (omega (arith, h))
short (suc n) (tag ∷ tags) h = ap (λ l. tag ∷ l) (short n tags (omega (arith, h)))

has_last : (n : ℕ) (tags : List (List ℕ)) → 0 < n → n < length tags → ¬ (last_of (take n tags) ≡ None)
has_last zero tags some more h = absurd (omega (arith, some))
has_last (suc n) [] some more h = absurd (omega (arith, more))
has_last (suc zero) (tag ∷ tags) some more h = cc h
has_last (suc (suc n)) (tag ∷ []) some more h = cc h
has_last (suc (suc n)) (tag ∷ other ∷ tags) some more h = has_last (suc n) (other ∷ tags) (omega arith) (omega (arith, more)) h

none_follow : (n : ℕ) (tags : List (List ℕ)) → 0 < n → (if nat_lt 0 n && nat_lt n (length tags) then last_of (take n tags) else None) ≡ None → take n tags ≡ tags
none_follow n tags some h = by_test_of (nat_lt 0 n) (nat_lt n (length tags)) refl refl h where
  by_test_of : (b c : Bool) → nat_lt 0 n ≡ b → nat_lt n (length tags) ≡ c → (if b && c then last_of (take n tags) else None) ≡ None → take n tags ≡ tags
  by_test_of true true is more none = absurd (has_last n tags some (grind (arith, more)) none)
  by_test_of true false is few none = short n tags (grind (arith, few))
  by_test_of false c is more none = absurd (grind (arith, is, some))

module _ (tags : ByteMap StoredTag) (n : ℕ) (some : 0 < n) where
  left : (last : Option (List ℕ)) (next : List ℕ) → (page tags (Some n) last).next ≡ Some next → tags_after tags (Some next) ≡ drop n (tags_after tags last)
  left last next h =
      let is = next_is (nat_lt 0 n && nat_lt n (length (tags_after tags last))) (last_of (take n (tags_after tags last))) next h in
      sym (filter_twice last next (finite.keys tags) (last_after n last next (finite.keys tags) is))
      ∙ goes_on n next (tags_after tags last) (filter_rises (comes_after last) (finite.keys tags) (keys_rise tags)) is

  take_drop : (m : ℕ) (l : List (List ℕ)) → take m l ++ drop m l ≡ l
  take_drop zero l = refl
  take_drop (suc m) [] = refl
  take_drop (suc m) (x ∷ l) = ap (λ r. x ∷ r) (take_drop m l)

  append_none : (l : List (List ℕ)) → l ++ [] ≡ l
  append_none [] = refl
  append_none (x ∷ l) = ap (λ r. x ∷ r) (append_none l)

  pub pages_join : (last : Option (List ℕ)) (pages : List Page) → ArePages tags n last pages → joined pages ≡ tags_after tags last
  pages_join last [] h = absurd h
  pages_join last (first ∷ []) h =
      append_none first.tags ∙ ap (λ (p : Page). p.tags) h.0
      ∙ none_follow n (tags_after tags last) some (ap (λ (p : Page). p.next) (sym h.0) ∙ h.1)
  pages_join last (first ∷ other ∷ pages) h =
      ap (λ (p : Page). p.tags ++ joined (other ∷ pages)) h.0
      ∙ ap (λ l. take n (tags_after tags last) ++ l) (pages_join (Some h.1.0) (other ∷ pages) h.1.2 ∙ left last h.1.0 (ap (λ (p : Page). p.next) (sym h.0) ∙ h.1.1))
      ∙ take_drop n (tags_after tags last)

  drop_short : (m : ℕ) (l : List (List ℕ)) → length (drop m l) ≤ length l
  drop_short zero l = omega arith
  drop_short (suc m) [] = omega arith
  drop_short (suc m) (x ∷ l) = omega (arith, drop_short m l)

  drop_less : (m : ℕ) (l : List (List ℕ)) → 0 < m → m < length l → length (drop m l) < length l
  drop_less zero l h more = absurd (omega (arith, h))
  drop_less (suc m) [] h more = absurd (omega (arith, more))
  drop_less (suc m) (x ∷ l) h more = omega (arith, drop_short m l)

  -- where a page says that more follow, fewer tags are left than before
  fewer_left : (last : Option (List ℕ)) (next : List ℕ) → (page tags (Some n) last).next ≡ Some next → length (tags_after tags (Some next)) < length (tags_after tags last)
  fewer_left last next h =
      subst (λ l. length l < length (tags_after tags last)) (sym (left last next h))
      (drop_less n (tags_after tags last) some (grind (arith, next_more (nat_lt 0 n) (nat_lt n (length (tags_after tags last))) (last_of (take n (tags_after tags last))) next h)))

  one_more : (last : Option (List ℕ)) (next : List ℕ) → (page tags (Some n) last).next ≡ Some next → (pages : List Page) × ArePages tags n (Some next) pages → (pages : List Page) × ArePages tags n last pages
  one_more last next is ([], h) = absurd h
  one_more last next is (first ∷ pages, h) = (page tags (Some n) last ∷ first ∷ pages, (refl, (next, is, h)))

  -- the pages, where at most so many tags are left
  pages_left : (most : ℕ) (last next : Option (List ℕ)) → length (tags_after tags last) ≤ most → (page tags (Some n) last).next ≡ next → (pages : List Page) × ArePages tags n last pages
  pages_left most last None few is = (page tags (Some n) last ∷ [], (refl, is))
  pages_left zero last (Some next) few is = absurd (omega (arith, few, fewer_left last next is))
  pages_left (suc most) last (Some next) few is =
      one_more last next is (pages_left most (Some next) (page tags (Some n) (Some next)).next (omega (arith, few, fewer_left last next is)) refl)

  pub pages_exist : (last : Option (List ℕ)) → (pages : List Page) × ArePages tags n last pages
  pages_exist last = pages_left (length (tags_after tags last)) last (page tags (Some n) last).next (omega arith) refl

-- the tags after none are all
all_tags : (tags : List (List ℕ)) → filter (comes_after None) tags ≡ tags
all_tags [] = refl
all_tags (tag ∷ tags) = ap (λ l. tag ∷ l) (all_tags tags)

pub pages_are_all : (tags : ByteMap StoredTag) (n : ℕ) (pages : List Page) → 0 < n → ArePages tags n None pages → joined pages ≡ finite.keys tags
pages_are_all tags n pages some h = pages_join tags n some None pages h ∙ all_tags (finite.keys tags)
