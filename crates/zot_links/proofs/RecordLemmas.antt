-- The text of a record is read as its lines, and nothing else is.
use Rattle.std.proofs.Common.{◌≡◌, ℕ, ◌+◌, Bool, true, false, inl, inr, List, [], ◌∷◌, ◌++◌, length, take, drop, reverse, get_or, map, Option, Some, None, refl, sym, ap, subst, ◌∙◌, arith, append_assoc}
use Rattle.std.specs.Prelude.{codes, IfSome, ◌&&◌, if◌then◌else◌}
use Rattle.std.specs.List.{All, AllByRecursion, after_first, before_first, join_with_byte, position_or_len, slice_split}
use Rattle.std.specs.List.Sorted.{IsStrictlySortedBy}
use Rattle.std.specs.Str.{bytes_eq}
use Rattle.std.specs.declared.cmp.Ordering.{Ordering}
use Rattle.std.specs.declared.cmp.Ordering.TheVariants.{Less, Equal, Greater}
use Rattle.std.specs.Ordering.{is_lt}
use Rattle.std.proofs.lemmas.Bool.{and_from, and_parts, cases_lt, eqb-true, true≢false}
use Rattle.std.proofs.Math.Seq.{drop-append-add, get_or-append_seam, take-append_seam}
use Rattle.std.proofs.lemmas.List.{append-nil, drop_all, get_or_append_left, length-append, reverse-append, reverse-reverse, take-append-drop}
use Rattle.std.proofs.lemmas.List.Elements.{All-append, All-cons}
use Rattle.std.proofs.lemmas.List.Splits.{join_with_byte-slice_split, length-slice_split, slice_split_at, slice_split_none}
use Rattle.std.proofs.lemmas.List.Sums.{passes_at_first, position_or_len_is, split_at_first}
use Rattle.std.proofs.lemmas.Slice.Eq.{bytes_eq-Decides}
use Rattle.zot_digest.specs.ByteMap.{byte_cmp}
use Rattle.zot_maps.proofs.Maps.{byte_order}
use Rattle.zot_names.specs.Name.{IsName}
use Rattle.zot_links.proofs.NameLemmas.{empty_fails, name_feeds, name_from, name_passes, name_spaces}
use Rattle.zot_links.specs.Records.{AreLines, NamesRepos, each_line, if_in_order, in_order, is_feed, is_less, is_name, is_space, join_line, line_by, line_of, line_text, link_by, link_line, record_by, record_of, record_text, whole_line}
use Rattle.zot_links.specs.declared.record_line.RecordLine.{RecordLine}

-- ---- lists

split_first : (p : ℕ → Bool) (xs ys : List ℕ) (y : ℕ) → All (λ x. p x ≡ false) xs → p y ≡ true → position_or_len p (xs ++ y ∷ ys) ≡ length xs
split_first p xs ys y none is =
    let long = length-append xs (y ∷ ys) in
    position_or_len_is p (xs ++ y ∷ ys) (length xs) 0 (omega arith)
    (λ k lt. ap p (get_or_append_left xs (y ∷ ys) 0 k lt) ∙ none k 0 lt) (λ lt. ap p (get_or-append_seam xs y ys 0) ∙ is)

-- what stands before and after the first element that passes
before_is : (p : ℕ → Bool) (xs ys : List ℕ) (y : ℕ) → All (λ x. p x ≡ false) xs → p y ≡ true → before_first p (xs ++ y ∷ ys) ≡ xs
before_is p xs ys y none is = ap (λ n. take n (xs ++ y ∷ ys)) (split_first p xs ys y none is) ∙ take-append_seam xs (y ∷ ys)

after_is : (p : ℕ → Bool) (xs ys : List ℕ) (y : ℕ) → All (λ x. p x ≡ false) xs → p y ≡ true → after_first p (xs ++ y ∷ ys) ≡ ys
after_is p xs ys y none is = ap (λ n. drop (n + 1) (xs ++ y ∷ ys)) (split_first p xs ys y none is) ∙ drop-append-add xs (y ∷ ys) 1

reverse_first : (x : ℕ) (xs : List ℕ) → reverse (x ∷ xs) ≡ reverse xs ++ x ∷ []
reverse_first x xs = reverse-append (x ∷ []) xs

-- ---- one line

abbrev line_with : List ℕ → Option (List ℕ) → RecordLine
line_with name origin = record { name = name; origin = origin }

line_again_by : (name : List ℕ) (origin : Option (List ℕ)) → IsName name → IfSome origin IsName → line_of (line_by name origin) ≡ Some (line_with name origin)
unfolding line_of
line_again_by name None is from = ap (λ b. if b then Some (line_with name None) else None) (name_passes name is)
line_again_by name (Some origin) is from =
    let spaces = name_spaces name is in
    ap (λ b. link_by b (after_first is_space (name ++ 32 ∷ origin))) (before_is is_space name origin 32 spaces refl)
    ∙ ap (λ a. link_by name a) (after_is is_space name origin 32 spaces refl)
    ∙ ap (λ b. if b then Some (line_with name (Some origin)) else None) (and_from (is_name name) (is_name origin) (name_passes name is) (name_passes origin from))

line_again : (line : RecordLine) → NamesRepos line → line_of (line_text line) ≡ Some line
line_again line is = line_again_by line.name line.origin is.0 is.1

whole_is : (name : List ℕ) (line : RecordLine) → whole_line name ≡ Some line → (line_text line ≡ codes "W " ++ name) × NamesRepos line
whole_is name line h =
    elim (is_name name) as (λ b. is_name name ≡ b → (if b then Some (line_with name None) else None) ≡ Some line → (line_text line ≡ codes "W " ++ name) × NamesRepos line) [
      | true ↦ λ is k. let same : line_with name None ≡ line = cc in subst (λ l. (line_text l ≡ codes "W " ++ name) × NamesRepos l) same (refl, (name_from name is, tt))
      | false ↦ λ is k. cc k
    ] refl h

-- a text whose part after the first space is a name has a space
has_space : (rest : List ℕ) → is_name (after_first is_space rest) ≡ true → rest ≡ before_first is_space rest ++ (32 ∷ after_first is_space rest)
has_space rest named =
    elim (cases_lt (position_or_len is_space rest) (length rest)) [
      | inl lt ↦
          split_at_first is_space rest 0 lt
          ∙ ap (λ c. before_first is_space rest ++ (c ∷ after_first is_space rest)) (eqb-true (get_or rest (position_or_len is_space rest) 0) 32 (passes_at_first is_space rest 0 lt))
      | inr ge ↦
          let none : after_first is_space rest ≡ [] = drop_all (position_or_len is_space rest + 1) rest (omega arith) in
          absurd (true≢false (sym named ∙ ap is_name none ∙ empty_fails))
    ]

link_is_by : (name origin : List ℕ) (line : RecordLine) → link_by name origin ≡ Some line → (line_text line ≡ codes "L " ++ (name ++ (codes " " ++ origin))) × NamesRepos line
link_is_by name origin line h =
    elim (is_name name && is_name origin) as (λ b. (is_name name && is_name origin) ≡ b → (if b then Some (line_with name (Some origin)) else None) ≡ Some line → (line_text line ≡ codes "L " ++ (name ++ (codes " " ++ origin))) × NamesRepos line) [
      | true ↦ λ is k.
          let same : line_with name (Some origin) ≡ line = cc in
          let parts = and_parts (is_name name) (is_name origin) is in
          subst (λ l. (line_text l ≡ codes "L " ++ (name ++ (codes " " ++ origin))) × NamesRepos l) same (refl, (name_from name parts.0, name_from origin parts.1))
      | false ↦ λ is k. cc k
    ] refl h

link_named : (name origin : List ℕ) (line : RecordLine) → link_by name origin ≡ Some line → is_name origin ≡ true
link_named name origin line h =
    elim (is_name name && is_name origin) as (λ b. (is_name name && is_name origin) ≡ b → (if b then Some (line_with name (Some origin)) else None) ≡ Some line → is_name origin ≡ true) [
      | true ↦ λ is k. let parts = and_parts (is_name name) (is_name origin) is in parts.1
      | false ↦ λ is k. cc k
    ] refl h

link_is : (rest : List ℕ) (line : RecordLine) → link_line rest ≡ Some line → (line_text line ≡ codes "L " ++ rest) × NamesRepos line
link_is rest line h =
    let name = before_first is_space rest in
    let origin = after_first is_space rest in
    let is = link_is_by name origin line h in
    (is.0 ∙ ap (λ t. codes "L " ++ t) (sym (has_space rest (link_named name origin line h))), is.1)

begins : (part kind : List ℕ) → bytes_eq (take 2 part) kind ≡ true → kind ++ drop 2 part ≡ part
begins part kind is = ap (λ t. t ++ drop 2 part) (sym ((bytes_eq-Decides (take 2 part) kind).0 is)) ∙ take-append-drop 2 part

line_is : (part : List ℕ) (line : RecordLine) → line_of part ≡ Some line → (line_text line ≡ part) × NamesRepos line
unfolding line_of
line_is part line h =
    elim (bytes_eq (take 2 part) (codes "W ")) as (λ b. bytes_eq (take 2 part) (codes "W ") ≡ b
    → (if b then whole_line (drop 2 part) else if bytes_eq (take 2 part) (codes "L ") then link_line (drop 2 part) else None) ≡ Some line → (line_text line ≡ part) × NamesRepos line) [
      | true ↦ λ is k. let found = whole_is (drop 2 part) line k in (found.0 ∙ begins part (codes "W ") is, found.1)
      | false ↦ λ _ k.
          elim (bytes_eq (take 2 part) (codes "L ")) as (λ b. bytes_eq (take 2 part) (codes "L ") ≡ b → (if b then link_line (drop 2 part) else None) ≡ Some line → (line_text line ≡ part) × NamesRepos line) [
            | true ↦ λ is m. let found = link_is (drop 2 part) line m in (found.0 ∙ begins part (codes "L ") is, found.1)
            | false ↦ λ _ m. cc m
          ] refl k
    ] refl h

abbrev HasNoFeed : ℕ → Type 0
HasNoFeed c = is_feed c ≡ false

line_feeds_by : (name : List ℕ) (origin : Option (List ℕ)) → IsName name → IfSome origin IsName → All HasNoFeed (line_by name origin)
line_feeds_by name None is from = All-cons HasNoFeed 87 (32 ∷ name) refl (All-cons HasNoFeed 32 name refl (name_feeds name is))
line_feeds_by name (Some origin) is from =
    All-cons HasNoFeed 76 (32 ∷ (name ++ 32 ∷ origin)) refl (All-cons HasNoFeed 32 (name ++ 32 ∷ origin) refl
    (All-append HasNoFeed name (32 ∷ origin) (name_feeds name is) (All-cons HasNoFeed 32 origin refl (name_feeds origin from))))

line_feeds : (line : RecordLine) → NamesRepos line → All (λ c. is_feed c ≡ false) (line_text line)
line_feeds line is = line_feeds_by line.name line.origin is.0 is.1

-- ---- lines

ended : (xs js : List ℕ) → (xs ++ 10 ∷ []) ++ (js ++ 10 ∷ []) ≡ (xs ++ 10 ∷ js) ++ 10 ∷ []
ended xs js = append_assoc xs (10 ∷ []) (js ++ 10 ∷ []) ∙ sym (append_assoc xs (10 ∷ js) (10 ∷ []))

-- the text of a record is that of its lines with line feeds between them, and one behind
text_joined : (line : RecordLine) (lines : List RecordLine) → record_text (line ∷ lines) ≡ join_with_byte 10 (map line_text (line ∷ lines)) ++ 10 ∷ []
text_joined line [] = append-nil (line_text line ++ 10 ∷ [])
text_joined line (next ∷ lines) =
    ap (λ t. (line_text line ++ 10 ∷ []) ++ t) (text_joined next lines) ∙ ended (line_text line) (join_with_byte 10 (map line_text (next ∷ lines)))

parts_again : (line : RecordLine) (lines : List RecordLine) → AllByRecursion NamesRepos (line ∷ lines) → slice_split is_feed (join_with_byte 10 (map line_text (line ∷ lines))) ≡ map line_text (line ∷ lines)
parts_again line [] all = slice_split_none is_feed (line_text line) (line_feeds line all.0)
parts_again line (next ∷ lines) all =
    slice_split_at is_feed (line_text line) 10 (join_with_byte 10 (map line_text (next ∷ lines))) (line_feeds line all.0) refl
    ∙ ap (λ rest. line_text line ∷ rest) (parts_again next lines all.1)

each_again : (lines : List RecordLine) → AllByRecursion NamesRepos lines → each_line (map line_text lines) ≡ Some lines
each_again [] all = refl
each_again (line ∷ lines) all = ap (λ o. join_line o (each_line (map line_text lines))) (line_again line all.0) ∙ ap (join_line (Some line)) (each_again lines all.1)

joined_from : (o : Option RecordLine) (r : Option (List RecordLine)) (lines : List RecordLine) → join_line o r ≡ Some lines
    → (line : RecordLine) × (rest : List RecordLine) × (o ≡ Some line) × (r ≡ Some rest) × (line ∷ rest ≡ lines)
joined_from None r lines h = cc h
joined_from (Some line) None lines h = cc h
joined_from (Some line) (Some rest) lines h = (line, rest, refl, refl, cc)

each_is : (parts : List (List ℕ)) (lines : List RecordLine) → each_line parts ≡ Some lines → (map line_text lines ≡ parts) × AllByRecursion NamesRepos lines
each_is [] lines h = let same : [] ≡ lines = cc in subst (λ ls. (map line_text ls ≡ []) × AllByRecursion NamesRepos ls) same (refl, tt)
each_is (part ∷ parts) lines h =
    let found = joined_from (line_of part) (each_line parts) lines h in
    let line = found.0 in
    let rest = found.1 in
    let first = line_is part line found.2 in
    let others = each_is parts rest found.3 in
    let texts : map line_text (line ∷ rest) ≡ part ∷ parts = ap (λ t. t ∷ map line_text rest) first.0 ∙ ap (λ ts. part ∷ ts) others.0 in
    subst (λ ls. (map line_text ls ≡ part ∷ parts) × AllByRecursion NamesRepos ls) found.4 (texts, (first.1, others.1))

less : (r : Ordering) → is_lt r ≡ true → r ≡ Less
less Less h = refl
less Equal h = cc h
less Greater h = cc h

below_further : (a b : List ℕ) (ys : List (List ℕ)) → byte_cmp a b ≡ Less → AllByRecursion (λ y. byte_cmp b y ≡ Less) ys → AllByRecursion (λ y. byte_cmp a y ≡ Less) ys
below_further a b [] lt all = tt
below_further a b (y ∷ ys) lt all = (byte_order.total.trans a b y lt all.0, below_further a b ys lt all.1)

names : List RecordLine → List (List ℕ)
names lines = map (λ line. line.name) lines

ascends : (previous : List ℕ) (lines : List RecordLine) → in_order previous lines ≡ true → IsStrictlySortedBy byte_cmp (previous ∷ map (λ line. line.name) lines)
unfolding IsStrictlySortedBy
ascends previous [] h = (tt, tt)
ascends previous (line ∷ lines) h =
    let parts = and_parts (is_less previous line.name) (in_order line.name lines) h in
    let rest = ascends line.name lines parts.1 in
    let lt = less (byte_cmp previous line.name) parts.0 in
    ((lt, below_further previous line.name (map (λ l. l.name) lines) lt rest.0), rest)

ascends_again : (previous : List ℕ) (lines : List RecordLine) → IsStrictlySortedBy byte_cmp (previous ∷ map (λ line. line.name) lines) → in_order previous lines ≡ true
unfolding IsStrictlySortedBy
ascends_again previous [] h = refl
ascends_again previous (line ∷ lines) h = and_from (is_less previous line.name) (in_order line.name lines) (ap is_lt h.0.0) (ascends_again line.name lines h.1)

-- ---- records

named_above : (name : List ℕ) → IsName name → byte_cmp [] name ≡ Less
named_above [] is = absurd (true≢false (sym (name_passes [] is) ∙ empty_fails))
named_above (c ∷ name) is = refl

all_above : (lines : List RecordLine) → AllByRecursion NamesRepos lines → AllByRecursion (λ y. byte_cmp [] y ≡ Less) (map (λ line. line.name) lines)
all_above [] all = tt
all_above (line ∷ lines) all = (named_above line.name all.0.0, all_above lines all.1)

in_order_again : (lines : List RecordLine) → AreLines lines → in_order [] lines ≡ true
unfolding IsStrictlySortedBy
in_order_again lines are = ascends_again [] lines (all_above lines are.names, are.ascend)

pub reads_again : (lines : List RecordLine) → AreLines lines → record_of (record_text lines) ≡ Some lines
unfolding record_of
reads_again [] are = refl
reads_again (line ∷ lines) are =
    let joined = join_with_byte 10 (map line_text (line ∷ lines)) in
    ap (λ t. record_by (reverse t)) (text_joined line lines) ∙ ap record_by (reverse-append joined (10 ∷ []))
    ∙ ap (λ t. if_in_order (each_line (slice_split is_feed t))) (reverse-reverse joined)
    ∙ ap (λ ps. if_in_order (each_line ps)) (parts_again line lines are.names) ∙ ap if_in_order (each_again (line ∷ lines) are.names)
    ∙ ap (λ b. if b then Some (line ∷ lines) else None) (in_order_again (line ∷ lines) are)

ordered : (r : Option (List RecordLine)) (lines : List RecordLine) → if_in_order r ≡ Some lines → (r ≡ Some lines) × (in_order [] lines ≡ true)
ordered None lines h = cc h
ordered (Some ls) lines h =
    elim (in_order [] ls) as (λ b. in_order [] ls ≡ b → (if b then Some ls else None) ≡ Some lines → (Some ls ≡ Some lines) × (in_order [] lines ≡ true)) [
      | true ↦ λ is k. let same : ls ≡ lines = cc in (k, sym (ap (in_order []) same) ∙ is)
      | false ↦ λ is k. cc k
    ] refl h

text_from : (before : List ℕ) (lines : List RecordLine) → map line_text lines ≡ slice_split is_feed before → before ++ 10 ∷ [] ≡ record_text lines
text_from before [] h = let long = length-slice_split is_feed before in let none = ap (length {A = List ℕ}) h in absurd (omega (arith, long, none))
text_from before (line ∷ lines) h =
    ap (λ t. t ++ 10 ∷ []) (sym (join_with_byte-slice_split 10 before) ∙ ap (join_with_byte 10) (sym h)) ∙ sym (text_joined line lines)

record_by_is : (backwards : List ℕ) (lines : List RecordLine) → record_by backwards ≡ Some lines → (reverse backwards ≡ record_text lines) × AreLines lines
unfolding IsStrictlySortedBy
record_by_is [] lines h = let same : [] ≡ lines = cc in subst (λ ls. ([] ≡ record_text ls) × AreLines ls) same (refl, record { names = tt; ascend = tt })
record_by_is (last ∷ before) lines h =
    elim (is_feed last) as (λ b. is_feed last ≡ b → (if b then if_in_order (each_line (slice_split is_feed (reverse before))) else None) ≡ Some lines → (reverse (last ∷ before) ≡ record_text lines) × AreLines lines) [
      | true ↦ λ is k.
          let found = ordered (each_line (slice_split is_feed (reverse before))) lines k in
          let each = each_is (slice_split is_feed (reverse before)) lines found.0 in (
            reverse_first last before ∙ ap (λ c. reverse before ++ c ∷ []) (eqb-true last 10 is) ∙ text_from (reverse before) lines each.0,
            record { names = each.1; ascend = (ascends [] lines found.1).1 },
          )
      | false ↦ λ is k. cc k
    ] refl h

pub record_is : (bytes : List ℕ) (lines : List RecordLine) → record_of bytes ≡ Some lines → (bytes ≡ record_text lines) × AreLines lines
unfolding record_of
record_is bytes lines h = let found = record_by_is (reverse bytes) lines h in (sym (reverse-reverse bytes) ∙ found.0, found.1)
