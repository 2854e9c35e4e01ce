-- Walks over the items of a list and over the fields of an object.
use Rattle.std.proofs.Common.{◌≡◌, ℕ, ◌+◌, ◌<◌, Bool, true, false, ◌||◌, cond, List, [], ◌∷◌, ◌++◌, length, get_or, drop, Some, Result, Ok, Err, Bor, Global, string_bytes, bytes_eq, sym, ap, ◌∙◌, subst, arith}
use Rattle.std.proofs.lemmas.List.{drop_more}
use Rattle.json.specs.Value as json
use Rattle.json.specs.declared.value.Value as text
use Rattle.serde_json.specs.View.{view, items_view, members_view}
use Rattle.serde_json.specs.Written.{has_float, items_have_float, members_have_float}
use Rattle.serde_json.specs.declared.value.Value.{Value}
use Rattle.serde_json.proofs.Views.{Entry, items_len-items_view}
use Rattle.zot_config.specs.declared.field.Field.{Field}
use Rattle.zot_config.specs.Forms.{counted, if_so, is_count}
use Rattle.zot_config.specs.Object.{count_of}
use Rattle.zot_config.specs.Table.{member_of, members_of}
use Rattle.zot_config.specs.Unknown.{first_unknown, is_known}
use Rattle.zot_config.specs.declared.config_error.ConfigError.{ConfigError}
use Rattle.zot_config.specs.Wrong.{Read, Reads, Refuses, after}
use Rattle.zot_config.proofs.ReadLemmas.{after_refused}

-- from a place of a list on: the element there, and the rest
rest : {A : Type 0} (xs : List A) (i : ℕ) (x : A) → i < length xs → x ≡ get_or xs i x → drop i xs ≡ x ∷ drop (i + 1) xs
rest xs i x within is = drop_more xs i x within ∙ ap (λ y. y ∷ drop (i + 1) xs) (sym is)

pub item_here : (xs : List Value) (i : ℕ) (x : Value) → i < length xs → x ≡ get_or xs i x → has_float (view x) ≡ true → items_have_float (items_view (drop i xs)) ≡ true
item_here xs i x within is float =
    ap (λ ys. items_have_float (items_view ys)) (rest xs i x within is) ∙ ap (λ b. b || items_have_float (items_view (drop (i + 1) xs))) float

pub item_later : (xs : List Value) (i : ℕ) (x : Value) → i < length xs → x ≡ get_or xs i x → has_float (view x) ≡ false
    → items_have_float (items_view (drop i xs)) ≡ items_have_float (items_view (drop (i + 1) xs))
item_later xs i x within is whole =
    ap (λ ys. items_have_float (items_view ys)) (rest xs i x within is) ∙ ap (λ b. b || items_have_float (items_view (drop (i + 1) xs))) whole

pub member_here : (es left : List Entry) (e : Entry) → es ≡ e ∷ left → has_float (view e.1) ≡ true → members_have_float (members_view es) ≡ true
member_here es left e is float = ap (λ ys. members_have_float (members_view ys)) is ∙ ap (λ b. b || members_have_float (members_view left)) float

pub member_later : (es left : List Entry) (e : Entry) → es ≡ e ∷ left → has_float (view e.1) ≡ false → members_have_float (members_view es) ≡ members_have_float (members_view left)
member_later es left e is whole = ap (λ ys. members_have_float (members_view ys)) is ∙ ap (λ b. b || members_have_float (members_view left)) whole

pub known_here : (known : List Field) (es left : List Entry) (e : Entry) → es ≡ e ∷ left → is_known known (string_bytes e.0) ≡ true
    → first_unknown known (members_view es) ≡ first_unknown known (members_view left)
known_here known es left e is h =
    ap (λ ys. first_unknown known (members_view ys)) is ∙ ap (λ b. cond b (first_unknown known (members_view left)) (Some (string_bytes e.0, view e.1))) h

pub unknown_here : (known : List Field) (es left : List Entry) (e : Entry) → es ≡ e ∷ left → is_known known (string_bytes e.0) ≡ false
    → first_unknown known (members_view es) ≡ Some (string_bytes e.0, view e.1)
unknown_here known es left e is h =
    ap (λ ys. first_unknown known (members_view ys)) is ∙ ap (λ b. cond b (first_unknown known (members_view left)) (Some (string_bytes e.0, view e.1))) h

-- a member of an object, as the tree of its text has it
abbrev pub Named : Type 0
Named = Bor (List ℕ) × text.Value Global

counted_more : (name : List ℕ) (xs : List Named) (i : ℕ) (x : Named) → i < length xs → x ≡ get_or xs i x
    → count_of name (json.members_view (drop i xs)) ≡ cond (bytes_eq x.0.now name) 1 0 + count_of name (json.members_view (drop (i + 1) xs))
counted_more name xs i x within is = ap (λ ys. count_of name (json.members_view ys)) (rest xs i x within is)

pub counted_here : (name : List ℕ) (xs : List Named) (i : ℕ) (x : Named) (count all : ℕ) → i < length xs → x ≡ get_or xs i x → bytes_eq x.0.now name ≡ true
    → count + count_of name (json.members_view (drop i xs)) ≡ all → (count + 1) + count_of name (json.members_view (drop (i + 1) xs)) ≡ all
counted_here name xs i x count all within is same h =
    let more = counted_more name xs i x within is in
    let one = rw same at more in
    omega (arith, one, h)

pub counted_later : (name : List ℕ) (xs : List Named) (i : ℕ) (x : Named) (count all : ℕ) → i < length xs → x ≡ get_or xs i x → bytes_eq x.0.now name ≡ false
    → count + count_of name (json.members_view (drop i xs)) ≡ all → count + count_of name (json.members_view (drop (i + 1) xs)) ≡ all
counted_later name xs i x count all within is other h =
    let more = counted_more name xs i x within is in
    let none = rw other at more in
    omega (arith, none, h)

members_more : (earlier : List (List ℕ)) (xs : List Value) (i : ℕ) (x : Value) → i < length xs → x ≡ get_or xs i x
    → members_of earlier (items_view (drop i xs)) ≡ after (member_of earlier (view x)) (λ address. members_of (earlier ++ address ∷ []) (items_view (drop (i + 1) xs)))
members_more earlier xs i x within is = ap (λ ys. members_of earlier (items_view ys)) (rest xs i x within is)

-- after a member that is right
pub member_right : (whole : Read (List (List ℕ))) (earlier given later : List (List ℕ)) (xs : List Value) (i : ℕ) (x : Value) (address : List ℕ) → i < length xs → x ≡ get_or xs i x
    → whole ≡ members_of earlier (items_view (drop i xs)) → given ≡ earlier → member_of given (view x) ≡ Ok address → later ≡ earlier ++ address ∷ []
    → whole ≡ members_of later (items_view (drop (i + 1) xs))
member_right whole earlier given later xs i x address within is sofar same right pushed =
    let right_of : member_of earlier (view x) ≡ Ok address = ap (λ es. member_of es (view x)) (sym same) ∙ right in
    sofar ∙ members_more earlier xs i x within is ∙ ap (λ r. after r (λ address. members_of (earlier ++ address ∷ []) (items_view (drop (i + 1) xs)))) right_of
    ∙ ap (λ es. members_of es (items_view (drop (i + 1) xs))) (sym pushed)

-- at a member that is wrong
pub member_refused : (whole : Read (List (List ℕ))) (earlier given : List (List ℕ)) (xs : List Value) (i : ℕ) (x : Value) (e : ConfigError) (r : Result (List (List ℕ)) ConfigError)
    → i < length xs → x ≡ get_or xs i x → whole ≡ members_of earlier (items_view (drop i xs)) → given ≡ earlier → Refuses (member_of given (view x)) e → r ≡ Err e → Reads r whole
member_refused whole earlier given xs i x e r within is sofar same refused made =
    let refused_of : Refuses (member_of earlier (view x)) e = subst (λ es. Refuses (member_of es (view x)) e) same refused in
    let all = sofar ∙ members_more earlier xs i x within is in
    rw (made, all) (after_refused (member_of earlier (view x)) _ e refused_of)

-- a list of so many values
pub counted_is : (xs : List Value) (n : ℕ) (b : Bool) → n ≡ length xs → b ≡ is_count n → counted (items_view xs) ≡ if_so b (items_view xs)
counted_is xs n b long is = ap (λ n. if_so (is_count n) (items_view xs)) (items_len-items_view xs ∙ sym long) ∙ ap (λ b. if_so b (items_view xs)) (sym is)
