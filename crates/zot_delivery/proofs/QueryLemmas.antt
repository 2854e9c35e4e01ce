-- A query that was written is read as its pairs, and cut from its path.
use Rattle.std.proofs.Common.{◌≡◌, ◌≢◌, ℕ, Bool, ◌<◌, Some, None, Option, IfSome, List, [], ◌∷◌, ◌++◌, All, IsUtf8, bytes_eq, map, refl, sym, ap, ◌∙◌, arith, ⊎_elim, append-nil, if◌then◌else◌}
use Rattle.std.specs.List.{AllByRecursion}
use Rattle.std.specs.Option.{option_to_list}
use Rattle.std.specs.Str.Lossy.{utf8_lossy}
use Rattle.std.proofs.lemmas.Bool.{cond_both}
use Rattle.std.proofs.lemmas.Bool.Decides.{nat_tests}
use Rattle.std.proofs.lemmas.List.Elements.{All-append, All-cons, All-nil, All-weaker}
use Rattle.std.proofs.lemmas.Str.{utf8_lossy-IsUtf8}
use Rattle.form_urlencoded.specs.Form.{IsUnchanged, append_pair, byte_serialize, decode, extend_pairs, is_nonempty, raw_pairs, separator, serialize_pair, split_once}
use Rattle.form_urlencoded.proofs.FormLemmas.{All-byte_serialize, IsBytePair, IsSerializedByte, round_trip, split_once_after_at, split_once_after_none, split_once_before_at, split_once_before_none}
use Rattle.zot_route.specs.Path.{decoded, query_of, segments_of}
use Rattle.zot_route.specs.Query.{first_of, text_of, value_of, values_in}
use Rattle.zot_spell.specs.Wire.{present, query_text}
use Rattle.zot_delivery.proofs.ByteLemmas.{IsPathByte, IsVisible, text_bytes}
use Rattle.zot_delivery.proofs.FieldLemmas.{chosen, none_chosen}

-- a key is a text, and so is its value, where it has one
abbrev pub IsTextPair : List ℕ × Option (List ℕ) → Type 0
IsTextPair pair = IsUtf8 pair.0 × IfSome pair.1 IsUtf8

-- ---- the values of a key

-- whether a name is the key
abbrev pub is_key : List ℕ → List ℕ → Bool
is_key key name = bytes_eq name key

-- the values of a key among pairs of bytes, each read as a text
abbrev read_values : List ℕ → List (List ℕ × List ℕ) → List (List ℕ)
read_values key [] = []
read_values key (pair ∷ pairs) = if bytes_eq (utf8_lossy pair.0) key then utf8_lossy pair.1 ∷ read_values key pairs else read_values key pairs

values_in-raw : (key : List ℕ) (raw : List (List ℕ × List ℕ)) → values_in key raw ≡ read_values key (map (λ (name, value). (decode name, decode value)) raw)
values_in-raw key [] = refl
values_in-raw key (pair ∷ raw) =
    ap (λ (rest : List (List ℕ)). if bytes_eq (text_of pair.0) key then text_of pair.1 ∷ rest else rest) (values_in-raw key raw)

read_chosen : (key : List ℕ) (pairs : List (List ℕ × Option (List ℕ))) → AllByRecursion IsTextPair pairs → read_values key (present pairs) ≡ chosen (is_key key) pairs
read_chosen key [] all = refl
read_chosen key ((name, None) ∷ pairs) all = read_chosen key pairs all.1 ∙ sym (none_chosen (is_key key name) (chosen (is_key key) pairs))
read_chosen key ((name, Some value) ∷ pairs) all =
    λ i. if bytes_eq (utf8_lossy-IsUtf8 name all.0.0 i) key then utf8_lossy-IsUtf8 value all.0.1 i ∷ read_chosen key pairs all.1 i else read_chosen key pairs all.1 i

pairs_bytes : (pairs : List (List ℕ × Option (List ℕ))) → AllByRecursion IsTextPair pairs → All IsBytePair (present pairs)
pairs_bytes [] all = All-nil IsBytePair
pairs_bytes ((name, None) ∷ pairs) all = pairs_bytes pairs all.1
pairs_bytes ((name, Some value) ∷ pairs) all = All-cons IsBytePair (name, value) (present pairs) (text_bytes name all.0.0, text_bytes value all.0.1) (pairs_bytes pairs all.1)

-- the first value of a key in a query is that of the pairs of which it was written
pub value_of-form : (key : List ℕ) (pairs : List (List ℕ × Option (List ℕ))) → AllByRecursion IsTextPair pairs → value_of key (extend_pairs [] (present pairs)) ≡ first_of (chosen (is_key key) pairs)
value_of-form key pairs all =
    ap first_of (values_in-raw key (raw_pairs (extend_pairs [] (present pairs))) ∙ ap (read_values key) (round_trip (present pairs) (pairs_bytes pairs all)) ∙ read_chosen key pairs all)

pub first_only : (value : Option (List ℕ)) → first_of (option_to_list value ++ []) ≡ value
first_only None = refl
first_only (Some value) = refl

-- ---- the bytes of a query

unchanged_visible : (b : ℕ) → IsUnchanged b → IsVisible b
unchanged_visible b e = record { above = grind (arith, nat_tests); below = grind (arith, nat_tests) }

serialized_visible : (b : ℕ) → IsSerializedByte b → IsVisible b
serialized_visible b h =
    ⊎_elim (unchanged_visible b) (λ other. record { above = grind arith; below = grind arith }) h.allowed

one_visible : (b : ℕ) → 32 < b → b < 127 → All IsVisible (b ∷ [])
one_visible b above below = All-cons IsVisible b [] (record { above = above; below = below }) (All-nil IsVisible)

text_visible : (text : List ℕ) → All IsVisible (byte_serialize text)
text_visible text = All-weaker IsSerializedByte IsVisible serialized_visible (byte_serialize text) (All-byte_serialize text)

pair_visible : (pair : List ℕ × List ℕ) → All IsVisible (serialize_pair pair)
pair_visible pair =
    All-append IsVisible (byte_serialize pair.0 ++ 61 ∷ []) (byte_serialize pair.1)
    (All-append IsVisible (byte_serialize pair.0) (61 ∷ []) (text_visible pair.0) (one_visible 61 (omega arith) (omega arith))) (text_visible pair.1)

separator_visible : (form : List ℕ) → All IsVisible (separator form)
separator_visible form =
    cond_both (is_nonempty form) (38 ∷ []) [] (All IsVisible) (λ _. one_visible 38 (omega arith) (omega arith)) (λ _. All-nil IsVisible)

pub form_visible : (form : List ℕ) (pairs : List (List ℕ × List ℕ)) → All IsVisible form → All IsVisible (extend_pairs form pairs)
form_visible form [] all = all
form_visible form (pair ∷ pairs) all =
    form_visible (append_pair form pair.0 pair.1) pairs
    (All-append IsVisible (form ++ separator form) (serialize_pair pair) (All-append IsVisible form (separator form) all (separator_visible form)) (pair_visible pair))

-- ---- a path and a query

pub query_visible : (form : List ℕ) → All IsVisible form → All IsVisible (query_text form)
unfolding query_text
query_visible [] all = All-nil IsVisible
query_visible (b ∷ form) all = All-cons IsVisible 63 (b ∷ form) (record { above = omega arith; below = omega arith }) all

no_question : (path : List ℕ) → All IsPathByte path → All (λ b. b ≢ 63) path
no_question path all = All-weaker IsPathByte (λ b. b ≢ 63) (λ c h. h.question) path all

before_query : (path form : List ℕ) → All IsPathByte path → (split_once 63 (path ++ query_text form)).0 ≡ path
unfolding query_text
before_query path [] all = ap (λ t. (split_once 63 t).0) (append-nil path) ∙ split_once_before_none 63 path (no_question path all)
before_query path (b ∷ form) all = split_once_before_at 63 path (b ∷ form) (no_question path all)

after_query : (path form : List ℕ) → All IsPathByte path → (split_once 63 (path ++ query_text form)).1 ≡ form
unfolding query_text
after_query path [] all = ap (λ t. (split_once 63 t).1) (append-nil path) ∙ split_once_after_none 63 path (no_question path all)
after_query path (b ∷ form) all = split_once_after_at 63 path (b ∷ form) (no_question path all)

pub segments_of-target : (path form : List ℕ) → All IsPathByte path → segments_of (path ++ query_text form) ≡ decoded path
unfolding segments_of
segments_of-target path form all = ap decoded (before_query path form all)

pub query_of-target : (path form : List ℕ) → All IsPathByte path → query_of (path ++ query_text form) ≡ form
unfolding query_of
query_of-target path form all = after_query path form all
