-- Names in records: the test for them, and which bytes they have.
use Rattle.std.proofs.Common.{◌≡◌, ℕ, ◌==◌, ◌<◌, true, false, List, [], length, refl, sym, ap, ◌∙◌, arith}
use Rattle.std.specs.Prelude.{IsUtf8}
use Rattle.std.specs.List.{All}
use Rattle.std.proofs.lemmas.Bool.{and_from, and_parts, eqb-true, false_from_ne_true, le-leb, leb-true, true≢false}
use Rattle.std.proofs.lemmas.Bool.Decides.{nat_tests}
use Rattle.std.proofs.lemmas.List.Elements.{All-weaker}
use Rattle.std.proofs.lemmas.Str.{IsUtf8-from_ascii}
use Rattle.std.proofs.lemmas.Str.Ascii.{IsAscii-from_all}
use Rattle.zot_names.specs.Name.{IsName, components_of, is_name_byte}
use Rattle.zot_names.specs.Reading.{may_all_follow}
use Rattle.zot_names.proofs.ByteLemmas.{name_bytes}
use Rattle.zot_names.proofs.NameLemmas.{name_test}
use Rattle.zot_links.specs.Records.{is_feed, is_name, is_space}

-- the test passes exactly the names
pub name_from : (text : List ℕ) → is_name text ≡ true → IsName text
unfolding is_name
name_from text h =
    let parts = and_parts _ _ h in
    (name_test text (may_all_follow [] (components_of text)) (leb-true (length text) 255 parts.0) refl).0 parts.1

pub name_passes : (text : List ℕ) → IsName text → is_name text ≡ true
unfolding is_name
name_passes text is =
    and_from _ _ (le-leb (length text) 255 is.short) ((name_test text (may_all_follow [] (components_of text)) is.short refl).1 is)

pub name_fails : (text : List ℕ) → ¬ IsName text → is_name text ≡ false
name_fails text none = false_from_ne_true (is_name text) (λ h. none (name_from text h))

-- the empty text is no name
pub empty_fails : is_name [] ≡ false
unfolding is_name
empty_fails = refl

ascii_byte : (c : ℕ) → is_name_byte c ≡ true → c < 128
ascii_byte c h = grind (arith, nat_tests)

no_byte : (b c : ℕ) → is_name_byte b ≡ false → is_name_byte c ≡ true → (c == b) ≡ false
no_byte b c out h = false_from_ne_true (c == b) (λ is. true≢false (sym h ∙ ap is_name_byte (eqb-true c b is) ∙ out))

-- a name is text
pub name_text : (text : List ℕ) → IsName text → IsUtf8 text
name_text text is = IsUtf8-from_ascii text (IsAscii-from_all text (All-weaker (λ c. is_name_byte c ≡ true) (λ c. c < 128) ascii_byte text (name_bytes text is)))

-- it has no line feed and no space
pub name_feeds : (text : List ℕ) → IsName text → All (λ c. is_feed c ≡ false) text
name_feeds text is = All-weaker (λ c. is_name_byte c ≡ true) (λ c. is_feed c ≡ false) (λ c h. no_byte 10 c refl h) text (name_bytes text is)

pub name_spaces : (text : List ℕ) → IsName text → All (λ c. is_space c ≡ false) text
name_spaces text is = All-weaker (λ c. is_name_byte c ≡ true) (λ c. is_space c ≡ false) (λ c h. no_byte 32 c refl h) text (name_bytes text is)
