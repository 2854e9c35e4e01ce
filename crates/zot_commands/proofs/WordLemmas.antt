-- The words of the program.
use Rattle.std.proofs.Common.{◌≡◌, ℕ, ◌<◌, ◌≤◌, arith, Bool, false, refl, true, List, [], ◌∷◌, length, map, sym, ap, ◌∙◌, slice_index_or, String, Global, string_bytes, Option, Some, None}
use Rattle.std.specs.Str.{bytes_eq}
use Rattle.std.proofs.lemmas.Bool.{true≢false}
use Rattle.std.proofs.lemmas.Slice.Eq.{bytes_eq-Decides}
use Rattle.zot_head.specs.Fields.{length_of}
use Rattle.zot_commands.specs.Program.{ArePipeAt, is_waiting, is_waiting_word, pipe_at_words, pipe_words}
use Rattle.zot_commands.specs.Verify.{verify_words}

head_of : (first : List ℕ) (rest : List (List ℕ)) (other : List ℕ) → first ∷ rest ≡ other ∷ [] → first ≡ other
head_of first rest other h = cc h

-- the one word is `pipe`
pub one_word : (words : List (String Global)) (word : String Global) (text : List ℕ) (b : Bool) → 1 ≤ length words → length words < 2 → word ≡ slice_index_or words 0 word
    → text ≡ string_bytes word → b ≡ bytes_eq text (112 ∷ 105 ∷ 112 ∷ 101 ∷ []) → (b ≡ true → map string_bytes words ≡ pipe_words) × (map string_bytes words ≡ pipe_words → b ≡ true)
unfolding pipe_words
one_word [] word text b some few is text_is b_is = absurd (omega arith)
one_word (first ∷ []) word text b some few is text_is b_is =
    let same : text ≡ string_bytes first = text_is ∙ ap string_bytes is in
    let decides = bytes_eq-Decides text (112 ∷ 105 ∷ 112 ∷ 101 ∷ []) in (
      λ t. ap (λ w. w ∷ []) (sym same ∙ decides.0 (sym b_is ∙ t)),
      λ h. b_is ∙ decides.1 (same ∙ head_of (string_bytes first) [] (112 ∷ 105 ∷ 112 ∷ 101 ∷ []) h),
    )
one_word (first ∷ second ∷ more) word text b some few is text_is b_is = absurd (omega arith)

-- a test that isn't true is false
pub false_unless : (b : Bool) → ¬ (b ≡ true) → b ≡ false
false_unless true h = absurd (h refl)
false_unless false h = refl

-- two words are these
two_words : (words : List (String Global)) (first second : String Global) → 2 ≤ length words → length words < 3 → first ≡ slice_index_or words 0 first → second ≡ slice_index_or words 1 second
    → map string_bytes words ≡ string_bytes first ∷ string_bytes second ∷ []
two_words [] first second some few a b = absurd (omega arith)
two_words (one ∷ []) first second some few a b = absurd (omega arith)
two_words (one ∷ two ∷ []) first second some few a b = cc
two_words (one ∷ two ∷ more ∷ rest) first second some few a b = absurd (omega arith)

-- they are those of `verify`
pub are_verify : (words : List (String Global)) (first second : String Global) (text path : List ℕ) (b : Bool) → 2 ≤ length words → length words < 3
    → first ≡ slice_index_or words 0 first → second ≡ slice_index_or words 1 second → text ≡ string_bytes first → path ≡ string_bytes second
    → b ≡ bytes_eq text (118 ∷ 101 ∷ 114 ∷ 105 ∷ 102 ∷ 121 ∷ []) → b ≡ true → map string_bytes words ≡ verify_words path
unfolding verify_words
are_verify words first second text path b some few a1 a2 text_is path_is b_is t =
    let decides = bytes_eq-Decides text (118 ∷ 101 ∷ 114 ∷ 105 ∷ 102 ∷ 121 ∷ []) in
    let named = sym text_is ∙ decides.0 (sym b_is ∙ t) in
    let both = two_words words first second some few a1 a2 in
    both ∙ ap (λ w. w ∷ string_bytes second ∷ []) named ∙ ap (λ p. (118 ∷ 101 ∷ 114 ∷ 105 ∷ 102 ∷ 121 ∷ []) ∷ p ∷ []) (sym path_is)

-- ---- `pipe` for a path and a number

-- three words are these
three_words : (words : List (String Global)) (first second third : String Global) → 3 ≤ length words → length words < 4 → first ≡ slice_index_or words 0 first → second ≡ slice_index_or words 1 second → third ≡ slice_index_or words 2 third
    → map string_bytes words ≡ string_bytes first ∷ string_bytes second ∷ string_bytes third ∷ []
three_words [] first second third some few a b c = absurd (omega arith)
three_words (one ∷ []) first second third some few a b c = absurd (omega arith)
three_words (one ∷ two ∷ []) first second third some few a b c = absurd (omega arith)
three_words (one ∷ two ∷ three ∷ []) first second third some few a b c = cc
three_words (one ∷ two ∷ three ∷ more ∷ rest) first second third some few a b c = absurd (omega arith)

-- what the words of a path and digits are
first_is : (first second third path digits : List ℕ) → first ∷ second ∷ third ∷ [] ≡ pipe_at_words path digits → first ≡ 112 ∷ 105 ∷ 112 ∷ 101 ∷ []
unfolding pipe_at_words
first_is first second third path digits h = cc h

third_is : (first second third path digits : List ℕ) → first ∷ second ∷ third ∷ [] ≡ pipe_at_words path digits → digits ≡ third
unfolding pipe_at_words
third_is first second third path digits h = cc h

-- three texts are such words
spelled : (first second third path digits : List ℕ) → first ≡ 112 ∷ 105 ∷ 112 ∷ 101 ∷ [] → path ≡ second → digits ≡ third → first ∷ second ∷ third ∷ [] ≡ pipe_at_words path digits
unfolding pipe_at_words
spelled first second third path digits h k m = cc (h, k, m)

-- they aren't those of `pipe` alone
pub not_alone : (words : List (List ℕ)) (path : List ℕ) (member : ℕ) → words ≡ pipe_words → ¬ ArePipeAt words path member
unfolding pipe_words pipe_at_words
not_alone words path member alone h = cc (sym alone ∙ h.words_are)

second_is : (path digits other others : List ℕ) → pipe_at_words path digits ≡ pipe_at_words other others → path ≡ other
unfolding pipe_at_words
second_is path digits other others h = cc h

digits_are : (path digits other others : List ℕ) → pipe_at_words path digits ≡ pipe_at_words other others → digits ≡ others
unfolding pipe_at_words
digits_are path digits other others h = cc h

abbrev some : ℕ → Option ℕ
some n = Some n

some_is : (n m : ℕ) → some n ≡ some m → n ≡ m
some_is n m h = cc h

-- they are those of one path and one number
pub one_path : (words : List (List ℕ)) (path other : List ℕ) (member number : ℕ) → ArePipeAt words path member → ArePipeAt words other number → path ≡ other
one_path words path other member number h k = second_is path h.digits other k.digits (sym h.words_are ∙ k.words_are)

pub one_member : (words : List (List ℕ)) (path other : List ℕ) (member number : ℕ) → ArePipeAt words path member → ArePipeAt words other number → member ≡ number
one_member words path other member number h k =
    some_is member number (sym h.number_is ∙ ap length_of (digits_are path h.digits other k.digits (sym h.words_are ∙ k.words_are)) ∙ k.number_is)

-- words of another number are none of them
pub not_three : (words : List (String Global)) (path : List ℕ) (member : ℕ) → ¬ (length words ≡ 3) → ¬ ArePipeAt (map string_bytes words) path member
unfolding pipe_at_words
not_three [] path member other h = cc h.words_are
not_three (one ∷ []) path member other h = cc h.words_are
not_three (one ∷ two ∷ []) path member other h = cc h.words_are
not_three (one ∷ two ∷ three ∷ []) path member other h = other refl
not_three (one ∷ two ∷ three ∷ more ∷ rest) path member other h = cc h.words_are

module _ (words : List (String Global)) (first second third : String Global) (some : 3 ≤ length words) (few : length words < 4) (a : first ≡ slice_index_or words 0 first) (b : second ≡ slice_index_or words 1 second)
    (c : third ≡ slice_index_or words 2 third) where
  are_three : map string_bytes words ≡ string_bytes first ∷ string_bytes second ∷ string_bytes third ∷ []
  are_three = three_words words first second third some few a b c

  -- the first word is another one
  pub other_word : (text : List ℕ) (same : Bool) → text ≡ string_bytes first → same ≡ bytes_eq text (112 ∷ 105 ∷ 112 ∷ 101 ∷ []) → same ≡ false → (path : List ℕ) (member : ℕ) → ¬ ArePipeAt (map string_bytes words) path member
  other_word text same text_is same_is unlike path member h =
      let decides = bytes_eq-Decides text (112 ∷ 105 ∷ 112 ∷ 101 ∷ []) in
      let named = text_is ∙ first_is (string_bytes first) (string_bytes second) (string_bytes third) path h.digits (sym are_three ∙ h.words_are) in
      absurd (true≢false (sym (decides.1 named) ∙ sym same_is ∙ unlike))

  -- the third word is no number
  pub no_number : (text : List ℕ) → text ≡ string_bytes third → None ≡ length_of text → (path : List ℕ) (member : ℕ) → ¬ ArePipeAt (map string_bytes words) path member
  no_number text text_is none path member h =
      let digits_are = third_is (string_bytes first) (string_bytes second) (string_bytes third) path h.digits (sym are_three ∙ h.words_are) in
      cc (none ∙ ap length_of text_is ∙ ap length_of (sym digits_are) ∙ h.number_is)

  -- they are the words for the second one and the number of the third
  pub are_pipe_at : (text path digits : List ℕ) (same : Bool) (member : ℕ) → text ≡ string_bytes first → path ≡ string_bytes second → digits ≡ string_bytes third → same ≡ bytes_eq text (112 ∷ 105 ∷ 112 ∷ 101 ∷ []) → same ≡ true
      → Some member ≡ length_of digits → ArePipeAt (map string_bytes words) path member
  are_pipe_at text path digits same member text_is path_is digits_are same_is t number =
      let decides = bytes_eq-Decides text (112 ∷ 105 ∷ 112 ∷ 101 ∷ []) in
      record {
        digits = digits;
        words_are = are_three ∙ spelled (string_bytes first) (string_bytes second) (string_bytes third) path digits (sym text_is ∙ decides.0 (sym same_is ∙ t)) path_is digits_are;
        number_is = sym number;
      }

-- ---- commands that may wait

-- `pipe` may wait, and `verify` doesn't
pub pipe_waits : (words : List (List ℕ)) → words ≡ pipe_words → is_waiting words ≡ true
unfolding pipe_words is_waiting_word
pipe_waits words h = ap is_waiting h

pub pipe_at_waits : (words : List (List ℕ)) (path : List ℕ) (member : ℕ) → ArePipeAt words path member → is_waiting words ≡ true
unfolding pipe_at_words is_waiting_word
pipe_at_waits words path member h = ap is_waiting h.words_are

pub verify_returns : (words : List (List ℕ)) (path : List ℕ) → words ≡ verify_words path → is_waiting words ≡ false
unfolding verify_words is_waiting_word
verify_returns words path h = ap is_waiting h
