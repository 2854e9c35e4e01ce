-- SipHash-2-4 (Aumasson and Bernstein, "SipHash: a fast short-input PRF"): words are numbers below 2 ^ 64, and sums wrap.
use Rattle.std.specs.Prelude.{ℕ, ◌+◌, ◌/◌, ◌*◌, ◌%◌, ◌^◌, List, [], ◌∷◌, length, drop, take, fold, bit_xor, slice_index_or}
use Rattle.std.specs.Int.{w64, from_le_bytes, rotate_left}
use Rattle.std.specs.Simd.{first_chunks}
use Rattle.zot_siphash.specs.declared.state.State.{State}

-- the sum of two words
abbrev pub plus : ℕ → ℕ → ℕ
plus x y = (x + y) % 2 ^ 64

-- the words of eight bytes, the lowest first
abbrev pub word_of : List ℕ → ℕ
word_of bytes = from_le_bytes w64 bytes

-- the state under a key of two words
unfoldable pub started : ℕ → ℕ → State
started k0 k1 = record {
  v0 = bit_xor k0 0x736f_6d65_7073_6575;
  v1 = bit_xor k1 0x646f_7261_6e64_6f6d;
  v2 = bit_xor k0 0x6c79_6765_6e65_7261;
  v3 = bit_xor k1 0x7465_6462_7974_6573;
}

-- the state after one round
unfoldable pub round : State → State
round s =
    let a0 = plus s.v0 s.v1 in
    let a1 = bit_xor (rotate_left w64 s.v1 13) a0 in
    let a2 = plus s.v2 s.v3 in
    let a3 = bit_xor (rotate_left w64 s.v3 16) a2 in
    let b0 = plus (rotate_left w64 a0 32) a3 in
    let b3 = bit_xor (rotate_left w64 a3 21) b0 in
    let b2 = plus a2 a1 in
    let b1 = bit_xor (rotate_left w64 a1 17) b2 in
    record { v0 = b0; v1 = b1; v2 = rotate_left w64 b2 32; v3 = b3 }

-- the state with a word mixed into its last part, and into its first
abbrev pub with_last : State → ℕ → State
with_last s word = record { v0 = s.v0; v1 = s.v1; v2 = s.v2; v3 = bit_xor s.v3 word }

abbrev pub with_first : State → ℕ → State
with_first s word = record { v0 = bit_xor s.v0 word; v1 = s.v1; v2 = s.v2; v3 = s.v3 }

-- the state after a word of the text: two rounds
unfoldable pub absorbed : State → ℕ → State
absorbed s word = with_first (round (round (with_last s word))) word

-- the value of a state after the last word: four rounds
unfoldable pub finished : State → ℕ
finished s =
    let t = round (round (round (round (record { v0 = s.v0; v1 = s.v1; v2 = bit_xor s.v2 255; v3 = s.v3 })))) in
    bit_xor (bit_xor (bit_xor t.v0 t.v1) t.v2) t.v3

-- the last word: what is left of the text, zeros up to seven bytes, and the text's length modulo 256
abbrev pub left_at : List ℕ → ℕ → ℕ
left_at rest place = slice_index_or rest place 0

unfoldable pub last_word : List ℕ → ℕ → ℕ
last_word rest size =
    word_of (left_at rest 0 ∷ left_at rest 1 ∷ left_at rest 2 ∷ left_at rest 3 ∷ left_at rest 4 ∷ left_at rest 5 ∷ left_at rest 6 ∷ (size % 256) ∷ [])

-- the state after the whole words of a text
unfoldable pub whole_words : State → List (List ℕ) → State
whole_words s words = fold (λ t word. absorbed t (word_of word)) s words

-- the two halves of a key
abbrev pub first_half : List ℕ → List ℕ
first_half key = take 8 key

abbrev pub second_half : List ℕ → List ℕ
second_half key = drop 8 key

-- the hash of a text under a key of 16 bytes
unfoldable pub siphash : List ℕ → List ℕ → ℕ
siphash key text =
    let count = length text / 8 in
    let start = started (word_of (first_half key)) (word_of (second_half key)) in
    finished (absorbed (whole_words start (first_chunks 8 count text)) (last_word (drop (count * 8) text) (length text)))
