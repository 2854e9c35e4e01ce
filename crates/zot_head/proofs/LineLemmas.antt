-- Where lines end stays where it is with more bytes after, and lies within the bytes.
use Rattle.std.proofs.Common.{zero, ◌≡◌, ◌≢◌, ◌⊎◌, ℕ, suc, ◌+◌, ◌-◌, ◌<◌, ◌≤◌, Bool, true, false, ◌&&◌, cond, eqb, leb, List, [], ◌∷◌, ◌++◌, length, take, drop, get_or, refl, sym, ap, ◌∙◌, arith, inl, inr, Option, Some, None}
use Rattle.std.specs.Prelude.{option_map}
use Rattle.std.proofs.lemmas.List.{take-take, length-append, length-take, length-drop, take_all, take-append-le, drop-append-le, drop-drop, drop_more}
use Rattle.std.proofs.lemmas.Bool.{cases_lt}
use Rattle.std.proofs.lemmas.Bool.Decides.{nat_tests}
use Rattle.std.proofs.Math.Seq.{take-append-add}
use Rattle.zot_head.specs.Lines.{begins_feed, line_end, section_end, blank_len, head_end, Extent, Ends, Passes, Goes, extent_of, extent}

-- which way a test went
pub chosen : {A : Type 0} (t : Bool) (x y z : A) → cond t x y ≡ z → ((t ≡ true) × (x ≡ z)) ⊎ ((t ≡ false) × (y ≡ z))
chosen true x y z e = inl (refl, e)
chosen false x y z e = inr (refl, e)

-- the place one byte on
pub map_suc : (o : Option ℕ) (n : ℕ) → option_map suc o ≡ Some n → (m : ℕ) × (o ≡ Some m) × (n ≡ suc m)
map_suc None n e = absurd cc
map_suc (Some m) n e = (m, refl, cc)

-- the place some bytes on
pub map_add : (o : Option ℕ) (k n : ℕ) → option_map (λ m. k + m) o ≡ Some n → (m : ℕ) × (o ≡ Some m) × (n ≡ k + m)
map_add None k n e = absurd cc
map_add (Some m) k n e = (m, refl, cc)

-- the end of a part of a message: it stays with more bytes after, and lies within the bytes
pub record IsEnd (part_end : List ℕ → Option ℕ) : Type 0 where
  pub stays : (a b : List ℕ) (n : ℕ) → part_end a ≡ Some n → part_end (a ++ b) ≡ Some n
  pub within : (a : List ℕ) (n : ℕ) → part_end a ≡ Some n → (0 < n) × (n ≤ length a)

-- ---- a line

line_end_stays : (a b : List ℕ) (n : ℕ) → line_end a ≡ Some n → line_end (a ++ b) ≡ Some n
line_end_stays [] b n e = absurd cc
line_end_stays (x ∷ a) b n e =
    elim (chosen (eqb x 10) (Some 1) (option_map suc (line_end a)) (Some n) e) [
      | inl p ↦ rw p.0 p.1
      | inr p ↦
          let m = map_suc (line_end a) n p.1 in
          rw (p.0, line_end_stays a b m.0 m.1) (ap Some (sym m.2))
    ]

line_end_within : (a : List ℕ) (n : ℕ) → line_end a ≡ Some n → (0 < n) × (n ≤ length a)
line_end_within [] n e = absurd cc
line_end_within (x ∷ a) n e =
    elim (chosen (eqb x 10) (Some 1) (option_map suc (line_end a)) (Some n) e) [
      | inl p ↦ let one : 1 ≡ n = cc in (omega arith, omega arith)
      | inr p ↦
          let m = map_suc (line_end a) n p.1 in
          let w = line_end_within a m.0 m.1 in
          (omega (arith, m.2), omega (arith, m.2, w.1))
    ]

pub line_end_is : IsEnd line_end
line_end_is = record { stays = line_end_stays; within = line_end_within }

-- ---- a section

begins_feed_stays : (a b : List ℕ) → begins_feed a ≡ true → begins_feed (a ++ b) ≡ true
begins_feed_stays [] b e = absurd cc
begins_feed_stays (x ∷ a) b e = e

pub begins_feed_some : (a : List ℕ) → begins_feed a ≡ true → 0 < length a
begins_feed_some [] e = absurd cc
begins_feed_some (x ∷ a) e = omega arith

and_true : (a b : Bool) → (a && b) ≡ true → (a ≡ true) × (b ≡ true)
and_true true b e = (refl, e)
and_true false b e = absurd cc

-- a CR in front, and what is after it
section_end_return : (a b : List ℕ) (n : ℕ) (t : Bool) → (t && begins_feed a) ≡ false → option_map suc (section_end false a) ≡ Some n
    → cond (t && begins_feed (a ++ b)) (Some 2) (option_map suc (section_end false (a ++ b))) ≡ option_map suc (section_end false (a ++ b))
section_end_return [] b n t e h = absurd cc
section_end_return (x ∷ a) b n t e h = rw e refl

section_end_stays : (s : Bool) (a b : List ℕ) (n : ℕ) → section_end s a ≡ Some n → section_end s (a ++ b) ≡ Some n
section_end_stays s [] b n e = absurd cc
section_end_stays true (x ∷ a) b n e =
    elim (chosen (eqb x 10) (Some 1) _ (Some n) e) [
      | inl p ↦ rw p.0 p.1
      | inr p ↦ elim (chosen (eqb x 13 && begins_feed a) (Some 2) _ (Some n) p.1) [
        | inl q ↦
            let r = and_true (eqb x 13) (begins_feed a) q.0 in
            rw (p.0, r.0, begins_feed_stays a b r.1) q.1
        | inr q ↦
            let m = map_suc (section_end false a) n q.1 in
            rw p.0 (section_end_return a b n (eqb x 13) q.0 q.1 ∙ rw (section_end_stays false a b m.0 m.1) (ap Some (sym m.2)))
      ]
    ]
section_end_stays false (x ∷ a) b n e =
    let m = map_suc (section_end (eqb x 10) a) n e in
    rw (section_end_stays (eqb x 10) a b m.0 m.1) (ap Some (sym m.2))

section_end_within : (s : Bool) (a : List ℕ) (n : ℕ) → section_end s a ≡ Some n → (0 < n) × (n ≤ length a)
section_end_within s [] n e = absurd cc
section_end_within true (x ∷ a) n e =
    elim (chosen (eqb x 10) (Some 1) _ (Some n) e) [
      | inl p ↦ let one : 1 ≡ n = cc in (omega arith, omega arith)
      | inr p ↦ elim (chosen (eqb x 13 && begins_feed a) (Some 2) _ (Some n) p.1) [
        | inl q ↦
            let two : 2 ≡ n = cc in
            let some = begins_feed_some a (and_true (eqb x 13) (begins_feed a) q.0).1 in
            (omega arith, omega (arith, some))
        | inr q ↦
            let m = map_suc (section_end false a) n q.1 in
            let w = section_end_within false a m.0 m.1 in
            (omega (arith, m.2), omega (arith, m.2, w.1))
      ]
    ]
section_end_within false (x ∷ a) n e =
    let m = map_suc (section_end (eqb x 10) a) n e in
    let w = section_end_within (eqb x 10) a m.0 m.1 in
    (omega (arith, m.2), omega (arith, m.2, w.1))

pub section_end_is : (s : Bool) → IsEnd (section_end s)
section_end_is s = record { stays = section_end_stays s; within = section_end_within s }

-- ---- a head

-- more bytes after don't change how long the empty lines in front are, once a section's end stands after them
blank_len_stays : (a b : List ℕ) (n : ℕ) → section_end false (drop (blank_len a) a) ≡ Some n → (blank_len (a ++ b) ≡ blank_len a) × (blank_len a ≤ length a)
blank_len_stays [] b n e = absurd cc
blank_len_stays (x ∷ []) b n e = absurd (nothing (eqb x 10) e)
  where
    nothing : (t : Bool) → section_end false (drop (cond t 1 0) (x ∷ [])) ≡ Some n → ⊥
    nothing true h = cc
    nothing false h = cc
blank_len_stays (x ∷ y ∷ a) b n e =
    elim (cases_bool (eqb x 10)) [
      | inl p ↦
          let h : section_end false (drop (blank_len (y ∷ a)) (y ∷ a)) ≡ Some n = rw p at e in
          let w = blank_len_stays (y ∷ a) b n h in
          rw p (ap suc w.0, omega (arith, w.1))
      | inr p ↦ elim (cases_bool (eqb x 13 && eqb y 10)) [
        | inl q ↦
            let h : section_end false (drop (blank_len a) a) ≡ Some n = rw (p, q) at e in
            let w = blank_len_stays a b n h in
            rw (p, q) (ap (λ (k : ℕ). suc (suc k)) w.0, omega (arith, w.1))
        | inr q ↦ rw (p, q) (refl, omega arith)
      ]
    ]
  where
    cases_bool : (t : Bool) → (t ≡ true) ⊎ (t ≡ false)
    cases_bool true = inl refl
    cases_bool false = inr refl

head_end_stays : (a b : List ℕ) (n : ℕ) → head_end a ≡ Some n → head_end (a ++ b) ≡ Some n
head_end_stays a b n e =
    let m = map_add (section_end false (drop (blank_len a) a)) (blank_len a) n e in
    let w = blank_len_stays a b m.0 m.1 in
    rw (w.0, drop-append-le (blank_len a) a b w.1, section_end_stays false (drop (blank_len a) a) b m.0 m.1) (ap Some (sym m.2))

head_end_within : (a : List ℕ) (n : ℕ) → head_end a ≡ Some n → (0 < n) × (n ≤ length a)
head_end_within a n e =
    let m = map_add (section_end false (drop (blank_len a) a)) (blank_len a) n e in
    let w = blank_len_stays a [] m.0 m.1 in
    let v = section_end_within false (drop (blank_len a) a) m.0 m.1 in
    (omega (arith, m.2, v.0), omega (arith, m.2, v.1, w.1, length-drop (blank_len a) a))

pub head_end_is : IsEnd head_end
head_end_is = record { stays = head_end_stays; within = head_end_within }

-- ---- how far a part goes

-- it is over, or too long
abbrev pub IsSettled : Extent → Type 0
IsSettled (Ends n) = Unit {0}
IsSettled Passes = Unit {0}
IsSettled Goes = ⊥

-- the same, or the bytes so far, and some of those after
take_after : (limit : ℕ) (a b : List ℕ) → (limit ≤ length a) × (take limit (a ++ b) ≡ take limit a) ⊎ (length a < limit) × ((c : List ℕ) × (take limit (a ++ b) ≡ take limit a ++ c))
take_after limit a b =
    elim (cases_lt (length a) limit) [
      | inl lt ↦
          let k : limit ≡ length a + (limit - length a) = omega arith in
          let all : take limit a ≡ a = take_all limit a (omega arith) in
          inr (lt, (take (limit - length a) b, rw all (ap (λ (m : ℕ). take m (a ++ b)) k ∙ take-append-add a b (limit - length a))))
      | inr le ↦ inl (le, take-append-le limit a b le)
    ]

pub extent_stays : (part_end : List ℕ → Option ℕ) (limit : ℕ) (a b : List ℕ) → IsEnd part_end → IsSettled (extent part_end limit a) → extent part_end limit (a ++ b) ≡ extent part_end limit a
extent_stays part_end limit a b is h =
    elim (take_after limit a b) [
      | inl p ↦ rw p.1 (settled (part_end (take limit a)) (leb limit (length a)) (leb limit (length (a ++ b))) (grind (arith, nat_tests, length-append a b)))
      | inr p ↦ rw p.1.1 (longer (part_end (take limit a)) (part_end (take limit a ++ p.1.0)) (leb limit (length a)) (leb limit (length (a ++ b))) (λ n e. is.stays (take limit a) p.1.0 n e) (grind (arith, nat_tests)) h)
    ]
  where
    settled : (o : Option ℕ) (s t : Bool) → s ≡ t → extent_of o t ≡ extent_of o s
    settled o s t e = rw e refl

    longer : (o u : Option ℕ) (s t : Bool) → ((n : ℕ) → o ≡ Some n → u ≡ Some n) → s ≡ false → IsSettled (extent_of o s) → extent_of u t ≡ extent_of o s
    longer (Some n) u s t keep e d = rw (keep n refl) refl
    longer None u s t keep e d = absurd (rw e at d)

-- where it ends it ends within the bytes and within the limit
pub extent_within : (part_end : List ℕ → Option ℕ) (limit n : ℕ) (a : List ℕ) → IsEnd part_end → extent part_end limit a ≡ Ends n → (0 < n) × (n ≤ length a) × (n ≤ limit)
extent_within part_end limit n a is h =
    let w = is.within (take limit a) n (found (part_end (take limit a)) (leb limit (length a)) h) in
    (w.0, omega (arith, w.1, length-take limit a), omega (arith, w.1, length-take limit a))
  where
    found : (o : Option ℕ) (t : Bool) → extent_of o t ≡ Ends n → o ≡ Some n
    found (Some m) t e = cc
    found None true e = absurd cc
    found None false e = absurd cc

-- a section's end after the empty lines in front
pub head_end-after : (bytes : List ℕ) (blank : ℕ) (o : Option ℕ) → blank ≡ blank_len bytes → o ≡ section_end false (take (length bytes - blank) (drop blank bytes))
    → option_map (λ n. blank + n) o ≡ head_end bytes
head_end-after bytes blank o is e =
    let all : take (length bytes - blank) (drop blank bytes) ≡ drop blank bytes = take_all (length bytes - blank) (drop blank bytes) (omega (arith, length-drop blank bytes)) in
    rw (e, all, is) refl

-- ---- a section, byte by byte

-- one byte on, where no empty line ends with it
section_end-goes : (starts : Bool) (b : ℕ) (rest : List ℕ) → (starts ≡ true → b ≢ 10) → (starts ≡ true → (b ≢ 13) ⊎ (begins_feed rest ≡ false))
    → section_end starts (b ∷ rest) ≡ option_map suc (section_end (eqb b 10) rest)
section_end-goes false b rest feed return = refl
section_end-goes true b rest feed return =
    let e : eqb b 10 ≡ false = other b 10 (feed refl) in
    elim (return refl) [
      | inl n ↦ let f : eqb b 13 ≡ false = other b 13 n in rw (e, f) refl
      | inr f ↦ rw (e, f) (either (eqb b 13))
    ]
  where
    other : (b c : ℕ) → b ≢ c → eqb b c ≡ false
    other b c n = grind (arith, nat_tests)

    either : (t : Bool) → cond (t && false) (Some 2) (option_map suc (section_end false rest)) ≡ option_map suc (section_end false rest)
    either true = refl
    either false = refl

one_on : (i : ℕ) (o : Option ℕ) → option_map (λ n. i + n) (option_map suc o) ≡ option_map (λ n. i + 1 + n) o
one_on i None = refl
one_on i (Some n) = ap Some (omega arith)

-- the same at a place
pub section_end-step : (bytes : List ℕ) (i : ℕ) (starts : Bool) → i < length bytes → (starts ≡ true → get_or bytes i 0 ≢ 10) → (starts ≡ true → (get_or bytes i 0 ≢ 13) ⊎ (begins_feed (drop (i + 1) bytes) ≡ false))
    → section_end false bytes ≡ option_map (λ n. i + n) (section_end starts (drop i bytes)) → section_end false bytes ≡ option_map (λ n. i + 1 + n) (section_end (eqb (get_or bytes i 0) 10) (drop (i + 1) bytes))
section_end-step bytes i starts lt feed return so_far =
    so_far ∙ ap (λ (r : List ℕ). option_map (λ n. i + n) (section_end starts r)) (drop_more bytes i 0 lt)
    ∙ ap (option_map (λ n. i + n)) (section_end-goes starts (get_or bytes i 0) (drop (i + 1) bytes) feed return)
    ∙ one_on i (section_end (eqb (get_or bytes i 0) 10) (drop (i + 1) bytes))

-- ---- empty lines in front, one by one

abbrev at : List ℕ → ℕ → ℕ
at bytes i = get_or bytes i 0

pub blank_len_feed : (b : ℕ) (rest : List ℕ) → b ≡ 10 → blank_len (b ∷ rest) ≡ suc (blank_len rest)
blank_len_feed b [] e = rw e refl
blank_len_feed b (c ∷ rest) e = rw e refl

blank_len_return : (b : ℕ) (rest : List ℕ) → b ≡ 13 → begins_feed rest ≡ true → blank_len (b ∷ rest) ≡ suc (suc (blank_len (drop 1 rest)))
blank_len_return b [] e f = absurd cc
blank_len_return b (c ∷ rest) e f = rw (e, f) refl

pub blank_len_none : (b : ℕ) (rest : List ℕ) → b ≢ 10 → (b ≢ 13) ⊎ (begins_feed rest ≡ false) → blank_len (b ∷ rest) ≡ 0
blank_len_none b [] n o = let e : eqb b 10 ≡ false = grind (arith, nat_tests) in rw e refl
blank_len_none b (c ∷ rest) n o =
    let e : eqb b 10 ≡ false = grind (arith, nat_tests) in
    elim o [
      | inl m ↦ let f : eqb b 13 ≡ false = grind (arith, nat_tests) in rw (e, f) refl
      | inr f ↦ rw (e, f) (other (eqb b 13))
    ]
  where
    other : (t : Bool) → cond (t && false) (suc (suc (blank_len rest))) 0 ≡ 0
    other true = refl
    other false = refl

pub blank_len_feed_at : (bytes : List ℕ) (i : ℕ) → i < length bytes → at bytes i ≡ 10 → blank_len (drop i bytes) ≡ 1 + blank_len (drop (i + 1) bytes)
blank_len_feed_at bytes i lt e = rw (drop_more bytes i 0 lt) (blank_len_feed (at bytes i) (drop (i + 1) bytes) e ∙ omega arith)

pub blank_len_return_at : (bytes : List ℕ) (i : ℕ) → i < length bytes → at bytes i ≡ 13 → begins_feed (drop (i + 1) bytes) ≡ true
    → (blank_len (drop i bytes) ≡ 2 + blank_len (drop (i + 2) bytes)) × (i + 2 ≤ length bytes)
blank_len_return_at bytes i lt e f = (
  rw (drop_more bytes i 0 lt) (blank_len_return (at bytes i) (drop (i + 1) bytes) e f ∙ rw (drop-drop 1 (i + 1) bytes) (next ∙ omega arith)),
  omega (arith, begins_feed_some (drop (i + 1) bytes) f, length-drop (i + 1) bytes),
)
  where
    next : suc (suc (blank_len (drop (i + 1 + 1) bytes))) ≡ suc (suc (blank_len (drop (i + 2) bytes)))
    next = let k : i + 1 + 1 ≡ i + 2 = omega arith in rw k refl

pub blank_len_none_at : (bytes : List ℕ) (i : ℕ) → i < length bytes → at bytes i ≢ 10 → (at bytes i ≢ 13) ⊎ (begins_feed (drop (i + 1) bytes) ≡ false) → blank_len (drop i bytes) ≡ 0
blank_len_none_at bytes i lt n o = rw (drop_more bytes i 0 lt) (blank_len_none (at bytes i) (drop (i + 1) bytes) n o)

-- ---- nothing after an end is needed to see it

pub line_end_cut : (a : List ℕ) (n : ℕ) → line_end a ≡ Some n → line_end (take n a) ≡ Some n
line_end_cut [] n e = absurd cc
line_end_cut (x ∷ a) n e =
    elim (chosen (eqb x 10) (Some 1) (option_map suc (line_end a)) (Some n) e) [
      | inl p ↦ let one : n ≡ 1 = cc in rw (one, p.0) refl
      | inr p ↦
          let m = map_suc (line_end a) n p.1 in
          rw (m.2, p.0, line_end_cut a m.0 m.1) refl
    ]

begins_feed_take : (a : List ℕ) (m : ℕ) → 0 < m → begins_feed (take m a) ≡ begins_feed a
begins_feed_take a zero some = absurd (omega arith)
begins_feed_take [] (suc m) some = refl
begins_feed_take (x ∷ a) (suc m) some = refl

feed_cut : (x : ℕ) (a : List ℕ) → (eqb x 13 && begins_feed a) ≡ true → eqb x 10 ≡ false → section_end true (take 2 (x ∷ a)) ≡ Some 2
feed_cut x [] e f = let g = begins_feed_some [] (and_true (eqb x 13) false e).1 in absurd (omega (arith, g))
feed_cut x (y ∷ a) e f = rw (f, e) refl

pub section_end_cut : (s : Bool) (a : List ℕ) (n : ℕ) → section_end s a ≡ Some n → section_end s (take n a) ≡ Some n
section_end_cut s [] n e = absurd cc
section_end_cut true (x ∷ a) n e =
    elim (chosen (eqb x 10) (Some 1) _ (Some n) e) [
      | inl p ↦ let one : n ≡ 1 = cc in rw (one, p.0) refl
      | inr p ↦ elim (chosen (eqb x 13 && begins_feed a) (Some 2) _ (Some n) p.1) [
        | inl q ↦ let two : n ≡ 2 = cc in rw two (feed_cut x a q.0 p.0)
        | inr q ↦
            let m = map_suc (section_end false a) n q.1 in
            let w = section_end_within false a m.0 m.1 in
            rw (m.2, p.0, begins_feed_take a m.0 w.0, q.0, section_end_cut false a m.0 m.1) refl
      ]
    ]
section_end_cut false (x ∷ a) n e =
    let m = map_suc (section_end (eqb x 10) a) n e in
    rw (m.2, section_end_cut (eqb x 10) a m.0 m.1) refl

-- an end in the first bytes is the one of the part's own bytes
pub extent_ends_at : (part_end : List ℕ → Option ℕ) (limit : ℕ) (a b : List ℕ) → IsEnd part_end → part_end a ≡ Some (length a) → length a ≤ limit → extent part_end limit (a ++ b) ≡ Ends (length a)
extent_ends_at part_end limit a b is e le =
    let k : limit ≡ length a + (limit - length a) = omega arith in
    let front : take limit (a ++ b) ≡ a ++ take (limit - length a) b = ap (λ (m : ℕ). take m (a ++ b)) k ∙ take-append-add a b (limit - length a) in
    rw (front, is.stays a (take (limit - length a) b) (length a) e) refl

pub ends_found : (part_end : List ℕ → Option ℕ) (limit n : ℕ) (a : List ℕ) → extent part_end limit a ≡ Ends n → part_end (take limit a) ≡ Some n
ends_found part_end limit n a h = found (part_end (take limit a)) (leb limit (length a)) h
  where
    found : (o : Option ℕ) (t : Bool) → extent_of o t ≡ Ends n → o ≡ Some n
    found (Some m) t e = cc
    found None true e = absurd cc
    found None false e = absurd cc

-- ---- a head's own bytes end where it does

shift_suc : (k : ℕ) (o : Option ℕ) → option_map (λ m. suc k + m) o ≡ option_map suc (option_map (λ m. k + m) o)
shift_suc k None = refl
shift_suc k (Some m) = ap Some (omega arith)

head_end-feed : (x : ℕ) (a : List ℕ) → eqb x 10 ≡ true → head_end (x ∷ a) ≡ option_map suc (head_end a)
head_end-feed x [] e = rw e refl
head_end-feed x (y ∷ a) e = rw e (shift_suc (blank_len (y ∷ a)) (section_end false (drop (blank_len (y ∷ a)) (y ∷ a))))

head_end-return : (x y : ℕ) (a : List ℕ) → eqb x 10 ≡ false → (eqb x 13 && eqb y 10) ≡ true → head_end (x ∷ y ∷ a) ≡ option_map suc (option_map suc (head_end a))
head_end-return x y a e f =
    rw (e, f) (shift_suc (suc (blank_len a)) (section_end false (drop (blank_len a) a)) ∙ ap (option_map suc) (shift_suc (blank_len a) (section_end false (drop (blank_len a) a))))

head_end-none : (x y : ℕ) (a : List ℕ) → eqb x 10 ≡ false → (eqb x 13 && eqb y 10) ≡ false → head_end (x ∷ y ∷ a) ≡ section_end false (x ∷ y ∷ a)
head_end-none x y a e f =
    let none : blank_len (x ∷ y ∷ a) ≡ 0 = rw (e, f) refl in
    ap (λ (k : ℕ). option_map (λ m. k + m) (section_end false (drop k (x ∷ y ∷ a)))) none ∙ plain (section_end false (x ∷ y ∷ a))
  where
    plain : (o : Option ℕ) → option_map (λ m. 0 + m) o ≡ o
    plain None = refl
    plain (Some m) = ap Some (omega arith)

-- a section's end from within a line stands after two bytes at least
two_more : (x y : ℕ) (a : List ℕ) (n : ℕ) → section_end false (x ∷ y ∷ a) ≡ Some n → (k : ℕ) × (n ≡ suc (suc k))
two_more x y a n e =
    let m = map_suc (section_end (eqb x 10) (y ∷ a)) n e in
    let w = section_end_within (eqb x 10) (y ∷ a) m.0 m.1 in
    (m.0 - 1, omega (arith, m.2, w.0))

head_end_cut : (a : List ℕ) (n : ℕ) → head_end a ≡ Some n → head_end (take n a) ≡ Some n
head_end_cut [] n e = absurd cc
head_end_cut (x ∷ []) n e = absurd (nothing (eqb x 10) e)
  where
    nothing : (t : Bool) → option_map (λ m. cond t 1 0 + m) (section_end false (drop (cond t 1 0) (x ∷ []))) ≡ Some n → ⊥
    nothing true h = cc
    nothing false h = cc
head_end_cut (x ∷ y ∷ a) n e =
    elim (cases_bool (eqb x 10)) [
      | inl p ↦
          let m = map_suc (head_end (y ∷ a)) n (sym (head_end-feed x (y ∷ a) p) ∙ e) in
          rw m.2 (head_end-feed x (take m.0 (y ∷ a)) p ∙ rw (head_end_cut (y ∷ a) m.0 m.1) refl)
      | inr p ↦ elim (cases_bool (eqb x 13 && eqb y 10)) [
        | inl q ↦
            let m = map_suc (option_map suc (head_end a)) n (sym (head_end-return x y a p q) ∙ e) in
            let k = map_suc (head_end a) m.0 m.1 in
            rw (m.2, k.2) (head_end-return x y (take k.0 a) p q ∙ rw (head_end_cut a k.0 k.1) refl)
        | inr q ↦
            let h = sym (head_end-none x y a p q) ∙ e in
            let two = two_more x y a n h in
            let cut : section_end false (take (suc (suc two.0)) (x ∷ y ∷ a)) ≡ Some (suc (suc two.0)) = section_end_cut false (x ∷ y ∷ a) (suc (suc two.0)) (h ∙ ap Some two.1) in
            rw two.1 (head_end-none x y (take two.0 a) p q ∙ cut)
      ]
    ]
  where
    cases_bool : (t : Bool) → (t ≡ true) ⊎ (t ≡ false)
    cases_bool true = inl refl
    cases_bool false = inr refl

pub extent_cut : (limit n : ℕ) (a : List ℕ) → extent head_end limit a ≡ Ends n → head_end (take n a) ≡ Some n
extent_cut limit n a e =
    let w = extent_within head_end limit n a head_end_is e in
    ap head_end (sym (take-take n limit a w.2)) ∙ head_end_cut (take limit a) n (ends_found head_end limit n a e)
