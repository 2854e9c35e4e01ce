-- A request's head ends where its lines say, and has as many lines as fields between its first line and its
-- empty line.
use Rattle.std.proofs.Common.{◌≤◌, ◌≡◌, ◌≢◌, ℕ, suc, ◌+◌, ◌<◌, Bool, true, false, IsTrue, cond, eqb, List, [], ◌∷◌, ◌++◌, length, refl, sym, ap, subst, ◌∙◌, arith, inl, Option, Some, None, append_assoc}
use Rattle.std.specs.Prelude.{option_map, count_by, All}
use Rattle.std.specs.List.{flat_map}
use Rattle.std.proofs.lemmas.List.{length-append, append-nil, drop_at}
use Rattle.std.proofs.lemmas.List.Elements.{All-head, All-tail}
use Rattle.std.proofs.lemmas.List.Sums.{sum_by-append}
use Rattle.std.proofs.lemmas.Bool.Decides.{nat_tests}
use Rattle.httparse.specs.Grammar.{is_token_byte, is_uri_byte, is_value_byte, AllPass, LineEnd, crlf, lf, print_end, print_blank, print_version, Field, print_field, IsField, print_section, RequestHead, print_request, IsRequestHead, ReadsRequest}
use Rattle.httparse.proofs.GrammarLemmas.{cons-append, print_request-append}
use Rattle.zot_head.specs.Lines.{line_end, section_end, blank_len, head_end, lines_in, Ends, extent}
use Rattle.zot_head.proofs.LineLemmas.{blank_len_feed, blank_len_none, head_end_is, extent_ends_at}

-- ---- bytes without an LF

-- no LF is among the bytes
abbrev HasNoFeed : List ℕ → Type 0
HasNoFeed bytes = line_end bytes ≡ None

other : (b : ℕ) → b ≢ 10 → eqb b 10 ≡ false
other b n = grind (arith, nat_tests)

no_feed-cons : (b : ℕ) (bytes : List ℕ) → b ≢ 10 → HasNoFeed bytes → HasNoFeed (b ∷ bytes)
no_feed-cons b bytes n h = rw (other b n, h) refl

no_feed-append : (a b : List ℕ) → HasNoFeed a → HasNoFeed b → HasNoFeed (a ++ b)
no_feed-append [] b x y = y
no_feed-append (c ∷ a) b x y = step (eqb c 10) refl x (no_feed-append a b)
  where
    rest_of : (o : Option ℕ) → option_map suc o ≡ None → o ≡ None
    rest_of None e = refl
    rest_of (Some n) e = absurd cc

    step : (t : Bool) → eqb c 10 ≡ t → cond t (Some 1) (option_map suc (line_end a)) ≡ None → (HasNoFeed a → HasNoFeed b → HasNoFeed (a ++ b)) → HasNoFeed ((c ∷ a) ++ b)
    step true e h go = absurd cc
    step false e h go = rw (e, go (rest_of (line_end a) h) y) refl

no_feed-passing : (test : ℕ → Bool) (bytes : List ℕ) → test 10 ≡ false → AllPass test bytes → HasNoFeed bytes
no_feed-passing test [] e all = refl
no_feed-passing test (b ∷ bytes) e all =
    no_feed-cons b bytes (λ same. absurd (clash (test 10) e (subst (λ (c : ℕ). IsTrue (test c)) same (All-head (λ c. IsTrue (test c)) b bytes all))))
    (no_feed-passing test bytes e (All-tail (λ c. IsTrue (test c)) b bytes all))
  where
    clash : (t : Bool) → t ≡ false → IsTrue t → ⊥
    clash true e h = cc
    clash false e h = cc

token_no_feed : is_token_byte 10 ≡ false
unfolding is_token_byte
token_no_feed = refl

token_no_return : is_token_byte 13 ≡ false
unfolding is_token_byte
token_no_return = refl

not_byte : (test : ℕ → Bool) (b c : ℕ) → test c ≡ false → IsTrue (test b) → b ≢ c
not_byte test b c e h same = clash (test c) e (subst (λ (x : ℕ). IsTrue (test x)) same h)
  where
    clash : (t : Bool) → t ≡ false → IsTrue t → ⊥
    clash true e h = cc
    clash false e h = cc

no_feed-version : (minor : ℕ) → HasNoFeed (print_version minor)
no_feed-version minor =
    let digit : eqb (48 + minor) 10 ≡ false = grind (arith, nat_tests) in
    rw digit refl

-- ---- how a section goes over its parts

-- over these bytes the section goes on, from a line's start or from within a line to one of them
abbrev Runs : Bool → List ℕ → Bool → Type 0
Runs s text t = (bytes : List ℕ) → section_end s (text ++ bytes) ≡ option_map (λ n. length text + n) (section_end t bytes)

add_zero : (o : Option ℕ) → o ≡ option_map (λ n. 0 + n) o
add_zero None = refl
add_zero (Some n) = ap Some (omega arith)

add_suc : (k : ℕ) (o : Option ℕ) → option_map suc (option_map (λ n. k + n) o) ≡ option_map (λ n. suc k + n) o
add_suc k None = refl
add_suc k (Some n) = ap Some (omega arith)

add_add : (j k m : ℕ) (o : Option ℕ) → m ≡ j + k → option_map (λ n. j + n) (option_map (λ n. k + n) o) ≡ option_map (λ n. m + n) o
add_add j k m None e = refl
add_add j k m (Some n) e = ap Some (omega (arith, e))

runs-append : (s t u : Bool) (a b : List ℕ) → Runs s a t → Runs t b u → Runs s (a ++ b) u
runs-append s t u a b x y bytes =
    ap (section_end s) (append_assoc a b bytes) ∙ x (b ++ bytes) ∙ ap (option_map (λ n. length a + n)) (y bytes)
    ∙ add_add (length a) (length b) (length (a ++ b)) (section_end u bytes) (length-append a b)

runs-text : (text : List ℕ) → HasNoFeed text → Runs false text false
runs-text [] h bytes = add_zero (section_end false bytes)
runs-text (b ∷ text) h bytes = step (eqb b 10) refl h (runs-text text)
  where
    rest_of : (o : Option ℕ) → option_map suc o ≡ None → o ≡ None
    rest_of None e = refl
    rest_of (Some n) e = absurd cc

    step : (t : Bool) → eqb b 10 ≡ t → cond t (Some 1) (option_map suc (line_end text)) ≡ None → (HasNoFeed text → Runs false text false)
        → section_end false ((b ∷ text) ++ bytes) ≡ option_map (λ n. suc (length text) + n) (section_end false bytes)
    step true e h go = absurd cc
    step false e h go = rw e (ap (option_map suc) (go (rest_of (line_end text) h) bytes) ∙ add_suc (length text) (section_end false bytes))

runs-end : (end : LineEnd) → Runs false (print_end end) true
runs-end crlf bytes = ap (option_map suc) (one (section_end true bytes)) ∙ add_suc 1 (section_end true bytes)
  where
    one : (o : Option ℕ) → option_map suc o ≡ option_map (λ n. 1 + n) o
    one None = refl
    one (Some n) = ap Some (omega arith)
runs-end lf bytes = one (section_end true bytes)
  where
    one : (o : Option ℕ) → option_map suc o ≡ option_map (λ n. 1 + n) o
    one None = refl
    one (Some n) = ap Some (omega arith)

-- a line that begins with neither LF nor CR
runs-start : (b : ℕ) (text : List ℕ) (t : Bool) → b ≢ 10 → b ≢ 13 → Runs false text t → Runs true (b ∷ text) t
runs-start b text t n r go bytes =
    let feed : eqb b 10 ≡ false = other b n in
    let return : eqb b 13 ≡ false = grind (arith, nat_tests) in
    rw (feed, return) (ap (option_map suc) (go bytes) ∙ add_suc (length text) (section_end t bytes))

runs-field : (f : Field) → IsField f → Runs true (print_field f) true
runs-field f is = go f.name is.name.0 is.name.1
  where
    rest : Runs false (58 ∷ f.raw ++ print_end f.end) true
    rest = runs-append false false true (58 ∷ f.raw) (print_end f.end)
        (runs-text (58 ∷ f.raw) (no_feed-cons 58 f.raw (λ e. absurd (omega (arith, e))) (no_feed-passing is_value_byte f.raw refl is.raw)))
        (runs-end f.end)

    go : (name : List ℕ) → 0 < length name → AllPass is_token_byte name → Runs true (name ++ 58 ∷ f.raw ++ print_end f.end) true
    go [] some all = absurd (omega arith)
    go (b ∷ name) some all =
        let first = All-head (λ c. IsTrue (is_token_byte c)) b name all in
        let others = no_feed-passing is_token_byte name token_no_feed (All-tail (λ c. IsTrue (is_token_byte c)) b name all) in
        let plain : Runs true ((b ∷ name) ++ (58 ∷ f.raw ++ print_end f.end)) true =
        runs-append true false true (b ∷ name) (58 ∷ f.raw ++ print_end f.end)
        (runs-start b name false (not_byte is_token_byte b 10 token_no_feed first) (not_byte is_token_byte b 13 token_no_return first) (runs-text name others))
        rest
        in
        subst (λ (x : List ℕ). Runs true x true) (sym (append_assoc (b ∷ name) (58 ∷ f.raw) (print_end f.end))) plain

runs-fields : (fields : List Field) → All IsField fields → Runs true (flat_map print_field fields) true
runs-fields [] all = λ bytes. add_zero (section_end true bytes)
runs-fields (f ∷ fields) all =
    runs-append true true true (print_field f) (flat_map print_field fields) (runs-field f (All-head IsField f fields all)) (runs-fields fields (All-tail IsField f fields all))

ends-last : (last : LineEnd) → section_end true (print_end last) ≡ Some (length (print_end last))
ends-last crlf = refl
ends-last lf = refl

-- ---- how many lines end

-- how many bytes are LF
abbrev feeds : List ℕ → ℕ
feeds bytes = count_by (λ b. eqb b 10) bytes

feeds-append : (a b : List ℕ) → feeds (a ++ b) ≡ feeds a + feeds b
feeds-append a b = sum_by-append (λ b. cond (eqb b 10) 1 0) a b

feeds-none : (bytes : List ℕ) → HasNoFeed bytes → feeds bytes ≡ 0
feeds-none [] h = refl
feeds-none (b ∷ bytes) h = step (eqb b 10) refl h (feeds-none bytes)
  where
    rest_of : (o : Option ℕ) → option_map suc o ≡ None → o ≡ None
    rest_of None e = refl
    rest_of (Some n) e = absurd cc

    step : (t : Bool) → eqb b 10 ≡ t → cond t (Some 1) (option_map suc (line_end bytes)) ≡ None → (HasNoFeed bytes → feeds bytes ≡ 0) → feeds (b ∷ bytes) ≡ 0
    step true e h go = absurd cc
    step false e h go = rw e (omega (arith, go (rest_of (line_end bytes) h)))

feeds-end : (end : LineEnd) → feeds (print_end end) ≡ 1
feeds-end crlf = refl
feeds-end lf = refl

feeds-field : (f : Field) → IsField f → feeds (print_field f) ≡ 1
feeds-field f is =
    let name = feeds-none f.name (no_feed-passing is_token_byte f.name token_no_feed is.name.1) in
    let raw = feeds-none (58 ∷ f.raw) (no_feed-cons 58 f.raw (λ e. absurd (omega (arith, e))) (no_feed-passing is_value_byte f.raw refl is.raw)) in
    omega (arith, feeds-append (f.name ++ 58 ∷ f.raw) (print_end f.end), feeds-append f.name (58 ∷ f.raw), name, raw, feeds-end f.end)

feeds-fields : (fields : List Field) → All IsField fields → feeds (flat_map print_field fields) ≡ length fields
feeds-fields [] all = refl
feeds-fields (f ∷ fields) all =
    omega (arith, feeds-append (print_field f) (flat_map print_field fields), feeds-field f (All-head IsField f fields all), feeds-fields fields (All-tail IsField f fields all))

-- ---- a whole head

blank_len-blank : (ends : List LineEnd) (b : ℕ) (bytes : List ℕ) → b ≢ 10 → b ≢ 13 → blank_len (print_blank ends ++ b ∷ bytes) ≡ length (print_blank ends)
blank_len-blank [] b bytes n r = blank_len_none b bytes n (inl r)
blank_len-blank (crlf ∷ ends) b bytes n r = ap (λ (k : ℕ). suc (suc k)) (blank_len-blank ends b bytes n r)
blank_len-blank (lf ∷ ends) b bytes n r = blank_len_feed 10 (print_blank ends ++ b ∷ bytes) refl ∙ ap suc (blank_len-blank ends b bytes n r)

-- the first line without its end
abbrev first_line : RequestHead → List ℕ
first_line h = h.method ++ (32 ∷ (h.target ++ (32 ∷ print_version h.minor)))

-- the bytes after the first line's text
abbrev rest_of_head : RequestHead → List ℕ
rest_of_head h = print_end h.line_end ++ (flat_map print_field h.fields ++ print_end h.last)

print_parts : (h : RequestHead) → print_request h ≡ print_blank h.blank ++ (first_line h ++ rest_of_head h)
print_parts h =
    sym (append-nil (print_request h)) ∙ print_request-append h []
    ∙ ap (λ (x : List ℕ). print_blank h.blank ++ x) (regroup h.method h.target (print_version h.minor) (print_end h.line_end) (print_section h.fields h.last))
  where
    regroup : (a b c d e : List ℕ) → a ++ 32 ∷ (b ++ 32 ∷ (c ++ (d ++ (e ++ [])))) ≡ (a ++ (32 ∷ (b ++ (32 ∷ c)))) ++ (d ++ e)
    regroup a b c d e = simp (append_assoc, cons-append, append-nil)

module _ (h : RequestHead) (is : IsRequestHead h) where
  first_no_feed : HasNoFeed (first_line h)
  first_no_feed =
      no_feed-append h.method (32 ∷ (h.target ++ (32 ∷ print_version h.minor)))
      (no_feed-passing is_token_byte h.method token_no_feed is.method.1)
      (no_feed-cons 32 (h.target ++ (32 ∷ print_version h.minor)) (λ e. absurd (omega (arith, e)))
      (no_feed-append h.target (32 ∷ print_version h.minor)
      (no_feed-passing is_uri_byte h.target refl is.target.1)
      (no_feed-cons 32 (print_version h.minor) (λ e. absurd (omega (arith, e))) (no_feed-version h.minor))))

  rest_ends : section_end false (first_line h ++ rest_of_head h) ≡ Some (length (first_line h ++ rest_of_head h))
  rest_ends =
      let text = first_line h ++ (print_end h.line_end ++ flat_map print_field h.fields) in
      let over : Runs false (first_line h ++ (print_end h.line_end ++ flat_map print_field h.fields)) true =
      runs-append false false true (first_line h) (print_end h.line_end ++ flat_map print_field h.fields) (runs-text (first_line h) first_no_feed)
      (runs-append false true true (print_end h.line_end) (flat_map print_field h.fields) (runs-end h.line_end) (runs-fields h.fields is.fields)) in
      let whole : first_line h ++ rest_of_head h ≡ (first_line h ++ (print_end h.line_end ++ flat_map print_field h.fields)) ++ print_end h.last =
      simp append_assoc in
      rw whole (over (print_end h.last) ∙ ap (option_map (λ n. length (first_line h ++ (print_end h.line_end ++ flat_map print_field h.fields)) + n)) (ends-last h.last)
      ∙ ap Some (sym (length-append (first_line h ++ (print_end h.line_end ++ flat_map print_field h.fields)) (print_end h.last))))

  blank_is : (rest : List ℕ) → blank_len (print_blank h.blank ++ (first_line h ++ rest)) ≡ length (print_blank h.blank)
  blank_is rest = go h.method is.method.0 is.method.1
    where
      go : (method : List ℕ) → 0 < length method → AllPass is_token_byte method
          → blank_len (print_blank h.blank ++ ((method ++ (32 ∷ (h.target ++ (32 ∷ print_version h.minor)))) ++ rest)) ≡ length (print_blank h.blank)
      go [] some all = absurd (omega arith)
      go (b ∷ method) some all =
          let first = All-head (λ c. IsTrue (is_token_byte c)) b method all in
          blank_len-blank h.blank b _ (not_byte is_token_byte b 10 token_no_feed first) (not_byte is_token_byte b 13 token_no_return first)

  -- a head ends where its bytes do
  pub head_end-print : head_end (print_request h) ≡ Some (length (print_request h))
  head_end-print =
      rw (print_parts h, blank_is (rest_of_head h), drop_at (print_blank h.blank) (first_line h ++ rest_of_head h) (length (print_blank h.blank)) refl, rest_ends)
      (ap Some (sym (length-append (print_blank h.blank) (first_line h ++ rest_of_head h))))

  -- it has a first line, a line for each field, and an empty line
  pub lines_in-print : lines_in (print_request h) ≡ length h.fields + 2
  lines_in-print =
      rw (print_parts h, blank_is (rest_of_head h), drop_at (print_blank h.blank) (first_line h ++ rest_of_head h) (length (print_blank h.blank)) refl)
      (omega (
        arith,
        feeds-append (first_line h) (rest_of_head h),
        feeds-none (first_line h) first_no_feed,
        feeds-append (print_end h.line_end) (flat_map print_field h.fields ++ print_end h.last),
        feeds-end h.line_end,
        feeds-append (flat_map print_field h.fields) (print_end h.last),
        feeds-fields h.fields is.fields,
        feeds-end h.last,
      ))

-- a head that is read at the front ends there
pub head_ends : (limit : ℕ) (bytes rest : List ℕ) (h : RequestHead) → ReadsRequest bytes h rest → length (print_request h) ≤ limit → extent head_end limit bytes ≡ Ends (length (print_request h))
head_ends limit bytes rest h reads le =
    ap (extent head_end limit) reads.1 ∙ extent_ends_at head_end limit (print_request h) rest head_end_is (head_end-print h reads.0) le
