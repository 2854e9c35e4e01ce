-- Reading a head: its lines, the spans in it, and when bytes are none.
use Rattle.std.proofs.Common.{◌≡◌, ℕ, ◌+◌, ◌<◌, ◌≤◌, Bool, true, false, IsTrue, List, [], ◌∷◌, length, map, take, drop, refl, sym, ap, subst, ◌∙◌, arith, inl, inr, Some, None, ltb}
use Rattle.std.specs.Prelude.{All, IsUtf8, Result, Err}
use Rattle.std.proofs.lemmas.List.{append-nil, take_all, drop_all, length-drop}
use Rattle.std.proofs.lemmas.Bool.{cases_lt}
use Rattle.std.proofs.lemmas.Bool.Decides.{nat_tests}
use Rattle.std.proofs.lemmas.List.Elements.{All-head, All-tail, All-nil, All-cons, All-weaker}
use Rattle.std.proofs.lemmas.Str.{IsUtf8-from_ascii}
use Rattle.std.proofs.lemmas.Str.Ascii.{IsAscii-from_all}
use Rattle.httparse.specs.declared.spans.HeaderSpan.{HeaderSpan}
use Rattle.httparse.specs.declared.spans.RequestSpans.{RequestSpans}
use Rattle.httparse.specs.Grammar.{is_token_byte, AllPass, Field as FieldLine, IsField, RequestHead, print_request, ReadsRequest}
use Rattle.httparse.specs.Spans.{span_bytes, header_bytes, name_and_value, IsHeaderWithin, IsRequestWithin, IsRequestAt, RequestOverflows}
use Rattle.httparse.proofs.GrammarLemmas.{request_unique}
use Rattle.zot_head.specs.declared.field.Field.{Field}
use Rattle.zot_head.specs.declared.head.Head.{Head}
use Rattle.zot_head.specs.declared.head_error.HeadError.{HeadError}
use Rattle.zot_head.specs.declared.head_error.HeadError.TheVariants.{Bad, TooLong, NoMemory}
use Rattle.zot_head.specs.Fields.{framing_of}
use Rattle.zot_head.specs.Front.{field_of, IsCrowded, IsHeadOf, IsHead, IsNoHead}
use Rattle.zot_head.specs.Limits.{line_limit}
use Rattle.zot_head.specs.Lines.{head_end, lines_in}
use Rattle.zot_head.specs.Spans.{field_at, HasTexts}
use Rattle.zot_head.proofs.PrintLemmas.{head_end-print, lines_in-print}

-- ---- how many lines

pub crowded_if : (bytes : List ℕ) (n lines : ℕ) → Some n ≡ head_end bytes → lines ≡ lines_in (take n bytes)
    → (IsTrue (ltb 66 lines) → IsCrowded bytes) × (IsCrowded bytes → IsTrue (ltb 66 lines))
unfolding line_limit
crowded_if bytes n lines e count = (
  λ t. (n, sym e, above lines (lines_in (take n bytes)) count t),
  λ crowded.
      let same : n ≡ crowded.0 = cc in
      below lines (lines_in (take crowded.0 bytes)) (count ∙ ap (λ (k : ℕ). lines_in (take k bytes)) same) crowded.2,
)
  where
    above : (a b : ℕ) → a ≡ b → IsTrue (ltb 66 a) → 66 < b
    above a b e t = grind (arith, nat_tests)

    below : (a b : ℕ) → a ≡ b → 66 < b → IsTrue (ltb 66 a)
    below a b e lt = grind (arith, nat_tests)

-- a request that has few enough lines has few enough fields
pub few_fields : (bytes : List ℕ) (h : RequestHead) → ReadsRequest bytes h [] → ¬ (IsCrowded bytes) → length h.fields ≤ 64
unfolding line_limit
few_fields bytes h reads few =
    elim (cases_lt 64 (length h.fields)) [
      | inl lt ↦ absurd (few (length (print_request h), whole, omega (arith, lines, lt)))
      | inr le ↦ le
    ]
  where
    text : bytes ≡ print_request h
    text = reads.1 ∙ append-nil (print_request h)

    whole : head_end bytes ≡ Some (length (print_request h))
    whole = ap head_end text ∙ head_end-print h reads.0

    lines : lines_in (take (length (print_request h)) bytes) ≡ length h.fields + 2
    lines =
        ap (λ (b : List ℕ). lines_in (take (length (print_request h)) b)) text
        ∙ ap lines_in (take_all (length (print_request h)) (print_request h) (omega arith)) ∙ lines_in-print h reads.0

-- ---- bytes that are no head

-- bytes that are no request are no head
pub no_head : (bytes : List ℕ) → ¬ (IsCrowded bytes) → ((h : RequestHead) → ¬ (ReadsRequest bytes h [])) → IsNoHead bytes
no_head bytes few none = record { few_lines = few; none = λ head is. none is.request is.reads }

-- a request that ends earlier isn't one over all bytes
pub no_head-longer : (bytes rest : List ℕ) (h : RequestHead) → ¬ (IsCrowded bytes) → ReadsRequest bytes h rest → 0 < length rest → IsNoHead bytes
no_head-longer bytes rest h few reads some =
    no_head bytes few (λ k other. let same = request_unique bytes h k rest [] reads other in absurd (omega (arith, ap length same.1, some)))

-- a request with too many fields for the room has too many lines
pub no_head-overflow : (bytes : List ℕ) → ¬ (IsCrowded bytes) → RequestOverflows 64 bytes → IsNoHead bytes
no_head-overflow bytes few over =
    no_head bytes few (λ h reads.
    let more : 64 < length h.fields = over [] h [] (subst (λ (b : List ℕ). ReadsRequest b h []) (sym (append-nil bytes)) reads) in
    absurd (omega (arith, more, few_fields bytes h reads few)))

-- a request whose fields have no framing is no head
pub no_head-framing : (bytes : List ℕ) (h : RequestHead) → ¬ (IsCrowded bytes) → ReadsRequest bytes h [] → framing_of (map field_of h.fields) ≡ None → IsNoHead bytes
no_head-framing bytes h few reads none =
    record {
      few_lines = few;
      none = λ head is.
          let same = request_unique bytes is.request h [] [] is.reads reads in
          let framed : framing_of (map field_of h.fields) ≡ Some head.framing =
          ap (λ (k : RequestHead). framing_of (map field_of k.fields)) (sym same.0) ∙ ap framing_of (sym is.head_is.fields) ∙ is.head_is.framing in
          absurd (clash head none framed);
    }
  where
    clash : (head : Head) → framing_of (map field_of h.fields) ≡ None → framing_of (map field_of h.fields) ≡ Some head.framing → ⊥
    clash head a b = cc

-- ---- the spans of a request

token_is_ascii : (b : ℕ) → IsTrue (is_token_byte b) → b < 128
unfolding is_token_byte
token_is_ascii b token = grind (arith, nat_tests)

-- a token is text
token_text : (bytes : List ℕ) → AllPass is_token_byte bytes → IsUtf8 bytes
token_text bytes all = IsUtf8-from_ascii bytes (IsAscii-from_all bytes (All-weaker (λ b. IsTrue (is_token_byte b)) (λ b. b < 128) token_is_ascii bytes all))

-- the method at its span is text, and so is the target
pub method_text : (bytes : List ℕ) (spans : List HeaderSpan) (r : RequestSpans) (h : RequestHead) → IsRequestAt bytes spans r h → IsUtf8 (span_bytes bytes r.method)
method_text bytes spans r h at = subst IsUtf8 (sym at.method) (token_text h.method at.reads.0.method.1)

pub target_text : (bytes : List ℕ) (spans : List HeaderSpan) (r : RequestSpans) (h : RequestHead) → IsRequestAt bytes spans r h → IsUtf8 (span_bytes bytes r.path)
target_text bytes spans r h at = subst IsUtf8 (sym at.path) at.reads.0.target_text

-- the fields at their spans
abbrev as_field : List ℕ × List ℕ → Field
as_field p = record { name = p.0; value = p.1 }

fields_same : (bytes : List ℕ) (spans : List HeaderSpan) (lines : List FieldLine) → map (header_bytes bytes) spans ≡ map name_and_value lines → map (field_at bytes) spans ≡ map field_of lines
fields_same bytes [] [] e = refl
fields_same bytes [] (l ∷ lines) e = absurd cc
fields_same bytes (s ∷ spans) [] e = absurd cc
fields_same bytes (s ∷ spans) (l ∷ lines) e =
    let first : header_bytes bytes s ≡ name_and_value l = cc in
    let rest : map (header_bytes bytes) spans ≡ map name_and_value lines = cc in
    let same : field_at bytes s ≡ field_of l = ap as_field first in
    cc (same, fields_same bytes spans lines rest)

pub fields_at : (bytes : List ℕ) (spans : List HeaderSpan) (r : RequestSpans) (h : RequestHead) → IsRequestAt bytes spans r h → map (field_at bytes) (take r.headers spans) ≡ map field_of h.fields
fields_at bytes spans r h at = fields_same bytes (take r.headers spans) h.fields at.fields

names_text : (bytes : List ℕ) (n : ℕ) (spans : List HeaderSpan) (lines : List FieldLine) → n ≤ length bytes → All (IsHeaderWithin n) spans → map (header_bytes bytes) spans ≡ map name_and_value lines → All IsField lines
    → All (HasTexts bytes) spans
names_text bytes n [] lines le within e all = All-nil (HasTexts bytes)
names_text bytes n (s ∷ spans) [] le within e all = absurd cc
names_text bytes n (s ∷ spans) (l ∷ lines) le within e all =
    let first : header_bytes bytes s ≡ name_and_value l = cc in
    let rest : map (header_bytes bytes) spans ≡ map name_and_value lines = cc in
    let here = All-head (IsHeaderWithin n) s spans within in
    let field = All-head IsField l lines all in
    let name : span_bytes bytes s.name ≡ l.name = ap (λ (p : List ℕ × List ℕ). p.0) first in
    All-cons (HasTexts bytes) s spans
    (record {
      within = ((here.0.0, omega (arith, here.0.1, le)), (here.1.0, omega (arith, here.1.1, le)));
      text = subst IsUtf8 (sym name) (token_text l.name field.name.1);
    })
    (names_text bytes n spans lines le (All-tail (IsHeaderWithin n) s spans within) rest (All-tail IsField l lines all))

pub texts_at : (bytes : List ℕ) (spans : List HeaderSpan) (r : RequestSpans) (h : RequestHead) → IsRequestWithin bytes spans r → IsRequestAt bytes spans r h → All (HasTexts bytes) (take r.headers spans)
texts_at bytes spans r h within at =
    names_text bytes r.len (take r.headers spans) h.fields within.section.len_fits within.section.headers_fit at.fields at.reads.0.fields

-- ---- all of the bytes

-- a request that takes all bytes is read over them
pub whole_request : (bytes : List ℕ) (spans : List HeaderSpan) (r : RequestSpans) (h : RequestHead) → length bytes ≤ r.len → IsRequestAt bytes spans r h → ReadsRequest bytes h []
whole_request bytes spans r h le at = subst (λ (rest : List ℕ). ReadsRequest bytes h rest) (drop_all r.len bytes le) at.reads

pub is_head : (bytes : List ℕ) (spans : List HeaderSpan) (r : RequestSpans) (h : RequestHead) (head : Head) → ¬ (IsCrowded bytes) → length bytes ≤ r.len → IsRequestAt bytes spans r h → IsHeadOf h head → IsHead bytes head
is_head bytes spans r h head few le at is = record { few_lines = few; request = h; reads = whole_request bytes spans r h le at; head_is = is }

pub is_no_head : (bytes : List ℕ) (spans : List HeaderSpan) (r : RequestSpans) (h : RequestHead) → ¬ (IsCrowded bytes) → length bytes ≤ r.len → IsRequestAt bytes spans r h
    → framing_of (map field_of h.fields) ≡ None → IsNoHead bytes
is_no_head bytes spans r h few le at none = no_head-framing bytes h few (whole_request bytes spans r h le at) none

pub no_head-short : (bytes : List ℕ) (spans : List HeaderSpan) (r : RequestSpans) (h : RequestHead) → ¬ (IsCrowded bytes) → r.len < length bytes → IsRequestAt bytes spans r h → IsNoHead bytes
no_head-short bytes spans r h few lt at = no_head-longer bytes (drop r.len bytes) h few at.reads (omega (arith, lt, length-drop r.len bytes))

-- an answer isn't another one
abbrev Refused : HeadError → Result Head HeadError
Refused error = Err error

pub bad-too_long : Refused Bad ≡ Refused TooLong → ⊥
bad-too_long e = cc

pub bad-no_memory : Refused Bad ≡ Refused NoMemory → ⊥
bad-no_memory e = cc

pub too_long-bad : Refused TooLong ≡ Refused Bad → ⊥
too_long-bad e = cc

pub too_long-no_memory : Refused TooLong ≡ Refused NoMemory → ⊥
too_long-no_memory e = cc

-- a test that isn't true
pub not_crowded : (bytes : List ℕ) (t : Bool) → (IsTrue t → IsCrowded bytes) × (IsCrowded bytes → IsTrue t) → t ≡ false → ¬ (IsCrowded bytes)
not_crowded bytes true is e crowded = cc
not_crowded bytes false is e crowded = clash (is.1 crowded)
  where
    clash : IsTrue false → ⊥
    clash h = cc
