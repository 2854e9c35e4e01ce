-- A request's bytes are a head and a body.
use Rattle.std.proofs.Common.{◌≡◌, ℕ, ◌+◌, ◌<◌, ◌≤◌, true, false, Some, None, Option, List, [], ◌∷◌, ◌++◌, codes, take, drop, length, map, option_map, refl, sym, ap, subst, ◌∙◌, arith, append_assoc, append-nil, unwrap_or}
use Rattle.std.specs.List.{list_any}
use Rattle.std.specs.Option.{option_to_list}
use Rattle.std.proofs.lemmas.Bool.{le-ltb}
use Rattle.std.proofs.lemmas.Bool.Decides.{nat_tests}
use Rattle.std.proofs.lemmas.List.{drop_at, length-append, take_all, take_at}
use Rattle.std.proofs.lemmas.List.Elements.{All-weaker}
use Rattle.httparse.specs.Grammar.{IsRequestHead, RequestHead, is_uri_byte, print_request, print_version}
use Rattle.httparse.specs.Grammar as grammar
use Rattle.httparse.proofs.GrammarLemmas.{cons-append}
use Rattle.zot_head.specs.declared.head.Head.{Head}
use Rattle.zot_head.specs.Fields.{framing_by, framing_of, is_close, is_expectation, values_of}
use Rattle.zot_head.specs.Front.{Front, IsCrowded, IsFront, IsFrontBy, IsHead, Message, headed, with_body}
use Rattle.zot_head.specs.Limits.{head_limit, line_limit}
use Rattle.zot_head.specs.Lines.{head_end, lines_in}
use Rattle.zot_head.proofs.FrontLemmas.{head_unique}
use Rattle.zot_head.proofs.LineLemmas.{extent_ends_at, head_end_is}
use Rattle.zot_head.proofs.PrintLemmas.{head_end-print, lines_in-print}
use Rattle.zot_model.specs.declared.request.Request.{Request}
use Rattle.zot_model.specs.Valid.{IsValid}
use Rattle.zot_spell.specs.Heads.{name_text}
use Rattle.zot_spell.specs.Wire.{body_of, hop_value, head_of, parts_of, present, request_bytes, request_head, request_line, span_text, target_text}
use Rattle.zot_model.specs.Values.{HasValues}
use Rattle.zot_delivery.proofs.ByteLemmas.{IsVisible, visible_text}
use Rattle.zot_delivery.proofs.FieldLemmas.{expects_none, few_lines, framed_by, framing_for, line_of, lines_are, lines_print, lines_read, none_passes, read_field, size_value, values_chosen}
use Rattle.zot_delivery.proofs.WrittenLemmas.{body_short, fields_in, fields_written, parts_written, target_visible}

-- ---- a head and what stands after it

text_is : (text : List ℕ) (head : Head) (is : IsHead text head) → text ≡ print_request is.request
text_is text head is = is.reads.1 ∙ append-nil (print_request is.request)

-- a head ends where it does
pub ends_at : (text : List ℕ) (head : Head) → IsHead text head → head_end text ≡ Some (length text)
ends_at text head is =
    ap head_end (text_is text head is) ∙ head_end-print is.request is.reads.0 ∙ ap (λ (t : List ℕ). Some (length t)) (sym (text_is text head is))

not_crowded : (text : List ℕ) (h : RequestHead) → IsRequestHead h → text ≡ print_request h → length h.fields ≤ 5 → ¬ IsCrowded text
unfolding line_limit
not_crowded text h is e few (n, ends, more) =
    let whole : head_end text ≡ Some (length (print_request h)) = ap head_end e ∙ head_end-print h is in
    let same : n ≡ length (print_request h) = cc (ends, whole) in
    let lines : lines_in (take n text) ≡ length h.fields + 2 =
    ap (λ (k : ℕ). lines_in (take k text)) same ∙ ap (λ (t : List ℕ). lines_in (take (length (print_request h)) t)) e
    ∙ ap lines_in (take_all (length (print_request h)) (print_request h) (omega arith)) ∙ lines_in-print h is in
    omega (arith, lines, more, few)

-- a head that keeps its limit stands at the front, and what its framing makes of the bytes after it
pub head_in_front : (limit : ℕ) (text rest : List ℕ) (head : Head) (front : Front) → IsHead text head → length text ≤ head_limit → front ≡ with_body limit head head.framing rest
    → IsFront limit (text ++ rest) front
head_in_front limit text rest head front is le e =
    let cut : take (length text) (text ++ rest) ≡ text = take_at text rest (length text) refl in
    let left : drop (length text) (text ++ rest) ≡ rest = drop_at text rest (length text) refl in
    subst (λ x. IsFrontBy limit (text ++ rest) x front) (sym (extent_ends_at head_end head_limit text rest head_end_is (ends_at text head is) le))
    (headed head (subst (λ (t : List ℕ). IsHead t head) (sym cut) is) (e ∙ ap (with_body limit head head.framing) (sym left)))

-- a body of a length is what that many bytes are
framed : (limit : ℕ) (head : Head) (body : Option (List ℕ)) (more : List ℕ) → length (unwrap_or body []) ≤ limit
    → with_body limit head (framing_for body) (unwrap_or body [] ++ more) ≡ Message head (unwrap_or body []) more
framed limit head None more le = refl
framed limit head (Some body) more le =
    rw (le-ltb limit (length body) le, le-ltb (length (body ++ more)) (length body) (omega (arith, length-append body more)), take_at body more (length body) refl, drop_at body more (length body) refl) refl

-- ---- a request's head

-- what httparse's grammar has for a request
abbrev pub tree : Request → RequestHead
tree request = record {
  blank = [];
  method = (parts_of request.call).method;
  target = target_text request;
  minor = 1;
  line_end = grammar.crlf;
  fields = map line_of (present (fields_in request));
  last = grammar.crlf;
}

-- the head of a request as it is read
abbrev pub read_of : Request → Head
read_of request = record {
  method = (parts_of request.call).method;
  target = target_text request;
  fields = map read_field (present (fields_in request));
  framing = framing_for (parts_of request.call).body;
  expects = false;
  closes = false;
}

regroup : (m t v e : List ℕ) → ((m ++ 32 ∷ t) ++ 32 ∷ v) ++ e ≡ (((m ++ 32 ∷ []) ++ t) ++ 32 ∷ v) ++ e
regroup m t v e = simp (append_assoc, cons-append)

tree_print : (request : Request) → print_request (tree request) ≡ head_of request
unfolding print_request request_head request_line
tree_print request = λ i. regroup (parts_of request.call).method (target_text request) (print_version 1) (13 ∷ 10 ∷ []) i ++ (lines_print (fields_in request) i ++ 13 ∷ 10 ∷ [])

uri_byte : (c : ℕ) → IsVisible c → is_uri_byte c ≡ true
uri_byte c h = let a = h.above in let b = h.below in grind (arith, nat_tests)

target_some : (request : Request) → 0 < length (target_text request)
unfolding target_text
target_some request = omega arith

module _ (request : Request) where
  pub media_values : values_of (codes "content-type") (read_of request).fields ≡ option_to_list (parts_of request.call).media
  unfolding name_text
  media_values = values_chosen (codes "content-type") (fields_in request) ∙ append-nil (option_to_list (parts_of request.call).media)

  pub range_values : values_of (codes "content-range") (read_of request).fields ≡ option_to_list (option_map span_text (parts_of request.call).range)
  unfolding name_text
  range_values = values_chosen (codes "content-range") (fields_in request) ∙ append-nil (option_to_list (option_map span_text (parts_of request.call).range))

  pub hop_values : values_of (codes "x-zot-cluster-hop-count") (read_of request).fields ≡ option_to_list (hop_value request.hop)
  unfolding name_text
  hop_values = values_chosen (codes "x-zot-cluster-hop-count") (fields_in request) ∙ append-nil (option_to_list (hop_value request.hop))

  size_values : values_of (codes "content-length") (read_of request).fields ≡ option_to_list (size_value (parts_of request.call).body)
  unfolding name_text body_of
  size_values = values_chosen (codes "content-length") (fields_in request) ∙ append-nil (option_to_list (size_value (parts_of request.call).body))

  framing_is : framing_of (read_of request).fields ≡ framing_by (option_to_list (size_value (parts_of request.call).body)) []
  unfolding name_text framing_of
  framing_is = λ i. framing_by (size_values i) (values_chosen (codes "transfer-encoding") (fields_in request) i)

  none_expects : list_any is_expectation (read_of request).fields ≡ false
  unfolding name_text is_expectation
  none_expects = none_passes is_expectation (fields_in request) (λ v. refl, (λ v. refl, (λ v. refl, (λ v. refl, (λ v. refl, tt)))))

  none_closes : list_any is_close (read_of request).fields ≡ false
  unfolding name_text is_close
  none_closes = none_passes is_close (fields_in request) (λ v. refl, (λ v. refl, (λ v. refl, (λ v. refl, (λ v. refl, tt)))))

module _ (request : Request) (values : HasValues request) (valid : IsValid request) where
  pub is_head : IsHead (head_of request) (read_of request)
  is_head =
      let written = fields_written request values valid in
      let is : IsRequestHead (tree request) = record {
        method = (parts_written request values valid).method;
        target = (target_some request, All-weaker IsVisible (λ c. is_uri_byte c ≡ true) uri_byte (target_text request) (target_visible request values valid));
        target_text = visible_text (target_text request) (target_visible request values valid);
        minor = omega arith;
        fields = lines_are (fields_in request) written;
      } in
      let text : head_of request ≡ print_request (tree request) = sym (tree_print request) in
      record {
        few_lines = not_crowded (head_of request) (tree request) is text (few_lines (fields_in request));
        request = tree request;
        reads = (is, text ∙ sym (append-nil (print_request (tree request))));
        head_is = record {
          method = refl;
          target = refl;
          fields = sym (lines_read (fields_in request) written);
          framing = framing_is request ∙ framed_by (parts_of request.call).body (body_short request values valid);
          expects = sym (expects_none (read_of request).fields (framing_for (parts_of request.call).body) (list_any is_expectation (read_of request).fields) (none_expects request));
          closes = sym (none_closes request);
        };
      }

  -- every head that the text is read as is that one
  pub head_is : (head : Head) → IsHead (head_of request) head → read_of request ≡ head
  head_is head is = head_unique (head_of request) (read_of request) head is_head is

  pub body_framed : (limit : ℕ) (more : List ℕ) → length (body_of request) ≤ limit
      → with_body limit (read_of request) (read_of request).framing (body_of request ++ more) ≡ Message (read_of request) (body_of request) more
  unfolding body_of
  body_framed limit more fits = framed limit (read_of request) (parts_of request.call).body more fits

pub bytes_apart : (request : Request) (more : List ℕ) → request_bytes request ++ more ≡ head_of request ++ (body_of request ++ more)
unfolding request_bytes
bytes_apart request more = append_assoc (head_of request) (body_of request) more
