-- The first line of a request, its fields, and its head before another body.
use Rattle.std.proofs.Common.{◌≡◌, ℕ, Bool, Option, Some, None, IsSome, List, [], ◌∷◌, ◌++◌, append-nil, append_assoc, length, codes, unwrap_or, Result, Ok, Err, IfOk, refl, ap, ◌∙◌}
use Rattle.zot_model.specs.declared.call.Call.{Call}
use Rattle.zot_model.specs.declared.call.Call.TheVariants as calls
use Rattle.zot_model.specs.declared.request.Request.{Request}
use Rattle.zot_spell.specs.declared.field.Field.{Field}
use Rattle.zot_spell.specs.declared.field_name.FieldName.{FieldName}
use Rattle.zot_spell.specs.Heads.{field_of}
use Rattle.zot_spell.specs.Wire.{body_of, fields_given, form_of, parts_of, query_text, request_bytes, request_head, request_line, target_text, with_body}

-- a field and then the others are all of them
one_more : (out : List Field) (first : FieldName × Option (List ℕ)) (rest : List (FieldName × Option (List ℕ)))
    → (out ++ fields_given (first ∷ [])) ++ fields_given rest ≡ out ++ fields_given (first ∷ rest)
one_more out (name, None) rest = ap (λ o. o ++ fields_given rest) (append-nil out)
one_more out (name, Some value) rest = append_assoc out (field_of name value ∷ []) (fields_given rest)

-- five fields, added one after the other
pub five_fields : (f1 f2 f3 f4 : List Field) (a b c d e : FieldName × Option (List ℕ)) → f1 ≡ fields_given (a ∷ []) → f2 ≡ f1 ++ fields_given (b ∷ []) → f3 ≡ f2 ++ fields_given (c ∷ [])
    → f4 ≡ f3 ++ fields_given (d ∷ []) → f4 ++ fields_given (e ∷ []) ≡ fields_given (a ∷ b ∷ c ∷ d ∷ e ∷ [])
five_fields f1 f2 f3 f4 a b c d e e1 e2 e3 e4 =
    ap (λ f. f ++ fields_given (e ∷ [])) e4 ∙ one_more f3 d (e ∷ [])
    ∙ ap (λ f. f ++ fields_given (d ∷ e ∷ [])) e3 ∙ one_more f2 c (d ∷ e ∷ [])
    ∙ ap (λ f. f ++ fields_given (c ∷ d ∷ e ∷ [])) e2 ∙ one_more f1 b (c ∷ d ∷ e ∷ [])
    ∙ ap (λ f. f ++ fields_given (b ∷ c ∷ d ∷ e ∷ [])) e1 ∙ one_more [] a (b ∷ c ∷ d ∷ e ∷ [])

-- the bytes of a request with another body are the same head, before as many bytes, and that body
call_then_body : (name : Option (List ℕ)) (call : Call) (hop : Bool) (body : List ℕ) → IsSome (parts_of call).body
    → request_bytes (with_body (record { name = name; call = call; hop = hop }) body) ≡ request_head (record { name = name; call = call; hop = hop }) (length body) ++ body
unfolding request_bytes request_head request_line target_text parts_of body_of
call_then_body name (calls.Post mount digest old) hop body has = refl
call_then_body name (calls.Patch id range old) hop body has = refl
call_then_body name (calls.Finish id range digest old) hop body has = refl
call_then_body name (calls.PutManifest reference media old) hop body has = refl
call_then_body name _ hop body has = cc has

pub head_then_body : (request : Request) (body : List ℕ) → IsSome (parts_of request.call).body → request_bytes (with_body request body) ≡ request_head request (length body) ++ body
head_then_body request body has = call_then_body request.name request.call request.hop body has

-- the first line is its parts, one after the other
parts_in_line : (method name path query : List ℕ)
    → method ++ (codes " /v2/" ++ (name ++ (path ++ (query ++ (codes " HTTP/1.1\r\n" ++ []))))) ≡ method ++ codes " " ++ (codes "/v2/" ++ name ++ path ++ query) ++ codes " HTTP/1.1" ++ 13 ∷ 10 ∷ []
parts_in_line method name path query = simp append_assoc refl

line_of : (request : Request) (method name path query line : List ℕ) → method ≡ (parts_of request.call).method → name ≡ unwrap_or request.name [] → path ≡ (parts_of request.call).path
    → query ≡ query_text (form_of (parts_of request.call)) → line ≡ method ++ (codes " /v2/" ++ (name ++ (path ++ (query ++ (codes " HTTP/1.1\r\n" ++ []))))) → line ≡ request_line request
unfolding request_line target_text
line_of request method name path query line m n p q e =
    rw (e, m, n, p, q) (parts_in_line (parts_of request.call).method (unwrap_or request.name []) (parts_of request.call).path (query_text (form_of (parts_of request.call))))

pub line_made : {X E : Type 0} (text : X → List ℕ) (request : Request) (method name path query : List ℕ) (made : Result X E) → method ≡ (parts_of request.call).method → name ≡ unwrap_or request.name []
    → path ≡ (parts_of request.call).path → query ≡ query_text (form_of (parts_of request.call)) → IfOk made (λ line. text line ≡ method ++ (codes " /v2/" ++ (name ++ (path ++ (query ++ (codes " HTTP/1.1\r\n" ++ []))))))
    → IfOk made (λ line. text line ≡ request_line request)
line_made text request method name path query (Ok line) m n p q e = line_of request method name path query (text line) m n p q e
line_made text request method name path query (Err error) m n p q e = tt
