-- The laws of what stands at the front: it is determined, it stays with more bytes after, and a whole
-- message takes some of the bytes.
use Rattle.std.proofs.Common.{◌≡◌, ℕ, ◌+◌, ◌<◌, ◌≤◌, Bool, true, false, cond, ltb, List, [], ◌++◌, length, take, drop, refl, sym, ap, subst, ◌∙◌, arith}
use Rattle.std.proofs.lemmas.List.{length-append, length-drop, take-append-le, drop-append-le, drop-drop}
use Rattle.std.proofs.lemmas.Bool.Decides.{nat_tests}
use Rattle.httparse.specs.Grammar.{RequestHead}
use Rattle.httparse.proofs.GrammarLemmas.{request_unique}
use Rattle.zot_head.specs.declared.framing.Framing.{Framing}
use Rattle.zot_head.specs.declared.framing.Framing.TheVariants as framings
use Rattle.zot_head.specs.declared.head.Head.{Head}
use Rattle.zot_head.specs.Chunked.{Body, Whole, Unfinished, Broken, chunked}
use Rattle.zot_head.specs.Fields.{framing_of}
use Rattle.zot_head.specs.Front.{IsHeadOf, IsHead, SizeInvalid, Front, Message, Refused, Partial, with_chunks, with_body, IsMessage, crowded, invalid, headed, IsFrontBy, IsFront, IsDecided, with_more, IsRestOf}
use Rattle.zot_head.specs.Limits.{head_limit}
use Rattle.zot_head.specs.Lines.{head_end, Extent, Ends, Passes, Goes, extent}
use Rattle.zot_head.proofs.LineLemmas.{head_end_is, IsSettled, extent_stays, extent_within}
use Rattle.zot_head.proofs.ChunkLemmas as chunk_laws

-- ---- more bytes after

with_chunks_stays : (head : Head) (more : List ℕ) (body next : Body) → (chunk_laws.IsDecided body → next ≡ chunk_laws.with_more more body) → IsDecided (with_chunks head body) → with_chunks head next ≡ with_more more (with_chunks head body)
with_chunks_stays head more (Whole bytes rest) next stays d = ap (with_chunks head) (stays tt)
with_chunks_stays head more (Unfinished bytes) next stays d = absurd d
with_chunks_stays head more (Broken bytes error) next stays d = ap (with_chunks head) (stays tt)

with_body_stays : (limit : ℕ) (head : Head) (framing : Framing) (bytes more : List ℕ) → IsDecided (with_body limit head framing bytes)
    → with_body limit head framing (bytes ++ more) ≡ with_more more (with_body limit head framing bytes)
with_body_stays limit head framings.None bytes more d = refl
with_body_stays limit head (framings.Length n) bytes more d = over (ltb limit n) d
  where
    within : (t : Bool) → ltb (length bytes) n ≡ t → IsDecided (cond t Partial (Message head (take n bytes) (drop n bytes)))
        → cond (ltb (length (bytes ++ more)) n) Partial (Message head (take n (bytes ++ more)) (drop n (bytes ++ more))) ≡ with_more more (cond t Partial (Message head (take n bytes) (drop n bytes)))
    within true e h = absurd h
    within false e h =
        let le : n ≤ length bytes = grind (arith, nat_tests) in
        let longer : ltb (length (bytes ++ more)) n ≡ false = grind (arith, nat_tests, length-append bytes more) in
        rw (longer, take-append-le n bytes more le, drop-append-le n bytes more le) refl

    over : (t : Bool) → IsDecided (cond t (Refused SizeInvalid) (cond (ltb (length bytes) n) Partial (Message head (take n bytes) (drop n bytes))))
        → cond t (Refused SizeInvalid) (cond (ltb (length (bytes ++ more)) n) Partial (Message head (take n (bytes ++ more)) (drop n (bytes ++ more))))
        ≡ with_more more (cond t (Refused SizeInvalid) (cond (ltb (length bytes) n) Partial (Message head (take n bytes) (drop n bytes))))
    over true h = refl
    over false h = within (ltb (length bytes) n) refl h
with_body_stays limit head framings.Chunked bytes more d =
    with_chunks_stays head more (chunked limit bytes) (chunked limit (bytes ++ more)) (chunk_laws.chunked_stays limit bytes more) d

message_stays : (limit : ℕ) (text bytes more : List ℕ) (front : Front) → IsMessage limit text bytes front → IsDecided front → IsMessage limit text (bytes ++ more) (with_more more front)
message_stays limit text bytes more front (crowded c e) d = crowded c (ap (with_more more) e)
message_stays limit text bytes more front (invalid c e) d = invalid c (ap (with_more more) e)
message_stays limit text bytes more front (headed head is e) d =
    headed head is (ap (with_more more) e ∙ sym (with_body_stays limit head head.framing bytes more (subst IsDecided e d)))

front_by_stays : (limit : ℕ) (bytes more : List ℕ) (e : Extent) (front : Front) → ((n : ℕ) → e ≡ Ends n → n ≤ length bytes) → IsFrontBy limit bytes e front → IsDecided front
    → IsFrontBy limit (bytes ++ more) e (with_more more front)
front_by_stays limit bytes more Goes front within is d = absurd (subst IsDecided is d)
front_by_stays limit bytes more Passes front within is d = ap (with_more more) is
front_by_stays limit bytes more (Ends n) front within is d =
    rw (take-append-le n bytes more (within n refl), drop-append-le n bytes more (within n refl)) (message_stays limit (take n bytes) (drop n bytes) more front is d)

settled : (limit : ℕ) (bytes : List ℕ) (e : Extent) (front : Front) → IsFrontBy limit bytes e front → IsDecided front → IsSettled e
settled limit bytes Goes front is d = subst IsDecided is d
settled limit bytes Passes front is d = tt
settled limit bytes (Ends n) front is d = tt

-- A whole message or a refusal stays what it is with more bytes after.
pub front_stays : (limit : ℕ) (bytes more : List ℕ) (front : Front) → IsFront limit bytes front → IsDecided front → IsFront limit (bytes ++ more) (with_more more front)
front_stays limit bytes more front is d =
    let e = extent head_end head_limit bytes in
    rw (extent_stays head_end head_limit bytes more head_end_is (settled limit bytes (extent head_end head_limit bytes) front is d))
    (front_by_stays limit bytes more (extent head_end head_limit bytes) front (λ n e. (extent_within head_end head_limit n bytes head_end_is e).1) is d)

-- ---- a whole message takes some of the bytes

-- what follows a whole message is the end of the bytes
abbrev LeavesEnding : List ℕ → Front → Type 0
LeavesEnding bytes (Message head body rest) = chunk_laws.Ending bytes rest
LeavesEnding bytes (Refused refusal) = Unit {0}
LeavesEnding bytes Partial = Unit {0}

with_body_ends : (limit : ℕ) (head : Head) (framing : Framing) (bytes : List ℕ) → LeavesEnding bytes (with_body limit head framing bytes)
with_body_ends limit head framings.None bytes = (0, omega arith, refl)
with_body_ends limit head (framings.Length n) bytes = over (ltb limit n)
  where
    within : (t : Bool) → ltb (length bytes) n ≡ t → LeavesEnding bytes (cond t Partial (Message head (take n bytes) (drop n bytes)))
    within true e = tt
    within false e = let le : n ≤ length bytes = grind (arith, nat_tests) in (n, le, refl)

    over : (t : Bool) → LeavesEnding bytes (cond t (Refused SizeInvalid) (cond (ltb (length bytes) n) Partial (Message head (take n bytes) (drop n bytes))))
    over true = tt
    over false = within (ltb (length bytes) n) refl
with_body_ends limit head framings.Chunked bytes = of_body (chunked limit bytes) (chunk_laws.chunked_ends limit bytes)
  where
    of_body : (body : Body) → chunk_laws.LeavesEnding bytes body → LeavesEnding bytes (with_chunks head body)
    of_body (Whole given rest) e = e
    of_body (Unfinished given) e = tt
    of_body (Broken given error) e = tt

message_ends : (limit : ℕ) (text bytes : List ℕ) (front : Front) → IsMessage limit text bytes front → LeavesEnding bytes front
message_ends limit text bytes front (crowded c e) = subst (LeavesEnding bytes) (sym e) tt
message_ends limit text bytes front (invalid c e) = subst (LeavesEnding bytes) (sym e) tt
message_ends limit text bytes front (headed head is e) = subst (LeavesEnding bytes) (sym e) (with_body_ends limit head head.framing bytes)

front_by_takes : (limit : ℕ) (bytes : List ℕ) (e : Extent) (head : Head) (body rest : List ℕ) → ((n : ℕ) → e ≡ Ends n → (0 < n) × (n ≤ length bytes) × (n ≤ head_limit))
    → IsFrontBy limit bytes e (Message head body rest) → IsRestOf bytes rest
front_by_takes limit bytes Goes head body rest within is = absurd cc
front_by_takes limit bytes Passes head body rest within is = absurd cc
front_by_takes limit bytes (Ends n) head body rest within is =
    let w = within n refl in
    let e = message_ends limit (take n bytes) (drop n bytes) (Message head body rest) is in
    record { taken = n + e.0; some = omega (arith, w.0); within = omega (arith, w.1, e.1, length-drop n bytes); rest_is = e.2 ∙ drop-drop e.0 n bytes }

-- A whole message takes at least one of the bytes, and at most all.
pub front_takes : (limit : ℕ) (bytes : List ℕ) (head : Head) (body rest : List ℕ) → IsFront limit bytes (Message head body rest) → IsRestOf bytes rest
front_takes limit bytes head body rest is =
    front_by_takes limit bytes (extent head_end head_limit bytes) head body rest (λ n e. extent_within head_end head_limit n bytes head_end_is e) is

-- ---- what stands at the front is determined

same_head : (h : RequestHead) (a b : Head) → IsHeadOf h a → IsHeadOf h b → a ≡ b
same_head h a b x y =
    let fields : a.fields ≡ b.fields = x.fields ∙ sym y.fields in
    let framing : a.framing ≡ b.framing = cc (x.framing, y.framing, ap framing_of fields) in
    let expects : a.expects ≡ b.expects = cc (x.expects, y.expects, fields, framing) in
    let closes : a.closes ≡ b.closes = cc (x.closes, y.closes, fields) in
    let method : a.method ≡ b.method = x.method ∙ sym y.method in
    let target : a.target ≡ b.target = x.target ∙ sym y.target in
    λ i. record { method = method i; target = target i; fields = fields i; framing = framing i; expects = expects i; closes = closes i }

-- bytes are at most one head
pub head_unique : (text : List ℕ) (a b : Head) → IsHead text a → IsHead text b → a ≡ b
head_unique text a b x y =
    let same = request_unique text x.request y.request [] [] x.reads y.reads in
    same_head y.request a b (subst (λ (h : RequestHead). IsHeadOf h a) same.0 x.head_is) y.head_is

message_unique : (limit : ℕ) (text bytes : List ℕ) (x y : Front) → IsMessage limit text bytes x → IsMessage limit text bytes y → x ≡ y
message_unique limit text bytes x y (crowded c e) (crowded d f) = e ∙ sym f
message_unique limit text bytes x y (crowded c e) (invalid d f) = absurd (d.few_lines c)
message_unique limit text bytes x y (crowded c e) (headed head is f) = absurd (is.few_lines c)
message_unique limit text bytes x y (invalid c e) (crowded d f) = absurd (c.few_lines d)
message_unique limit text bytes x y (invalid c e) (invalid d f) = e ∙ sym f
message_unique limit text bytes x y (invalid c e) (headed head is f) = absurd (c.none head is)
message_unique limit text bytes x y (headed head is e) (crowded d f) = absurd (is.few_lines d)
message_unique limit text bytes x y (headed head is e) (invalid d f) = absurd (d.none head is)
message_unique limit text bytes x y (headed head is e) (headed other this f) =
    e ∙ ap (λ (h : Head). with_body limit h h.framing bytes) (head_unique text head other is this) ∙ sym f

front_by_unique : (limit : ℕ) (bytes : List ℕ) (e : Extent) (x y : Front) → IsFrontBy limit bytes e x → IsFrontBy limit bytes e y → x ≡ y
front_by_unique limit bytes Goes x y a b = a ∙ sym b
front_by_unique limit bytes Passes x y a b = a ∙ sym b
front_by_unique limit bytes (Ends n) x y a b = message_unique limit (take n bytes) (drop n bytes) x y a b

-- At most one thing stands at the front.
pub front_unique : (limit : ℕ) (bytes : List ℕ) (x y : Front) → IsFront limit bytes x → IsFront limit bytes y → x ≡ y
front_unique limit bytes x y a b = front_by_unique limit bytes (extent head_end head_limit bytes) x y a b
