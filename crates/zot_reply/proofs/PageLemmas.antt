-- What the bodies and the links of pages of tags are.
use Rattle.std.proofs.Common.{◌≡◌, ℕ, zero, suc, ◌<◌, ◌^◌, Bool, true, false, List, [], ◌∷◌, ◌++◌, map, refl, sym, ap, ap₂, ◌∙◌, arith, slice_index, append-nil}
use Rattle.std.specs.Prelude.{codes}
use Rattle.std.specs.Borrow.{Bor}
use Rattle.std.specs.Fmt.{decimal}
use Rattle.std.specs.List.{AllByRecursion, AllPass}
use Rattle.std.proofs.lemmas.Bool.Decides.{nat_tests}
use Rattle.std.proofs.lemmas.Fmt.{decimal_injective}
use Rattle.std.proofs.lemmas.List.{append_assoc}
use Rattle.json.specs.Print.{escape, escape_byte, quoted}
use Rattle.serde_json.specs.Data.{string}
use Rattle.serde_json.specs.View.{items_of}
use Rattle.serde_json.specs.Written.{comma_if, items_text}
use Rattle.zot_names.proofs.ByteLemmas.{tag_bytes}
use Rattle.zot_names.specs.Name.{is_name_byte}
use Rattle.zot_names.specs.Tag.{IsTag, is_tag_byte}
use Rattle.zot_reply.proofs.TextLemmas.{decimal_free, free_by_test, tag_free}
use Rattle.zot_reply.specs.Pages.{link_rest, tags_text}
use Rattle.zot_spell.specs.Bodies.{page_body, page_value}
use Rattle.zot_spell.specs.Fields.{link_text, page_place}
use Rattle.zot_spell.specs.Heads.{IsFree}
use Rattle.zot_spell.proofs.CutLemmas.{cut_front, free_append, same_ended}
use Rattle.zot_spell.proofs.PlainLemmas.{IsPlain, IsPlainByte, plain_byte, plain_text}

-- ---- texts that JSON writes as they stand

plain_by : (test : ℕ → Bool) → ((c : ℕ) → test c ≡ true → IsPlainByte c) → (text : List ℕ) → AllPass test text → IsPlain text
plain_by test plain [] all = tt
plain_by test plain (c ∷ text) all = (plain c (all 0 0 (omega arith)), plain_by test plain text (λ k d lt. all (suc k) d (omega (arith, lt))))

tag_byte : (c : ℕ) → is_tag_byte c ≡ true → IsPlainByte c
tag_byte c h = plain_byte c (grind (arith, nat_tests)) (λ e. absurd (grind (arith, nat_tests))) (λ e. absurd (grind (arith, nat_tests)))

name_byte : (c : ℕ) → is_name_byte c ≡ true → IsPlainByte c
name_byte c h = plain_byte c (grind (arith, nat_tests)) (λ e. absurd (grind (arith, nat_tests))) (λ e. absurd (grind (arith, nat_tests)))

-- ---- the tags of a page

pub comma_free : (later : Bool) → IsFree 34 (comma_if later)
comma_free true zero lt = refl
comma_free true (suc k) lt = absurd (omega (arith, lt))
comma_free false k lt = absurd (omega (arith, lt))

piece_assoc : (a q t r e : List ℕ) → (a ++ ((q ++ (t ++ q)) ++ r)) ++ e ≡ a ++ (q ++ (t ++ (q ++ (r ++ e))))
piece_assoc a q t r e = simp append_assoc

tags_place : (tags : List (List ℕ)) → AllByRecursion IsTag tags → (later : Bool) → items_text later (items_of (map string tags)) ++ (125 ∷ []) ≡ tags_text later tags
tags_place [] all later = refl
tags_place (tag ∷ tags) all later =
    piece_assoc (comma_if later) (34 ∷ []) (escape tag) (items_text true (items_of (map string tags))) (125 ∷ [])
    ∙ ap₂ (λ (t r : List ℕ). comma_if later ++ (34 ∷ (t ++ (34 ∷ r)))) (plain_text tag (plain_by is_tag_byte tag_byte tag (tag_bytes tag all.0))) (tags_place tags all.1 true)

-- the body of a page up to its tags
abbrev pub page_front : List ℕ → List ℕ
page_front name = codes "{\"name\":" ++ (quoted name ++ codes ",\"tags\":[")

pub page_is : (name : List ℕ) (tags : List (List ℕ)) → AllByRecursion IsTag tags → page_body name tags ≡ page_front name ++ tags_text false tags
unfolding page_body page_value escape_byte
page_is name tags all = ap (λ (t : List ℕ). codes "{\"name\":" ++ (quoted name ++ (codes ",\"tags\":[" ++ t))) (tags_place tags all false) ∙ simp append_assoc

-- the same of a repository whose name is one
pub page_pieces : (name : List ℕ) (tags : List (List ℕ)) → AllPass is_name_byte name → AllByRecursion IsTag tags → page_body name tags ≡ codes "{\"name\":\"" ++ (name ++ (codes "\",\"tags\":[" ++ tags_text false tags))
page_pieces name tags named all =
    page_is name tags all ∙ ap (λ (t : List ℕ). (codes "{\"name\":" ++ ((34 ∷ (t ++ (34 ∷ []))) ++ codes ",\"tags\":[")) ++ tags_text false tags) (plain_text name (plain_by is_name_byte name_byte name named)) ∙ simp append_assoc

pub same_tags : (later : Bool) (a b : List (List ℕ)) → AllByRecursion IsTag a → AllByRecursion IsTag b → tags_text later a ≡ tags_text later b → a ≡ b
same_tags later [] [] x y e = refl
same_tags true [] (t ∷ b) x y e = let first : 93 ≡ 44 = ap (λ (l : List ℕ). slice_index l 0) e in absurd (omega (arith, first))
same_tags false [] (t ∷ b) x y e = let first : 93 ≡ 34 = ap (λ (l : List ℕ). slice_index l 0) e in absurd (omega (arith, first))
same_tags true (t ∷ a) [] x y e = let first : 44 ≡ 93 = ap (λ (l : List ℕ). slice_index l 0) e in absurd (omega (arith, first))
same_tags false (t ∷ a) [] x y e = let first : 34 ≡ 93 = ap (λ (l : List ℕ). slice_index l 0) e in absurd (omega (arith, first))
same_tags later (t ∷ a) (u ∷ b) x y e =
    let quote = cut_front (comma_if later) (34 ∷ (t ++ (34 ∷ tags_text true a))) (34 ∷ (u ++ (34 ∷ tags_text true b))) e in
    let rest : t ++ (34 ∷ tags_text true a) ≡ u ++ (34 ∷ tags_text true b) = cc quote in
    let s = same_ended 34 t u (tags_text true a) (tags_text true b) (tag_free 34 t refl x.0) (tag_free 34 u refl y.0) rest in
    ap₂ (λ (h : List ℕ) (r : List (List ℕ)). h ∷ r) s.0 (same_tags true a b x.1 y.1 s.1)

pub same_pages : (name : List ℕ) (a b : List (List ℕ)) → AllByRecursion IsTag a → AllByRecursion IsTag b → page_body name a ≡ page_body name b → a ≡ b
same_pages name a b x y e = same_tags false a b x y (cut_front (page_front name) (tags_text false a) (tags_text false b) (sym (page_is name a x) ∙ e ∙ page_is name b y))

-- ---- reading them one by one

-- the tags are those that were read and those that are left
abbrev pub AreLeft : List (List ℕ) → List (List ℕ) → List ℕ → Type 0
AreLeft tags items left =
    (later : Bool) × (more : List (List ℕ)) × (items ++ more ≡ tags) × AllByRecursion IsTag more × (left ≡ tags_text later more)

pub left_more : (items tags : List (List ℕ)) (left rest tag : List ℕ) → AreLeft tags items left → (left ≡ tags_text false [] → ⊥)
    → ((later : Bool) (t : List ℕ) (ts : List (List ℕ)) → IsTag t → left ≡ tags_text later (t ∷ ts) → (tag ≡ t) × (rest ≡ tags_text true ts))
    → AreLeft tags (items ++ (tag ∷ [])) rest
left_more items tags left rest tag (later, [], j, all, e) none some = absurd (none e)
left_more items tags left rest tag (later, t ∷ ts, j, all, e) none some =
    let k = some later t ts all.0 e in
    (true, ts, ap (λ (x : List ℕ). (items ++ (x ∷ [])) ++ ts) k.0 ∙ append_assoc items (t ∷ []) ts ∙ j, all.1, k.1)

pub left_none : (items tags : List (List ℕ)) (left : List ℕ) → AreLeft tags items left
    → ((later : Bool) (t : List ℕ) (ts : List (List ℕ)) → IsTag t → left ≡ tags_text later (t ∷ ts) → ⊥) → items ≡ tags
left_none items tags left (later, [], j, all, e) none = sym (append-nil items) ∙ j
left_none items tags left (later, t ∷ ts, j, all, e) none = absurd (none later t ts all.0 e)

-- what is first is this tag, and after it stand these
abbrev pub IsFirst : List ℕ → List (List ℕ) → List ℕ × Bor (List ℕ) → Type 0
IsFirst t ts first = (first.0 ≡ t) × (first.1.now ≡ tags_text true ts)

-- ---- links

-- a link up to its number
abbrev pub link_front : List ℕ → List ℕ
link_front name = codes "<" ++ (codes "/v2/" ++ name ++ codes "/tags/list?n=")

link_assoc : (a v n t d m g b : List ℕ) → a ++ (v ++ n ++ t ++ d ++ m ++ g) ++ b ≡ (a ++ (v ++ n ++ t)) ++ (d ++ (m ++ (g ++ b)))
link_assoc a v n t d m g b = simp append_assoc

pub link_is : (name : List ℕ) (n : ℕ) (tag : List ℕ) → link_text name n tag ≡ link_front name ++ link_rest n tag
unfolding link_text page_place
link_is name n tag = link_assoc (codes "<") (codes "/v2/") name (codes "/tags/list?n=") (decimal n) (codes "&last=") tag (codes ">; rel=\"next\"")

pub link_pieces : (name : List ℕ) (n : ℕ) (tag : List ℕ) → link_text name n tag ≡ codes "</v2/" ++ (name ++ (codes "/tags/list?n=" ++ link_rest n tag))
link_pieces name n tag = link_is name n tag ∙ simp append_assoc

pub link_rest_free : (n : ℕ) (tag : List ℕ) → IsTag tag → IsFree 13 (link_rest n tag)
link_rest_free n tag is =
    let end = free_append 13 tag (codes ">; rel=\"next\"") (tag_free 13 tag refl is) (free_by_test 13 (codes ">; rel=\"next\"") refl) in
    let last = free_append 13 (codes "&last=") (tag ++ codes ">; rel=\"next\"") (free_by_test 13 (codes "&last=") refl) end in
    free_append 13 (decimal n) (codes "&last=" ++ (tag ++ codes ">; rel=\"next\"")) (decimal_free 13 n (omega arith)) last

-- links to the same place
pub same_link : (name : List ℕ) (n m : ℕ) (t u : List ℕ) → n < 2 ^ 64 → m < 2 ^ 64 → IsTag t → IsTag u → link_text name n t ≡ link_text name m u → (t ≡ u) × (n ≡ m)
same_link name n m t u x y p q e =
    let end : List ℕ = codes "; rel=\"next\"" in
    let rest = cut_front (link_front name) (link_rest n t) (link_rest m u) (sym (link_is name n t) ∙ e ∙ link_is name m u) in
    let number = same_ended 38 (decimal n) (decimal m) (codes "last=" ++ (t ++ (62 ∷ end))) (codes "last=" ++ (u ++ (62 ∷ end))) (decimal_free 38 n (omega arith)) (decimal_free 38 m (omega arith)) rest in
    let last = cut_front (codes "last=") (t ++ (62 ∷ end)) (u ++ (62 ∷ end)) number.1 in
    ((same_ended 62 t u end end (tag_free 62 t refl p) (tag_free 62 u refl q) last).0, decimal_injective n m x y number.0)
