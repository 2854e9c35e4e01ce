-- What is read where arrays and objects may nest so deep is read where they may nest deeper.
use Rattle.std.proofs.Common.{◌≡◌, ℕ, zero, suc, List, [], ◌∷◌, length, Option, Some, None, IsSome, option_and_then, refl, sym, ap, subst}
use Rattle.std.specs.Prelude.{⊤}
use Rattle.json.specs.Token as token
use Rattle.json.specs.Token.{Token}
use Rattle.json.specs.Lex.{tokens}
use Rattle.json.specs.Json.{Json, array, object, Items, item, Members, member, Parse, parse_map, after_end_array, read_key, items_step, members_step, items, members, value_with, value, if_last, document}
use Rattle.serde_json.specs.Data.{Data}
use Rattle.serde_json.specs.Read.{of_json, read}

-- what was read stays
abbrev Keeps : {A : Type 0} → Option (A × List Token) → Option (A × List Token) → Type 0
Keeps None later = ⊤
Keeps (Some p) later = later ≡ Some p

abbrev Grows : {A : Type 0} → Parse A → Parse A → Type 0
Grows p q = (ts : List Token) → Keeps (p ts) (q ts)

mapped : {A B : Type 0} (g : A → B) (o later : Option (A × List Token)) → Keeps o later → Keeps (parse_map g o) (parse_map g later)
mapped g None later k = tt
mapped g (Some p) later k = ap (parse_map g) k

and_more : {B : Type 0} (h : Json → B → B) (more most : Parse B) → Grows more most → (o later : Option (Json × List Token)) → Keeps o later
    → Keeps (option_and_then (λ q. parse_map (h q.0) (more q.1)) o) (option_and_then (λ q. parse_map (h q.0) (most q.1)) later)
and_more h more most grows None later k = tt
and_more h more most grows (Some q) later k =
    subst (λ x. Keeps (parse_map (h q.0) (more q.1)) (option_and_then (λ q. parse_map (h q.0) (most q.1)) x)) (sym k) (mapped (h q.0) (more q.1) (most q.1) (grows q.1))

module _ (p q : Parse Json) (grows : Grows p q) where
  item_turn : (more most : Parse Items) → Grows more most → (ts : List Token) (o : Option (List Token)) → Keeps (items_step p more ts o) (items_step q most ts o)
  item_turn more most again ts (Some r) = refl
  item_turn more most again ts None = and_more item more most again (p ts) (q ts) (grows ts)

  Grows-items : (n : ℕ) → Grows (items p n) (items q n)
  unfolding items
  Grows-items zero ts = tt
  Grows-items (suc n) ts = item_turn (items p n) (items q n) (Grows-items n) ts (after_end_array ts)

  member_turn : (more most : Parse Members) → Grows more most → (o : Option (Option (List ℕ) × List Token))
      → Keeps (option_and_then (λ r. members_step p more r.0 r.1) o) (option_and_then (λ r. members_step q most r.0 r.1) o)
  member_turn more most again None = tt
  member_turn more most again (Some (None, s)) = refl
  member_turn more most again (Some (Some k, s)) = and_more (member k) more most again (p s) (q s) (grows s)

  Grows-members : (n : ℕ) → Grows (members p n) (members q n)
  unfolding members
  Grows-members zero ts = tt
  Grows-members (suc n) ts = member_turn (members p n) (members q n) (Grows-members n) (read_key ts)

with_grows : (a b : Parse Items) (o m : Parse Members) → Grows a b → Grows o m → (ts : List Token) → Keeps (value_with a o ts) (value_with b m ts)
with_grows a b o m hi hm [] = tt
with_grows a b o m hi hm (token.begin_object ∷ ts) = mapped object (o ts) (m ts) (hm ts)
with_grows a b o m hi hm (token.end_object ∷ ts) = tt
with_grows a b o m hi hm (token.begin_array ∷ ts) = mapped array (a ts) (b ts) (hi ts)
with_grows a b o m hi hm (token.end_array ∷ ts) = tt
with_grows a b o m hi hm (token.key s ∷ ts) = tt
with_grows a b o m hi hm (token.string s ∷ ts) = refl
with_grows a b o m hi hm (token.number s ∷ ts) = refl
with_grows a b o m hi hm (token.boolean x ∷ ts) = refl
with_grows a b o m hi hm (token.null ∷ ts) = refl
with_grows a b o m hi hm (token.bad ∷ ts) = tt

deeper : (d : ℕ) → Grows (value d) (value (suc d))
unfolding value
deeper zero ts =
    with_grows (λ ts. None) (λ ts. items (value zero) (length ts) ts) (λ ts. None) (λ ts. members (value zero) (length ts) ts) (λ ts. tt) (λ ts. tt) ts
deeper (suc d) ts =
    with_grows (λ ts. items (value d) (length ts) ts) (λ ts. items (value (suc d)) (length ts) ts) (λ ts. members (value d) (length ts) ts) (λ ts. members (value (suc d)) (length ts) ts)
    (λ ts. Grows-items (value d) (value (suc d)) (deeper d) (length ts) ts) (λ ts. Grows-members (value d) (value (suc d)) (deeper d) (length ts) ts) ts

some : (o : Option Json) (d : Data) → option_and_then of_json o ≡ Some d → IsSome o
some (Some j) d h = refl
some None d h = absurd (cc)

-- of a whole text
last_kept : (o later : Option (Json × List Token)) (d : Data) → Keeps o later → option_and_then of_json (option_and_then (λ p. if_last p.0 p.1) o) ≡ Some d
    → IsSome (option_and_then (λ p. if_last p.0 p.1) later)
last_kept None later d k h = absurd (cc)
last_kept (Some p) later d k h = subst (λ x. IsSome (option_and_then (λ p. if_last p.0 p.1) x)) (sym k) (some (if_last p.0 p.1) d h)

pub tree_of : (text : List ℕ) (d : Data) → read text ≡ Some d → IsSome (document text)
tree_of text d h = last_kept (value 127 (tokens text)) (value 128 (tokens text)) d (deeper 127 (tokens text)) h
