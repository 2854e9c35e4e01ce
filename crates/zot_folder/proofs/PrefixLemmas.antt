-- Lists of bytes that begin others, and the order of paths.
use Rattle.std.proofs.Common.{◌≡◌, ◌≢◌, ℕ, Bool, true, false, ◌&&◌, eqb, All, List, [], ◌∷◌, ◌++◌, ◌⊎◌, inl, inr, refl, sym, ap, ◌∙◌}
use Rattle.std.proofs.lemmas.Bool.{and_parts, eq-eqb, eqb-true}
use Rattle.std.proofs.lemmas.Cmp.{tied_itself}
use Rattle.std.proofs.lemmas.List.{append_assoc}
use Rattle.std.proofs.lemmas.List.Elements.{All-head, All-tail}
use Rattle.std.specs.Ordering.{nat_cmp, ordering_reverse, ordering_then}
use Rattle.std.specs.declared.cmp.Ordering.TheVariants.{Less, Equal, Greater}
use Rattle.zot_maps.proofs.Maps.{byte_order, number_order}
use Rattle.zot_folder.specs.Walks.{is_prefix}
use Rattle.zot_outside.specs.Objects.{path_cmp}

and_both : (a b : Bool) → a ≡ true → b ≡ true → (a && b) ≡ true
and_both true b h k = k
and_both false b h k = h

second_false : (a b : Bool) → a ≡ true → (a && b) ≡ false → b ≡ false
second_false true b h k = k
second_false false b h k = cc h

-- a list begins itself with more behind it
pub prefix_append : (p q : List ℕ) → is_prefix p (p ++ q) ≡ true
prefix_append [] q = refl
prefix_append (b ∷ p) q = and_both (eqb b b) (is_prefix p (p ++ q)) (eq-eqb b b refl) (prefix_append p q)

-- what stands behind a beginning
pub prefix_rest : (p q : List ℕ) → is_prefix p q ≡ true → (rest : List ℕ) × (q ≡ p ++ rest)
prefix_rest [] q h = (q, refl)
prefix_rest (b ∷ p) [] h = cc h
prefix_rest (b ∷ p) (c ∷ q) h =
    let parts = and_parts (eqb b c) (is_prefix p q) h in
    let more = prefix_rest p q parts.1 in
    (more.0, ap (λ d. d ∷ q) (sym (eqb-true b c parts.0)) ∙ ap (λ l. b ∷ l) more.1)

pub prefix_trans : (p q r : List ℕ) → is_prefix p q ≡ true → is_prefix q r ≡ true → is_prefix p r ≡ true
prefix_trans p q r h k =
    let one = prefix_rest p q h in
    let two = prefix_rest q r k in
    ap (is_prefix p) (two.1 ∙ ap (λ l. l ++ two.0) one.1 ∙ append_assoc p one.0 two.0) ∙ prefix_append p (one.0 ++ two.0)

pub cancel_front : (front p q : List ℕ) → is_prefix (front ++ p) (front ++ q) ≡ true → is_prefix p q ≡ true
cancel_front [] p q h = h
cancel_front (b ∷ front) p q h = cancel_front front p q (and_parts (eqb b b) (is_prefix (front ++ p) (front ++ q)) h).1

same_first : (b : ℕ) (p : Bool) → (eqb b b && p) ≡ p
same_first b p = ap (λ e. e && p) (eq-eqb b b refl)

pub prefix_same : (front p q : List ℕ) → is_prefix (front ++ p) (front ++ q) ≡ is_prefix p q
prefix_same [] p q = refl
prefix_same (b ∷ front) p q = same_first b (is_prefix (front ++ p) (front ++ q)) ∙ prefix_same front p q

-- of two beginnings of one list, one begins the other
pub comparable : (p q b : List ℕ) → is_prefix p b ≡ true → is_prefix q b ≡ true → (is_prefix p q ≡ true) ⊎ (is_prefix q p ≡ true)
comparable [] q b h k = inl refl
comparable (x ∷ p) [] b h k = inr refl
comparable (x ∷ p) (y ∷ q) [] h k = cc h
comparable (x ∷ p) (y ∷ q) (b ∷ bs) h k =
    let one = and_parts (eqb x b) (is_prefix p bs) h in
    let two = and_parts (eqb y b) (is_prefix q bs) k in
    let same : x ≡ y = eqb-true x b one.0 ∙ sym (eqb-true y b two.0) in
    elim (comparable p q bs one.1 two.1) [
      | inl first ↦ inl (and_both (eqb x y) (is_prefix p q) (eq-eqb x y same) first)
      | inr second ↦ inr (and_both (eqb y x) (is_prefix q p) (eq-eqb y x (sym same)) second)
    ]

-- what is greater than a list with a beginning, and hasn't the beginning, is greater than every list with it
pub right_of : (p b z q : List ℕ) → is_prefix p b ≡ true → is_prefix p z ≡ true → is_prefix p q ≡ false → path_cmp b q ≡ Less → path_cmp z q ≡ Less
right_of [] b z q hb hz hq less = cc hq
right_of (x ∷ p) [] z q hb hz hq less = cc hb
right_of (x ∷ p) (b ∷ bs) [] q hb hz hq less = cc hz
right_of (x ∷ p) (b ∷ bs) (z ∷ zs) [] hb hz hq less = cc less
right_of (x ∷ p) (b ∷ bs) (z ∷ zs) (q ∷ qs) hb hz hq less =
    let of_b = and_parts (eqb x b) (is_prefix p bs) hb in
    let of_z = and_parts (eqb x z) (is_prefix p zs) hz in
    let x_z : x ≡ z = eqb-true x z of_z.0 in
    let b_z : b ≡ z = sym (eqb-true x b of_b.0) ∙ x_z in
    elim (nat_cmp z q) as (λ r. nat_cmp z q ≡ r → ordering_then r (path_cmp bs qs) ≡ Less → ordering_then r (path_cmp zs qs) ≡ Less) [
      | Less ↦ λ _ _. refl
      | Equal ↦ λ tied h. right_of p bs zs qs of_b.1 of_z.1 (second_false (eqb x q) (is_prefix p qs) (eq-eqb x q (x_z ∙ number_order.antisymmetric z q tied)) hq) h
      | Greater ↦ λ _ h. cc h
    ] refl (ap (λ c. ordering_then (nat_cmp c q) (path_cmp bs qs)) (sym b_z) ∙ less)

-- what lies between a beginning and a list that has it, has it too
pub between : (p b q : List ℕ) → is_prefix p q ≡ true → path_cmp p b ≢ Greater → path_cmp b q ≡ Less → is_prefix p b ≡ true
between [] b q h le less = refl
between (x ∷ p) b [] h le less = cc h
between (x ∷ p) [] (q ∷ qs) h le less = absurd (le refl)
between (x ∷ p) (b ∷ bs) (q ∷ qs) h le less =
    let parts = and_parts (eqb x q) (is_prefix p qs) h in
    let turned : nat_cmp b q ≡ ordering_reverse (nat_cmp x b) = ap (nat_cmp b) (sym (eqb-true x q parts.0)) ∙ number_order.total.antisymm b x in
    elim (nat_cmp x b) as (λ r. nat_cmp x b ≡ r → ordering_then r (path_cmp p bs) ≢ Greater → ordering_then (ordering_reverse r) (path_cmp bs qs) ≡ Less → (eqb x b && is_prefix p bs) ≡ true) [
      | Less ↦ λ _ _ k. cc k
      | Equal ↦ λ tied below k. and_both (eqb x b) (is_prefix p bs) (eq-eqb x b (number_order.antisymmetric x b tied)) (between p bs qs parts.1 below k)
      | Greater ↦ λ _ below _. absurd (below refl)
    ] refl le (ap (λ r. ordering_then r (path_cmp bs qs)) (sym turned) ∙ less)

-- a beginning isn't greater
pub prefix_le : (p q : List ℕ) → is_prefix p q ≡ true → path_cmp p q ≢ Greater
prefix_le [] [] h k = cc k
prefix_le [] (y ∷ q) h k = cc k
prefix_le (x ∷ p) [] h k = cc h
prefix_le (x ∷ p) (y ∷ q) h k =
    let parts = and_parts (eqb x y) (is_prefix p q) h in
    let tied : nat_cmp x y ≡ Equal = ap (nat_cmp x) (sym (eqb-true x y parts.0)) ∙ tied_itself number_order.total x in
    prefix_le p q parts.1 (ap (λ r. ordering_then r (path_cmp p q)) (sym tied) ∙ k)

-- and is less, if it is another list
pub prefix_less : (p q : List ℕ) → is_prefix p q ≡ true → p ≢ q → path_cmp p q ≡ Less
prefix_less p q h apart =
    elim (path_cmp p q) as (λ r. path_cmp p q ≡ r → r ≡ Less) [
      | Less ↦ λ _. refl
      | Equal ↦ λ tied. absurd (apart (byte_order.antisymmetric p q tied))
      | Greater ↦ λ greater. absurd (prefix_le p q h greater)
    ] refl

-- a name with a slash behind it begins no list without one
pub slash_past : (name last : List ℕ) → All (λ b. b ≢ 47) last → is_prefix (name ++ 47 ∷ []) last ≡ true → ⊥
slash_past [] [] plain h = cc h
slash_past [] (b ∷ last) plain h = All-head (λ b. b ≢ 47) b last plain (sym (eqb-true 47 b (and_parts (eqb 47 b) true h).0))
slash_past (n ∷ name) [] plain h = cc h
slash_past (n ∷ name) (b ∷ last) plain h = slash_past name last (All-tail (λ b. b ≢ 47) b last plain) (and_parts (eqb n b) (is_prefix (name ++ 47 ∷ []) last) h).1

-- of two names without a slash that have one behind them, one begins the other only if they are one
pub same_name : (name last : List ℕ) → All (λ b. b ≢ 47) name → All (λ b. b ≢ 47) last → is_prefix (name ++ 47 ∷ []) (last ++ 47 ∷ []) ≡ true → name ≡ last
same_name [] [] plain other h = refl
same_name [] (b ∷ last) plain other h = absurd (All-head (λ b. b ≢ 47) b last other (sym (eqb-true 47 b (and_parts (eqb 47 b) true h).0)))
same_name (n ∷ name) [] plain other h = absurd (All-head (λ b. b ≢ 47) n name plain (eqb-true n 47 (and_parts (eqb n 47) (is_prefix (name ++ 47 ∷ []) []) h).0))
same_name (n ∷ name) (b ∷ last) plain other h =
    let parts = and_parts (eqb n b) (is_prefix (name ++ 47 ∷ []) (last ++ 47 ∷ [])) h in
    ap (λ c. c ∷ name) (eqb-true n b parts.0) ∙ ap (λ l. b ∷ l) (same_name name last (All-tail (λ b. b ≢ 47) n name plain) (All-tail (λ b. b ≢ 47) b last other) parts.1)
