-- For the tests: a number that each step raises by one, turns of two numbers, a seat that is alone, and one that took in the seat that it gave.
use Rattle.std.proofs.Common.{◌≡◌, ◌≢◌, ◌==◌, ◌<◌, ◌+◌, ◌^◌, ℕ, zero, suc, List, [], ◌∷◌, ◌++◌, Bool, true, false, cond, map, length, get_or, Contains, Option, Some, None, IsSomeAnd, sym, refl, ap, ◌∙◌, subst, arith, mod-eq_of_lt, append-nil, length-append, eq-eqb, ne_eqb}
use Rattle.std.specs.List.{AllByRecursion}
use Rattle.std.proofs.lemmas.List.{length-map}
use mathlib.Core.Logic.{dite}
use mathlib.Core.List.{IsPrefix}
use native.Mathlib.Decide.{ℕ_discrete}
use Rattle.zot_history.specs.History.{Replays, signed, entries_of}
use Rattle.zot_turn.specs.Turns.{history, turns_of}
use Rattle.zot_turn.specs.Seats.{Home, Standing, Stands, Turned, Parted, Joined, IsLater, HasMade, HasAll, HasOwn, numbers, acting, with_entries, seen}
use Rattle.tests_turn.specs.Raising.{IsRaise, IsPair, HasMore, HasRaised, HasAwaited, newcomer}
use Rattle.zot_history.proofs.Histories.{entries_of-append, entries_of_signed, entries_of_others}
use Rattle.zot_turn.proofs.Totals.{times_contained, contained_times, times_rest, times_more}
use Rattle.zot_turn.proofs.Lists.{each_left}
use Rattle.zot_turn.proofs.Closing.{stands_there}
use Rattle.zot_turn.proofs.Calling.{later_turned}
use Rattle.tests_turn.proofs.Carried.{from_opening, later_acting, inner_made, made_none, made_more}

pub raised : (a b : ℕ) (es : List (ℕ × ℕ)) → Replays IsRaise a es b → a + length es < 2 ^ 64 → b ≡ a + length es
raised a b [] h fits = omega (arith, h)
raised a b (x ∷ xs) h fits =
    let long : a + suc (length xs) < 2 ^ 64 = fits in
    let next : h.0 ≡ a + 1 = h.1.0 ∙ mod-eq_of_lt (omega arith) in
    let r : b ≡ h.0 + length xs = raised h.0 b xs h.2 (omega arith) in
    let g : b ≡ a + suc (length xs) = omega arith in g

pub in_order : (a b : ℕ) (es : List (ℕ × ℕ)) → Replays IsRaise a es b → a + length es < 2 ^ 64 → (i : ℕ) → i < length es → get_or (map (λ (e : ℕ × ℕ). e.1) es) i 0 ≡ (a + i) + 1
in_order a b [] h fits i l = absurd (omega arith)
in_order a b (x ∷ xs) h fits i l =
    let long : a + suc (length xs) < 2 ^ 64 = fits in
    let next : h.0 ≡ a + 1 = h.1.0 ∙ mod-eq_of_lt (omega arith) in
    at i l next h.1.1 (λ j k. in_order h.0 b xs h.2 (omega arith) j k)
  where
    at : (i : ℕ) → i < length (x ∷ xs) → h.0 ≡ a + 1 → x.1 ≡ h.0 → ((j : ℕ) → j < length xs → get_or (map (λ (e : ℕ × ℕ). e.1) xs) j 0 ≡ (h.0 + j) + 1) → get_or (map (λ (e : ℕ × ℕ). e.1) (x ∷ xs)) i 0 ≡ (a + i) + 1
    at zero l next is rest = let g : x.1 ≡ (a + 0) + 1 = omega arith in g
    at (suc i) l next is rest = let r = rest i (omega arith) in omega (arith, r, next)

module _ {E : Type 0} where
  -- the entries of turns by two numbers are those of the two
  pub of_two : (given : ℕ) → given ≢ 0 → (turns : List (ℕ × List E)) → AllByRecursion (λ t. Contains (0 ∷ given ∷ []) t.0) turns
      → length (history turns) ≡ length (entries_of 0 (history turns)) + length (entries_of given (history turns))
  of_two given apart [] all = refl
  of_two given apart (t ∷ ts) all =
      let r = of_two given apart ts all.1 in
      let one : entries_of 0 (signed t.0 t.1 ++ history ts) ≡ entries_of 0 (signed t.0 t.1) ++ entries_of 0 (history ts) = entries_of-append 0 (signed t.0 t.1) (history ts) in
      let two : entries_of given (signed t.0 t.1 ++ history ts) ≡ entries_of given (signed t.0 t.1) ++ entries_of given (history ts) = entries_of-append given (signed t.0 t.1) (history ts) in
      let here : length (signed t.0 t.1) ≡ length (entries_of 0 (signed t.0 t.1)) + length (entries_of given (signed t.0 t.1)) = turn_of_two t (times_contained t.0 (0 ∷ given ∷ []) all.0) in
      omega (
        arith,
        r,
        here,
        ap length one,
        ap length two,
        length-append (signed t.0 t.1) (history ts),
        length-append (entries_of 0 (signed t.0 t.1)) (entries_of 0 (history ts)),
        length-append (entries_of given (signed t.0 t.1)) (entries_of given (history ts)),
      )
    where
      turn_of_two : (t : ℕ × List E) → 0 < Rattle.zot_turn.specs.Steps.times t.0 (0 ∷ given ∷ []) → length (signed t.0 t.1) ≡ length (entries_of 0 (signed t.0 t.1)) + length (entries_of given (signed t.0 t.1))
      turn_of_two t some_there = dite (ℕ_discrete t.0 0)
          (λ (e : t.0 ≡ 0).
          let mine : entries_of 0 (signed t.0 t.1) ≡ t.1 = subst (λ (n : ℕ). entries_of n (signed t.0 t.1) ≡ t.1) e (entries_of_signed t.0 t.1) in
          let none : entries_of given (signed t.0 t.1) ≡ [] = entries_of_others given t.0 t.1 (λ q. apart (sym q ∙ e)) in
          omega (arith, length-map {B = ℕ × E} t.1 (λ (x : E). (t.0, x)), ap length mine, ap length none))
          (λ (ne : t.0 ≢ 0). dite (ℕ_discrete t.0 given)
          (λ (e : t.0 ≡ given).
          let mine : entries_of given (signed t.0 t.1) ≡ t.1 = subst (λ (n : ℕ). entries_of n (signed t.0 t.1) ≡ t.1) e (entries_of_signed t.0 t.1) in
          let none : entries_of 0 (signed t.0 t.1) ≡ [] = entries_of_others 0 t.0 t.1 ne in
          omega (arith, length-map {B = ℕ × E} t.1 (λ (x : E). (t.0, x)), ap length mine, ap length none))
          (λ (other : t.0 ≢ given). absurd (omega (arith, some_there, times_rest t.0 0 (given ∷ []) (λ q. ne (sym q)), times_rest t.0 given [] (λ q. other (sym q))))))

  -- turns that are all of one number, and none of it, are none
  pub of_none : (n : ℕ) (turns : List (ℕ × List E)) → AllByRecursion (λ t. Contains (n ∷ []) t.0) turns → turns_of n turns ≡ [] → turns ≡ []
  of_none n [] all h = refl
  of_none n (t ∷ ts) all h = dite (ℕ_discrete n t.0)
      (λ (e : n ≡ t.0). let stands : cond (t.0 == n) (t ∷ turns_of n ts) (turns_of n ts) ≡ t ∷ turns_of n ts = ap (λ (b : Bool). cond b (t ∷ turns_of n ts) (turns_of n ts)) (eq-eqb t.0 n (sym e)) in let c : t ∷ turns_of n ts ≡ [] = sym stands ∙ h in absurd (cc c))
      (λ (ne : n ≢ t.0). absurd (omega (arith, times_contained t.0 (n ∷ []) all.0, times_rest t.0 n [] ne)))

  -- so many entries are those of the two numbers
  pub count_of_two : (given : ℕ) → given ≢ 0 → (first second : List E) (mine turns : List (ℕ × List E)) → mine ≡ (0, first) ∷ (given, second) ∷ [] → HasOwn mine (history turns)
      → AllByRecursion (λ t. Contains (numbers mine) t.0) turns → length (history turns) ≡ length first + length second
  count_of_two given apart first second mine turns is own all =
      let its = subst (λ (m : List (ℕ × List E)). HasOwn m (history turns)) is own in
      of_two given apart turns (subst (λ (m : List (ℕ × List E)). AllByRecursion (λ t. Contains (numbers m) t.0) turns) is all) ∙ (λ i. length (its.0 i) + length (its.1.0 i))

module _ {O E : Type 0} (step : O → ℕ → E → O → Type 0) where
  -- where every turn is of the one seat, its turn is the history
  pub alone : (es : List E) (ran : O → O → Type 0) (home : Home O) (new : Standing O E) → Turned step es ran (newcomer home) new → AllByRecursion (λ t. Contains (numbers new.mine) t.0) new.turns → seen new ≡ signed 0 es
  alone es ran home new t all =
      let turns : new.turns ≡ t.others ++ (0, es) ∷ [] = ap (λ (s : Standing O E). s.turns) t.known in
      let mine : numbers new.mine ≡ 0 ∷ [] = ap (λ (s : Standing O E). numbers s.mine) t.known in
      let here = subst (λ (ts : List (ℕ × List E)). AllByRecursion (λ x. Contains (numbers new.mine) x.0) ts) turns all in
      let its = subst (λ (ns : List ℕ). AllByRecursion (λ (x : ℕ × List E). Contains ns x.0) (t.others ++ (0, es) ∷ [])) mine here in
      let none : t.others ≡ [] = of_none 0 t.others (each_left (λ (x : ℕ × List E). Contains (0 ∷ []) x.0) t.others ((0, es) ∷ []) its) t.elsewhere.0 in
      ap history (turns ∙ ap (λ (ts : List (ℕ × List E)). ts ++ (0, es) ∷ []) none) ∙ append-nil (signed 0 es)

  -- a turn makes the entries of its job
  pub turn_made : (es : List E) (ran : O → O → Type 0) (old new : Standing O E) → Turned step es ran old new → HasMade es old new
  turn_made es ran old new t = record { later = later_turned step es ran old new t; mine = ap (λ (s : Standing O E). s.mine) t.known }

  pub turn_more : (n : ℕ) (e : E) (ran : O → O → Type 0) (old mid new : Standing O E) → HasMore n old mid → Turned step (e ∷ []) ran mid new → HasMore (n + 1) old new
  turn_more n e ran old mid new h t = (h.0 ++ e ∷ [], length-append h.0 (e ∷ []) ∙ ap (λ k. k + 1) h.1, made_more h.0 (e ∷ []) old mid new h.2 (turn_made (e ∷ []) ran mid new t))

module _ {O E : Type 0} (home : Home O) (first kept given : Standing O E) (new : first ≡ newcomer home) (p : Parted first kept given) where
  -- a first seat that was split once
  pub kept_is : kept ≡ record (newcomer home) { gave = p.number ∷ [] }
  kept_is = p.kept ∙ ap (λ (s : Standing O E). record s { gave = s.gave ++ p.number ∷ [] }) new

  pub given_is : given ≡ record (newcomer home) { mine = (p.number, []) ∷ [] }
  given_is = p.given_is ∙ ap (λ (s : Standing O E). record s { mine = (p.number, []) ∷ []; gave = [] }) new

  pub given_apart : p.number ≢ 0
  given_apart e = let fresh : ¬ Contains (0 ∷ []) p.number = subst (λ (s : Standing O E). ¬ Contains (numbers s.mine) p.number) new p.fresh in fresh (zero, omega arith, sym e)

  module _ (step : O → ℕ → E → O → Type 0) (mine theirs both : Standing O E) (j : Joined step mine theirs both) where
    -- and later took in the seat that it gave
    pub paired : (n m : ℕ) → HasMore n kept mine → HasMore m given theirs → IsPair n m both
    paired n m a b =
        let k : ℕ = p.number in
        let my_mine : mine.mine ≡ (0, a.0) ∷ [] = a.2.mine ∙ ap (λ (s : Standing O E). with_entries a.0 s.mine) kept_is in
        let their_mine : theirs.mine ≡ (k, b.0) ∷ [] = b.2.mine ∙ ap (λ (s : Standing O E). with_entries b.0 s.mine) given_is in
        let my_gave : mine.gave ≡ k ∷ [] = a.2.later.gave ∙ ap (λ (s : Standing O E). s.gave) kept_is in
        let their_gave : theirs.gave ≡ [] = b.2.later.gave ∙ ap (λ (s : Standing O E). s.gave) given_is in
        record {
          given = k;
          first = a.0;
          second = b.0;
          apart = given_apart;
          mine = ap (λ (s : Standing O E). s.mine) j.known ∙ (λ i. my_mine i ++ their_mine i);
          gave = ap (λ (s : Standing O E). s.gave) j.known ∙ (λ i. my_gave i ++ their_gave i);
          firsts = a.1;
          seconds = b.1;
        }

    pub paired_home : (n : ℕ) → HasMore n kept mine → both.home ≡ home
    paired_home n a = ap (λ (s : Standing O E). s.home) j.known ∙ a.2.later.home ∙ ap (λ (s : Standing O E). s.home) kept_is

  -- the same where the first seat did nothing since
  pub paired_idle : (step : O → ℕ → E → O → Type 0) (theirs both : Standing O E) → Joined step kept theirs both → (m : ℕ) → HasMore m given theirs → IsPair 0 m both
  paired_idle step theirs both j m b = paired step kept theirs both j 0 m ([], refl, made_none kept) b

  -- the seat that it gave acts in another number
  pub given_acts : (theirs : Standing O E) → IsLater given theirs → acting theirs.mine ≢ 0
  given_acts theirs later e = given_apart (sym (ap (λ (s : Standing O E). acting s.mine) given_is) ∙ sym (later_acting given theirs later) ∙ e)

module _ {O E : Type 0} (n m : ℕ) (s : Standing O E) (p : IsPair n m s) where
  -- it has every number
  pub pair_has_all : HasAll s
  pair_has_all =
      let its : numbers s.mine ≡ 0 ∷ p.given ∷ [] = ap numbers p.mine in (
        subst (λ (ns : List ℕ). Contains ns 0) (sym its) (zero, omega arith, refl),
        λ k h. subst (λ (ns : List ℕ). Contains ns k) (sym its) (contained_times k (0 ∷ p.given ∷ []) (omega (arith, times_contained k (p.given ∷ []) (subst (λ (ns : List ℕ). Contains ns k) p.gave h), times_more k 0 (p.given ∷ [])))),
      )

  pub pair_count : HasOwn s.mine (seen s) → AllByRecursion (λ t. Contains (numbers s.mine) t.0) s.turns → length (seen s) ≡ n + m
  pair_count own all = count_of_two p.given p.apart p.first p.second s.mine s.turns p.mine own all ∙ (λ i. p.firsts i + p.seconds i)

-- where a value owns a seat that made what the value's own entries say, and two numbers took turns at the value, the seat made as much as the two
pub inner_more : {V O E : Type 0} (step : V → ℕ → E → V → Type 0) (seat : V → Standing O E) → ((a b : V) (n : ℕ) (e : E) → step a n e b → HasMade (e ∷ []) (seat a) (seat b))
    → (n m : ℕ) (s : Standing V E) → IsPair n m s → (home : Home V) → s.home ≡ home → (last : V) → Stands step s.home (seen s) last → AllByRecursion (λ t. Contains (numbers s.mine) t.0) s.turns → HasOwn s.mine (seen s)
    → IsSomeAnd home.opening (λ opened. HasMore (n + m) (seat opened) (seat last))
inner_more {V} {O} {E} step seat each n m s p home there last stands all own = by_opening home.opening (subst (λ (h : Home V). Stands step h (seen s) last) there stands)
  where
    by_opening : (opening : Option V) → IsSomeAnd opening (λ o. Replays step o (seen s) last) → IsSomeAnd opening (λ o. HasMore (n + m) (seat o) (seat last))
    by_opening None h = h
    by_opening (Some o) h = (map (λ (e : ℕ × E). e.1) (seen s), length-map {B = E} (seen s) (λ (e : ℕ × E). e.1) ∙ pair_count n m s p own all, inner_made step seat each o last (seen s) h)

-- a number that was raised by the turns of two numbers is as many as they made
pub pair_raised : (n m : ℕ) (s : Standing ℕ ℕ) → IsPair n m s → s.home.opening ≡ Some 0 → n + m < 2 ^ 64 → (last : ℕ) → Stands IsRaise s.home (seen s) last → AllByRecursion (λ t. Contains (numbers s.mine) t.0) s.turns → HasOwn s.mine (seen s) → last ≡ n + m
pair_raised n m s p opening fits last stands all own =
    let count = pair_count n m s p own all in
    let legal = from_opening IsRaise s.home 0 last (seen s) opening stands in
    raised 0 last (seen s) legal (omega (arith, count, fits)) ∙ omega (arith, count)

-- where the one turn of 0 is after turns of the other alone, and the one turn of the other is after some, the turn of 0 comes first
module _ (given : ℕ) (apart : given ≢ 0) (a b : ℕ) where
  two_left : (h : List (ℕ × ℕ)) (last : ℕ) → Replays IsRaise 0 ((0, a) ∷ h) last → length h ≡ 1 → entries_of given h ≡ b ∷ [] → (a ≡ 1) × (b ≡ 2)
  two_left [] last legal count own = absurd (omega arith)
  two_left (e ∷ f ∷ h) last legal count own = absurd (omega arith)
  two_left (e ∷ []) last legal count own = by_number (e.0 == given) own
    where
      by_number : (t : Bool) → cond t (e.1 ∷ []) [] ≡ b ∷ [] → (a ≡ 1) × (b ≡ 2)
      by_number true own = let same : e.1 ≡ b = cc own in (omega (arith, legal.1.0, legal.1.1), omega (arith, same, legal.1.0, legal.1.1, legal.2.1.0, legal.2.1.1))
      by_number false own = absurd (cc own)

  pub in_turn : (late next long : List (ℕ × List ℕ)) → turns_of 0 late ≡ [] → turns_of given next ≡ [] → 0 < length next → IsPrefix (late ++ (0, a ∷ []) ∷ []) long → IsPrefix (next ++ (given, b ∷ []) ∷ []) long
      → AllByRecursion (λ t. Contains (0 ∷ given ∷ []) t.0) long → (last : ℕ) → Replays IsRaise 0 (history long) last → length (history long) ≡ 2 → entries_of given (history long) ≡ b ∷ [] → (a ≡ 1) × (b ≡ 2)
  in_turn [] next long none others some_first p q all last legal count own =
      let is : (0, a ∷ []) ∷ p.0 ≡ long = p.1 in
      let count' : suc (length (history p.0)) ≡ 2 = subst (λ (l : List (ℕ × List ℕ)). length (history l) ≡ 2) (sym is) count in
      let own' : cond (0 == given) (a ∷ entries_of given (history p.0)) (entries_of given (history p.0)) ≡ b ∷ [] = subst (λ (l : List (ℕ × List ℕ)). entries_of given (history l) ≡ b ∷ []) (sym is) own in
      two_left (history p.0) last (subst (λ (l : List (ℕ × List ℕ)). Replays IsRaise 0 (history l) last) (sym is) legal) (omega arith)
      (sym (ap (λ (t : Bool). cond t (a ∷ entries_of given (history p.0)) (entries_of given (history p.0))) (ne_eqb 0 given (λ e. apart (sym e)))) ∙ own')
  in_turn (t ∷ ts) [] long none others some_first p q all last legal count own = absurd (omega arith)
  in_turn (t ∷ ts) (y ∷ ys) long none others some_first p q all last legal count own =
      let is : t ∷ ((ts ++ (0, a ∷ []) ∷ []) ++ p.0) ≡ long = p.1 in
      let again : y ∷ ((ys ++ (given, b ∷ []) ∷ []) ++ q.0) ≡ long = q.1 in
      let same : t ≡ y = cc (is, again) in
      let one : Contains (0 ∷ given ∷ []) t.0 = (subst (AllByRecursion (λ (x : ℕ × List ℕ). Contains (0 ∷ given ∷ []) x.0)) (sym is) all).0 in
      dite (ℕ_discrete t.0 0)
      (λ (e : t.0 ≡ 0). absurd (stands_there t ts (subst (λ (k : ℕ). turns_of k (t ∷ ts) ≡ []) (sym e) none)))
      (λ (ne : t.0 ≢ 0). dite (ℕ_discrete t.0 given)
      (λ (e : t.0 ≡ given). absurd (stands_there y ys (subst (λ (k : ℕ). turns_of k (y ∷ ys) ≡ []) (sym e ∙ ap (λ (x : ℕ × List ℕ). x.0) same) others)))
      (λ (other : t.0 ≢ given). absurd (omega (arith, times_contained t.0 (0 ∷ given ∷ []) one, times_rest t.0 0 (given ∷ []) (λ q. ne (sym q)), times_rest t.0 given [] (λ q. other (sym q))))))

-- a look changes nothing of what a seat made
pub look_apart : {O E : Type 0} (es : List E) (shown : ℕ) (old new : Standing O E) → HasMade es (record old { shown = shown }) new → HasMade es old new
look_apart es shown old new h = record { later = record { home = h.later.home; numbers = h.later.numbers; gave = h.later.gave; turns = h.later.turns }; mine = h.mine }

module _ (home : Home ℕ) (first kept given mine theirs both : Standing ℕ ℕ) (new : first ≡ newcomer home) (p : Parted first kept given) (a b : ℕ) (raises : HasRaised kept mine a) (awaits : HasAwaited given theirs b) (j : Joined IsRaise mine theirs both) where
  pub awaited_pair : IsPair 1 1 both
  awaited_pair = paired home first kept given new p IsRaise mine theirs both j 1 1
      (a ∷ [], refl, turn_made IsRaise (a ∷ []) (λ v w. a ≡ w) kept mine raises)
      (b ∷ [], refl, look_apart (b ∷ []) awaits.0 given theirs (turn_made IsRaise (b ∷ []) (λ v w. b ≡ w) (record given { shown = awaits.0 }) theirs awaits.2))

  -- a seat that waited for a turn took its own after it
  pub awaited : home.opening ≡ Some 0 → (last : ℕ) → Stands IsRaise both.home (seen both) last → AllByRecursion (λ t. Contains (numbers both.mine) t.0) both.turns → HasOwn both.mine (seen both) → (a ≡ 1) × (b ≡ 2)
  awaited opening last stands all own =
      let k : ℕ = p.number in
      let apart = given_apart home first kept given new p in
      let t = subst (λ (s : Standing ℕ ℕ). HasRaised s mine a) (kept_is home first kept given new p) raises in
      let w = subst (λ (s : Standing ℕ ℕ). HasAwaited s theirs b) (given_is home first kept given new p) awaits in
      let is : both.mine ≡ (0, a ∷ []) ∷ (k, b ∷ []) ∷ [] = ap (λ (s : Standing ℕ ℕ). s.mine) j.known ∙ (λ i. (t.known i).mine ++ (w.2.known i).mine) in
      let its = subst (λ (m : List (ℕ × List ℕ)). AllByRecursion (λ x. Contains (numbers m) x.0) both.turns) is all in
      let owns = subst (λ (m : List (ℕ × List ℕ)). HasOwn m (seen both)) is own in
      let there : both.home ≡ home = ap (λ (s : Standing ℕ ℕ). s.home) j.known ∙ ap (λ (s : Standing ℕ ℕ). s.home) t.known in
      in_turn k apart a b t.others w.2.others both.turns t.elsewhere.0 w.2.elsewhere.0 (omega (arith, w.1, w.2.shown))
      (subst (λ (l : List (ℕ × List ℕ)). IsPrefix l both.turns) (ap (λ (s : Standing ℕ ℕ). s.turns) t.known) j.first)
      (subst (λ (l : List (ℕ × List ℕ)). IsPrefix l both.turns) (ap (λ (s : Standing ℕ ℕ). s.turns) w.2.known) j.second)
      its last (from_opening IsRaise both.home 0 last (seen both) (ap (λ (h : Home ℕ). h.opening) there ∙ opening) stands)
      (count_of_two k apart (a ∷ []) (b ∷ []) both.mine both.turns is own all) owns.1.0
