-- A body of a size, piece by piece.
use Rattle.std.proofs.Common.{◌≡◌, ◌≢◌, min, ℕ, ◌-◌, ◌<◌, ◌≤◌, ltb, true, false, List, [], ◌++◌, length, take, drop, Option, refl, sym, ap, ◌∙◌, subst, arith}
use Rattle.std.proofs.lemmas.Bool.Decides.{nat_tests}
use Rattle.std.proofs.lemmas.List.{append-nil, drop_all, drop_at, length-append, length-take, take_at}
use Rattle.zot_head.specs.declared.framing.Framing.TheVariants as framings
use Rattle.zot_head.specs.Front as fronts
use Rattle.zot_model.specs.Valid.{body_limit}
use Rattle.zot_session.specs.Receiving.{BodyIs, Came}
use Rattle.zot_session.specs.Waiting.{KeepsRoom, Waiting, held}
use Rattle.zot_session.proofs.ReceiveLemmas.{came_pass, passes}
use Rattle.zot_session.proofs.RoomLemmas.{room_pass}

length_whole : (n : ℕ) (body rest : List ℕ) → n ≤ body_limit → length body ≡ n → BodyIs (framings.Length n) (body ++ rest) (λ head. fronts.Message head body rest)
length_whole n body rest within size head =
    let longer = length-append body rest in
    let small : ltb body_limit n ≡ false = grind (arith, nat_tests) in
    let enough : ltb (length (body ++ rest)) n ≡ false = grind (arith, nat_tests) in
    rw (small, enough, take_at body rest n size, drop_at body rest n size) refl

length_partial : (n : ℕ) (bytes : List ℕ) → n ≤ body_limit → length bytes < n → BodyIs (framings.Length n) bytes (λ head. fronts.Partial)
length_partial n bytes within short head =
    let small : ltb body_limit n ≡ false = grind (arith, nat_tests) in
    let few : ltb (length bytes) n ≡ true = grind (arith, nat_tests) in
    rw (small, few) refl

-- the body has its size
pub length_done : {was is : Waiting} {body came : List ℕ} {left left' : Option (List ℕ)} (size : ℕ) → Came was is body came left left' → size ≤ body_limit → length body ≡ size
    → BodyIs (framings.Length size) (was.bytes ++ came) (λ head. fronts.Message head body is.bytes)
length_done {is = is} {body = body} size c within done =
    subst (λ b. BodyIs (framings.Length size) b (λ head. fronts.Message head body is.bytes)) (sym c.bytes) (length_whole size body is.bytes within done)

-- and hasn't it where nothing waits
length_short : {was is : Waiting} {body came : List ℕ} {left left' : Option (List ℕ)} (size : ℕ) → Came was is body came left left' → size ≤ body_limit → length body < size → is.bytes ≡ []
    → BodyIs (framings.Length size) (was.bytes ++ came) (λ head. fronts.Partial)
length_short {was} {is} {body} {came} size c within short none =
    let all : was.bytes ++ came ≡ body = c.bytes ∙ ap (λ b. body ++ b) none ∙ append-nil body in
    subst (λ b. BodyIs (framings.Length size) b (λ head. fronts.Partial)) (sym all) (length_partial size body within short)

-- where the body's share of what waits doesn't fill it, nothing waits after that share
length_left : (mid is : Waiting) (before after : List ℕ) (n size : ℕ) → after ≡ before ++ take n mid.bytes → is.bytes ≡ drop n mid.bytes → n ≡ min (size - length before) (length mid.bytes) → length before ≤ size
    → (length after ≤ size) × (length after ≢ size → (length after < size) × (is.bytes ≡ []))
length_left mid is before after n size adds rest share within =
    let longer = length-append before (take n mid.bytes) in
    let cut = length-take n mid.bytes in
    let grown = ap length adds in
    (omega arith, λ other. (omega (arith, other), rest ∙ drop_all n mid.bytes (omega (arith, other))))

-- The body's share of what waits joined it: it has at most its size, and where it hasn't that, nothing waits.
pub record Joins (was is : Waiting) (body came : List ℕ) (size : ℕ) (left left' : Option (List ℕ)) : Type 0 where
  pub pieces : Came was is body came left left'
  pub room : KeepsRoom was is
  pub within : length body ≤ size
  pub none : length body ≢ size → is.bytes ≡ []
  pub partial : length body ≢ size → BodyIs (framings.Length size) (was.bytes ++ came) (λ head. fronts.Partial)

pub length_joins : {was mid : Waiting} {before came : List ℕ} {left left' : Option (List ℕ)} (is : Waiting) (after waits still : List ℕ) (n some size : ℕ) → size ≤ body_limit → Came was mid before came left left' → KeepsRoom was mid
    → length before ≤ size → n ≡ min (size - some) (length waits) → waits ≡ mid.bytes → some ≡ length before → after ≡ before ++ take n still → still ≡ mid.bytes
    → is.bytes ≡ drop n mid.bytes → is.taken ≡ mid.taken → held is ≡ held mid → Joins was is after came size left left'
length_joins {was} {mid} {before} {came} {left} {left'} is after waits still n some size fits c room within share waiting all adds same rest taken holds =
    let added : after ≡ before ++ take n mid.bytes = adds ∙ ap (λ (b : List ℕ). before ++ take n b) same in
    let shared : n ≡ min (size - length before) (length mid.bytes) = share ∙ ap (λ (k : ℕ). min (size - k) (length waits)) all ∙ ap (λ (b : List ℕ). min (size - length before) (length b)) waiting in
    let came_on : Came was is after came left left' = subst (λ b. Came was is b came left left') (sym added) (came_pass is (take n mid.bytes) c (passes mid is n rest) taken) in
    let left_so = length_left mid is before after n size added rest shared within in
    record {
      pieces = came_on;
      room = room_pass is n room rest holds;
      within = left_so.0;
      none = λ other. (left_so.1 other).1;
      partial = λ other. let few = left_so.1 other in length_short size came_on fits few.0 few.1;
    }
