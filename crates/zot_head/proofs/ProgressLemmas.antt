-- A body in chunks, one byte or some bytes of a chunk on.
use Rattle.std.proofs.Common.{◌≡◌, ◌≢◌, ◌⊎◌, ℕ, zero, suc, ◌+◌, ◌-◌, ◌<◌, ◌≤◌, Bool, true, false, cond, eqb, leb, ltb, List, [], ◌∷◌, ◌++◌, length, take, drop, refl, sym, ap, ◌∙◌, arith, inl, inr, Option, Some, None, append_assoc}
use Rattle.std.specs.Prelude.{option_map, Ok, Err, IsTrue}
use Rattle.std.proofs.lemmas.List.{length-append, length-take, take_all, take_at, drop_at, append-nil, take-append-drop, drop_all}
use Rattle.std.proofs.lemmas.Bool.Decides.{nat_tests}
use Rattle.std.proofs.Math.Seq.{take-append-add, drop-append-add}
use Rattle.zot_head.specs.declared.chunk_error.ChunkError.{ChunkError}
use Rattle.zot_head.specs.declared.chunk_error.ChunkError.TheVariants.{Bad, NoMemory}
use Rattle.zot_head.specs.declared.fed.Fed.{Fed}
use Rattle.zot_head.specs.declared.stage.LineSoFar.{LineSoFar}
use Rattle.zot_head.specs.declared.stage.LineSoFar.TheVariants.{Start, Return, Inside}
use Rattle.zot_head.specs.declared.stage.Stage.{Stage}
use Rattle.zot_head.specs.declared.stage.Stage.TheVariants.{Line, Bytes, Tail, Trailer, Done, Failed}
use Rattle.zot_head.specs.Chunked.{size_of, Body, Whole, Unfinished, Broken, body_after, from_trailer, from_tail, from_bytes, from_size, chunked}
use Rattle.zot_head.specs.Limits.{chunk_line_limit, trailer_limit}
use Rattle.zot_head.specs.Lines.{line_end, Ends, Passes, Goes, extent_of, extent}
use Rattle.zot_head.specs.Progress.{trailer_end, Progress, reading_at, reading, IsSound, goes_on, Advances, seen, Feeds}
use Rattle.zot_head.proofs.LineLemmas.{chosen}
use Rattle.zot_head.proofs.ChunkLemmas.{chunked_is}

-- ---- a chunk's line

-- no LF in front: neither the first byte is one, nor is one among the others
none_parts : (x : ℕ) (p : List ℕ) → line_end (x ∷ p) ≡ None → (eqb x 10 ≡ false) × (line_end p ≡ None)
none_parts x p e = elim (chosen (eqb x 10) (Some 1) (option_map suc (line_end p)) None e) [ inl h ↦ absurd cc | inr h ↦ (h.0, nothing (line_end p) h.1) ]
  where
    nothing : (o : Option ℕ) → option_map suc o ≡ None → o ≡ None
    nothing None h = refl
    nothing (Some n) h = absurd cc

line_end-feed : (p bytes : List ℕ) → line_end p ≡ None → line_end (p ++ 10 ∷ bytes) ≡ Some (suc (length p))
line_end-feed [] bytes e = refl
line_end-feed (x ∷ p) bytes e = let h = none_parts x p e in rw (h.0, line_end-feed p bytes h.1) refl

line_end-push : (p : List ℕ) (b : ℕ) → line_end p ≡ None → b ≢ 10 → line_end (p ++ b ∷ []) ≡ None
line_end-push [] b e n = let h : eqb b 10 ≡ false = grind (arith, nat_tests) in rw h refl
line_end-push (x ∷ p) b e n = let h = none_parts x p e in rw (h.0, line_end-push p b h.1 n) refl

take_through : (limit : ℕ) (p : List ℕ) (b : ℕ) (bytes : List ℕ) → length p < limit → take limit (p ++ b ∷ bytes) ≡ p ++ b ∷ take (limit - suc (length p)) bytes
take_through limit p b bytes lt =
    let k : limit ≡ length p + suc (limit - suc (length p)) = omega arith in
    ap (λ (n : ℕ). take n (p ++ b ∷ bytes)) k ∙ take-append-add p (b ∷ bytes) (suc (limit - suc (length p)))

line_ends : (limit : ℕ) (p bytes : List ℕ) → line_end p ≡ None → length p < limit → extent line_end limit (p ++ 10 ∷ bytes) ≡ Ends (suc (length p))
line_ends limit p bytes e lt = rw (take_through limit p 10 bytes lt, line_end-feed p (take (limit - suc (length p)) bytes) e) refl

line_passes : (limit : ℕ) (p : List ℕ) (b : ℕ) (bytes : List ℕ) → line_end p ≡ None → b ≢ 10 → limit ≡ suc (length p) → extent line_end limit (p ++ b ∷ bytes) ≡ Passes
line_passes limit p b bytes e n last =
    let nothing : limit - suc (length p) ≡ 0 = omega arith in
    let come : leb limit (length (p ++ b ∷ bytes)) ≡ true = grind (arith, nat_tests, length-append p (b ∷ bytes)) in
    rw (take_through limit p b bytes (omega arith), nothing, line_end-push p b e n, come) refl

line_goes : (limit : ℕ) (p : List ℕ) → line_end p ≡ None → length p < limit → extent line_end limit p ≡ Goes
line_goes limit p e lt =
    let short : leb limit (length p) ≡ false = grind (arith, nat_tests) in
    rw (take_all limit p (omega arith), e, short) refl

cut_line : (p bytes : List ℕ) (b : ℕ) → (take (suc (length p)) (p ++ b ∷ bytes) ≡ p ++ b ∷ []) × (drop (suc (length p)) (p ++ b ∷ bytes) ≡ bytes)
cut_line p bytes b =
    let whole : p ++ b ∷ bytes ≡ (p ++ b ∷ []) ++ bytes = sym (append_assoc p (b ∷ []) bytes) in
    let len : length (p ++ b ∷ []) ≡ suc (length p) = omega (arith, length-append p (b ∷ [])) in
    (rw whole (take_at (p ++ b ∷ []) bytes (suc (length p)) len), rw whole (drop_at (p ++ b ∷ []) bytes (suc (length p)) len))

-- after a line's LF stands what its size says
pub chunked-feed : (room : ℕ) (p bytes : List ℕ) → IsSound Line p → chunked room (p ++ 10 ∷ bytes) ≡ from_size chunked room (size_of (p ++ 10 ∷ [])) bytes
chunked-feed room p bytes sound =
    let cut = cut_line p bytes 10 in
    chunked_is room (p ++ 10 ∷ bytes) ∙ rw (line_ends chunk_line_limit p bytes sound.0 sound.1, cut.0, cut.1) refl

-- a line that is too long is broken
pub chunked-passes : (room : ℕ) (p : List ℕ) (b : ℕ) (bytes : List ℕ) → IsSound Line p → b ≢ 10 → chunk_line_limit ≡ suc (length p) → chunked room (p ++ b ∷ bytes) ≡ Broken [] Bad
chunked-passes room p b bytes sound n last =
    chunked_is room (p ++ b ∷ bytes) ∙ rw (line_passes chunk_line_limit p b bytes sound.0 n last) refl

-- a line that isn't over is no body yet
chunked-goes : (room : ℕ) (p : List ℕ) → IsSound Line p → chunked room p ≡ Unfinished []
chunked-goes room p sound = chunked_is room p ∙ rw (line_goes chunk_line_limit p sound.0 sound.1) refl

pub line_more : (p : List ℕ) (b : ℕ) → IsSound Line p → b ≢ 10 → chunk_line_limit ≢ suc (length p) → IsSound Line (p ++ b ∷ [])
line_more p b sound n last = (line_end-push p b sound.0 n, omega (arith, length-append p (b ∷ []), sound.1, last))

-- after the last chunk's line stands the trailer section
pub from_size-zero : (room : ℕ) (size : Option ℕ) (limit : ℕ) (bytes : List ℕ) → size ≡ Some 0 → trailer_limit ≡ limit
    → from_size chunked room size bytes ≡ from_trailer (extent (trailer_end Start) limit bytes) bytes
from_size-zero room size limit bytes e l = rw (e, l) refl

-- ---- the trailer section

shift : (o : Option ℕ) (t : Bool) (b : ℕ) (bytes : List ℕ) → from_trailer (extent_of (option_map suc o) t) (b ∷ bytes) ≡ from_trailer (extent_of o t) bytes
shift (Some n) t b bytes = refl
shift None true b bytes = refl
shift None false b bytes = refl

-- one byte of a trailer section on
pub trailer-more : (before after : List ℕ → Option ℕ) (left b : ℕ) (bytes : List ℕ) → before (b ∷ take left bytes) ≡ option_map suc (after (take left bytes))
    → from_trailer (extent before (suc left) (b ∷ bytes)) (b ∷ bytes) ≡ from_trailer (extent after left bytes) bytes
trailer-more before after left b bytes e =
    let same : leb (suc left) (suc (length bytes)) ≡ leb left (length bytes) = grind (arith, nat_tests) in
    rw (e, same) (shift (after (take left bytes)) (leb left (length bytes)) b bytes)

trailer_end-nil : (so_far : LineSoFar) → trailer_end so_far [] ≡ None
trailer_end-nil Start = refl
trailer_end-nil Return = refl
trailer_end-nil Inside = refl

trailer-goes : (so_far : LineSoFar) (left : ℕ) → 0 < left → from_trailer (extent (trailer_end so_far) left []) [] ≡ Unfinished []
trailer-goes so_far zero lt = absurd (omega arith)
trailer-goes so_far (suc left) lt =
    let short : leb (suc left) 0 ≡ false = grind (arith, nat_tests) in
    rw (trailer_end-nil so_far, short) refl

-- ---- a stage

-- the body isn't over at that stage
abbrev pub GoesOn : Stage → Type 0
GoesOn Line = Unit {0}
GoesOn (Bytes size) = Unit {0}
GoesOn (Tail first) = Unit {0}
GoesOn (Trailer so_far left) = Unit {0}
GoesOn Done = ⊥
GoesOn (Failed error) = ⊥

-- with no more bytes a body that isn't over is unfinished
pub reading_at-nil : (stage : Stage) (room : ℕ) (line : List ℕ) → IsSound stage line → GoesOn stage → reading_at stage room line [] ≡ Unfinished []
reading_at-nil Line room line sound goes = rw (append-nil line) (chunked-goes room line sound)
reading_at-nil (Bytes zero) room line sound goes = absurd (omega (arith, sound.0))
reading_at-nil (Bytes (suc size)) room line sound goes =
    let short : ltb 0 (suc size) ≡ true = grind (arith, nat_tests) in
    rw short refl
reading_at-nil (Tail None) room line sound goes = refl
reading_at-nil (Tail (Some first)) room line sound goes = refl
reading_at-nil (Trailer so_far left) room line sound goes = trailer-goes so_far left sound
reading_at-nil Done room line sound goes = absurd goes
reading_at-nil (Failed error) room line sound goes = absurd goes

pub body_after-nil : (body : Body) → body_after [] body ≡ body
body_after-nil (Whole given rest) = refl
body_after-nil (Unfinished given) = refl
body_after-nil (Broken given error) = refl

pub body_after-append : (a b : List ℕ) (body : Body) → body_after (a ++ b) body ≡ body_after a (body_after b body)
body_after-append a b (Whole given rest) = ap (λ (x : List ℕ). Whole x rest) (append_assoc a b given)
body_after-append a b (Unfinished given) = ap Unfinished (append_assoc a b given)
body_after-append a b (Broken given error) = ap (λ (x : List ℕ). Broken x error) (append_assoc a b given)

-- one byte of a trailer section on, where it may have so many bytes
pub trailer-next : (before after : List ℕ → Option ℕ) (left b : ℕ) (bytes : List ℕ) → 0 < left → ((xs : List ℕ) → before (b ∷ xs) ≡ option_map suc (after xs))
    → from_trailer (extent before left (b ∷ bytes)) (b ∷ bytes) ≡ from_trailer (extent after (left - 1) bytes) bytes
trailer-next before after zero b bytes lt e = absurd (omega arith)
trailer-next before after (suc left) b bytes lt e =
    let one_less : suc left - 1 ≡ left = omega arith in
    rw one_less (trailer-more before after left b bytes (e (take left bytes)))

-- ---- bytes of a chunk

-- some of a chunk's bytes on
pub from_bytes-append : (next : List ℕ → Body) (size : ℕ) (a bytes : List ℕ) → length a ≤ size → from_bytes next size (a ++ bytes) ≡ body_after a (from_bytes next (size - length a) bytes)
from_bytes-append next size a bytes le =
    let k : size ≡ length a + (size - length a) = omega arith in
    let tests : ltb (length (a ++ bytes)) size ≡ ltb (length bytes) (size - length a) = grind (arith, nat_tests, length-append a bytes) in
    let front : take size (a ++ bytes) ≡ a ++ take (size - length a) bytes = ap (λ (n : ℕ). take n (a ++ bytes)) k ∙ take-append-add a bytes (size - length a) in
    let back : drop size (a ++ bytes) ≡ drop (size - length a) bytes = ap (λ (n : ℕ). drop n (a ++ bytes)) k ∙ drop-append-add a bytes (size - length a) in
    rw (tests, front, back) (step (ltb (length bytes) (size - length a)))
  where
    step : (t : Bool) → cond t (Unfinished (a ++ bytes)) (body_after (a ++ take (size - length a) bytes) (from_tail next (drop (size - length a) bytes)))
        ≡ body_after a (cond t (Unfinished bytes) (body_after (take (size - length a) bytes) (from_tail next (drop (size - length a) bytes))))
    step true = refl
    step false = body_after-append a (take (size - length a) bytes) (from_tail next (drop (size - length a) bytes))

pub from_bytes-zero : (next : List ℕ → Body) (bytes : List ℕ) → from_bytes next 0 bytes ≡ from_tail next bytes
from_bytes-zero next bytes =
    let long : ltb (length bytes) 0 ≡ false = grind (arith, nat_tests) in
    rw long (body_after-nil (from_tail next bytes))

-- the piece, and what comes after it, cut within the piece
cut_piece : (n : ℕ) (piece more : List ℕ) → piece ++ more ≡ take n piece ++ (drop n piece ++ more)
cut_piece n piece more = ap (λ (x : List ℕ). x ++ more) (sym (take-append-drop n piece)) ∙ append_assoc (take n piece) (drop n piece) more

pub advances-bytes : (old new : Progress) (size n : ℕ) (piece before after : List ℕ) → old.stage ≡ Bytes size → new.room ≡ old.room → n ≤ size → n ≤ length piece
    → ((new.stage ≡ Tail None) × (n ≡ size)) ⊎ (new.stage ≡ Bytes (size - n)) → after ≡ before ++ take n piece → Advances old piece new (drop n piece) before after
advances-bytes old new size n piece before after was room le within now out =
    record { given = take n piece; out = out; same = λ more. rw (was, cut_piece n piece more) (on (drop n piece ++ more)) }
  where
    len : length (take n piece) ≡ n
    len = omega (arith, within, length-take n piece)

    on : (bytes : List ℕ) → from_bytes (chunked old.room) size (take n piece ++ bytes) ≡ body_after (take n piece) (reading_at new.stage new.room new.line bytes)
    on bytes =
        from_bytes-append (chunked old.room) size (take n piece) bytes (omega (arith, len, le))
        ∙ ap (body_after (take n piece)) (elim now [
          | inl h ↦
              let nothing : size - length (take n piece) ≡ 0 = omega (arith, len, h.1) in
              rw (nothing, h.0, room) (from_bytes-zero (chunked old.room) bytes)
          | inr h ↦ rw (len, h, room) refl
        ])

-- a chunk's bytes that have come are seen
bytes-seen : (next : List ℕ → Body) (size : ℕ) (bytes : List ℕ) → 0 < size → 0 < length bytes → 0 < length (seen (from_bytes next size bytes))
bytes-seen next zero bytes s b = absurd (omega arith)
bytes-seen next (suc size) [] s b = absurd (omega arith)
bytes-seen next (suc size) (x ∷ bytes) s b = step (ltb (suc (length bytes)) (suc size)) (from_tail next (drop size bytes))
  where
    step : (t : Bool) (tail : Body) → 0 < length (seen (cond t (Unfinished (x ∷ bytes)) (body_after (x ∷ take size bytes) tail)))
    step true tail = omega arith
    step false (Whole given rest) = omega arith
    step false (Unfinished given) = omega arith
    step false (Broken given error) = omega arith

pub bytes-owed : (old : Progress) (size : ℕ) (piece : List ℕ) → old.stage ≡ Bytes size → 0 < size → 0 < length piece → (more : List ℕ) → 0 < length (seen (reading old (piece ++ more)))
bytes-owed old size piece is some come more = rw is (bytes-seen (chunked old.room) size (piece ++ more) some (omega (arith, come, length-append piece more)))

-- ---- one advance after another

pub advances-piece : (a b c : Progress) (bytes piece last x y z : List ℕ) → Advances a bytes b [] x y → Advances b piece c last y z → Advances a (bytes ++ piece) c last x z
advances-piece a b c bytes piece last x y z one two = record {
  given = one.given ++ two.given;
  out = two.out ∙ ap (λ (w : List ℕ). w ++ two.given) one.out ∙ append_assoc x one.given two.given;
  same = λ more.
      ap (reading a) (append_assoc bytes piece more) ∙ one.same (piece ++ more) ∙ ap (body_after one.given) (two.same more)
      ∙ sym (body_after-append one.given two.given (reading c (last ++ more)));
}

-- ---- what a call answers

-- what the piece says, where nothing comes after it
says : (old new : Progress) (piece rest x y : List ℕ) (next : Body) (on : Advances old piece new rest x y) → reading new rest ≡ next → reading old piece ≡ body_after on.given next
says old new piece rest x y next on e =
    ap (reading old) (sym (append-nil piece)) ∙ on.same [] ∙ ap (λ (r : List ℕ). body_after on.given (reading new r)) (append-nil rest) ∙ ap (body_after on.given) e

more_out : (x y given : List ℕ) → y ≡ x ++ given → y ≡ x ++ (given ++ [])
more_out x y given e = e ∙ ap (λ (g : List ℕ). x ++ g) (sym (append-nil given))

pub feeds-done : (old new : Progress) (piece x y : List ℕ) (fed : Fed) → Advances old piece new (drop fed.taken piece) x y → fed.taken ≤ length piece → fed.done ≡ true → new.stage ≡ Done
    → Feeds old piece (Ok fed) new x y
feeds-done old new piece x y fed on le done is =
    let e : reading new (drop fed.taken piece) ≡ Whole [] (drop fed.taken piece) = rw is refl in
    record {
      answers = rw (says old new piece (drop fed.taken piece) x y (Whole [] (drop fed.taken piece)) on e) (done, le, refl, more_out x y on.given on.out);
      within = le;
      goes_on = on;
      finished = λ t bytes. rw is refl;
      failed = tt;
    }

pub feeds-goes : (old new : Progress) (piece x y : List ℕ) (fed : Fed) → Advances old piece new (drop fed.taken piece) x y → fed.taken ≡ length piece → fed.done ≡ false
    → IsSound new.stage new.line → GoesOn new.stage → Feeds old piece (Ok fed) new x y
feeds-goes old new piece x y fed on all done sound goes =
    let nothing : drop fed.taken piece ≡ [] = drop_all fed.taken piece (omega (arith, all)) in
    let e : reading new (drop fed.taken piece) ≡ Unfinished [] = rw nothing (reading_at-nil new.stage new.room new.line sound goes) in
    record {
      answers = rw (says old new piece (drop fed.taken piece) x y (Unfinished []) on e) (done, all, more_out x y on.given on.out);
      within = omega (arith, all);
      goes_on = on;
      finished = λ t. absurd (clash fed.done done t);
      failed = tt;
    }
  where
    clash : (b : Bool) → b ≡ false → IsTrue b → ⊥
    clash true e t = cc
    clash false e t = cc

pub feeds-failed : (old new : Progress) (piece rest x y : List ℕ) (error : ChunkError) → Advances old piece new rest x y → new.stage ≡ Failed error → Feeds old piece (Err error) new x y
feeds-failed old new piece rest x y error on is =
    record { answers = λ more. inl (rw (on.same more, is) (refl, more_out x y on.given on.out)); within = tt; goes_on = tt; finished = tt; failed = λ bytes. rw is refl }

-- memory ran out in a step, before a byte of the body
pub feeds-stopped : (old mid new : Progress) (piece rest x y z : List ℕ) → Advances old piece mid rest x y → new.stage ≡ Failed NoMemory → z ≡ y
    → ((more : List ℕ) → 0 < length (seen (reading mid (rest ++ more)))) → Feeds old piece (Err NoMemory) new x z
feeds-stopped old mid new piece rest x y z so_far is same owes = record {
  answers = λ more.
      inr (refl, record { given = so_far.given; out = same ∙ so_far.out; next = reading mid (rest ++ more); front = so_far.same more; owes = owes more });
  within = tt;
  goes_on = tt;
  finished = tt;
  failed = λ bytes. rw is refl;
}

-- a stage that is neither the last nor an error
pub goes-otherwise : (stage : Stage) → (stage ≡ Done → ⊥) → ((error : ChunkError) → stage ≡ Failed error → ⊥) → GoesOn stage
goes-otherwise Line d f = tt
goes-otherwise (Bytes size) d f = tt
goes-otherwise (Tail first) d f = tt
goes-otherwise (Trailer so_far left) d f = tt
goes-otherwise Done d f = d refl
goes-otherwise (Failed error) d f = f error refl

pub goes-not-over : (stage : Stage) → GoesOn stage → goes_on stage ≡ false → ⊥
goes-not-over Line g e = cc
goes-not-over (Bytes size) g e = cc
goes-not-over (Tail first) g e = cc
goes-not-over (Trailer so_far left) g e = cc
goes-not-over Done g e = g
goes-not-over (Failed error) g e = g
