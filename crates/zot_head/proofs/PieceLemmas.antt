-- Several pieces of a body in chunks, read one after another.
use Rattle.std.proofs.Common.{◌≡◌, ◌⊎◌, ℕ, ◌+◌, ◌<◌, ◌≤◌, Bool, true, false, not, List, [], ◌∷◌, ◌++◌, length, take, drop, get_or, refl, sym, ap, subst, ◌∙◌, arith, append_assoc, inl, inr, Ok, Err}
use Rattle.std.specs.List.{flat_map}
use Rattle.std.proofs.lemmas.List.{length-append, append-nil, drop_all, drop-append-le, take_more, take-append-drop}
use Rattle.std.proofs.lemmas.Grind.{flat_map-append}
use Rattle.std.proofs.Math.Seq.{drop-append-add}
use Rattle.zot_head.specs.declared.chunk_error.ChunkError.{ChunkError}
use Rattle.zot_head.specs.declared.chunk_error.ChunkError.TheVariants.{NoMemory}
use Rattle.zot_head.specs.declared.fed.Fed.{Fed}
use Rattle.zot_head.specs.Chunked.{Body, Whole, Unfinished, Broken, body_after}
use Rattle.zot_head.specs.Progress.{Progress, reading, Advances, Stops, AnswersOk, AnswersErr, Feeds}
use Rattle.zot_head.proofs.ProgressLemmas.{body_after-append, advances-piece}

-- nothing stays where the body isn't done
all_taken : (body : Body) (bytes : List ℕ) (fed : Fed) (x y : List ℕ) → AnswersOk body bytes fed x y → fed.done ≡ false → fed.taken ≡ length bytes
all_taken (Whole given rest) bytes fed x y ok e = absurd cc
all_taken (Unfinished given) bytes fed x y ok e = ok.1
all_taken (Broken given error) bytes fed x y ok e = absurd ok

none_left : (old new : Progress) (bytes : List ℕ) (fed : Fed) (x y : List ℕ) → Feeds old bytes (Ok fed) new x y → fed.done ≡ false → drop fed.taken bytes ≡ []
none_left old new bytes fed x y is e = drop_all fed.taken bytes (omega (arith, all_taken (reading old bytes) bytes fed x y is.answers e))

goes_to : (old new : Progress) (bytes : List ℕ) (fed : Fed) (x y : List ℕ) → Feeds old bytes (Ok fed) new x y → fed.done ≡ false → Advances old bytes new [] x y
goes_to old new bytes fed x y is e = subst (λ (r : List ℕ). Advances old bytes new r x y) (none_left old new bytes fed x y is e) is.goes_on

-- more bytes after a body that is done
pub fed-after : (old new : Progress) (bytes piece : List ℕ) (fed : Fed) (x y : List ℕ) → Feeds old bytes (Ok fed) new x y → fed.done ≡ true → Feeds old (bytes ++ piece) (Ok fed) new x y
fed-after old new bytes piece fed x y is e =
    let cut : drop fed.taken (bytes ++ piece) ≡ drop fed.taken bytes ++ piece = drop-append-le fed.taken bytes piece is.within in
    let says : reading old (bytes ++ piece) ≡ Whole (is.goes_on.given ++ []) (drop fed.taken bytes ++ piece) =
    is.goes_on.same piece ∙ ap (body_after is.goes_on.given) (is.finished e (drop fed.taken bytes ++ piece)) in
    record {
      answers = rw says (e, omega (arith, is.within, length-append bytes piece), sym cut, is.goes_on.out ∙ ap (λ (g : List ℕ). x ++ g) (sym (append-nil is.goes_on.given)));
      within = omega (arith, is.within, length-append bytes piece);
      goes_on = record {
        given = is.goes_on.given;
        out = is.goes_on.out;
        same = λ more. rw cut (ap (reading old) (append_assoc bytes piece more) ∙ is.goes_on.same (piece ++ more)
            ∙ ap (λ (r : List ℕ). body_after is.goes_on.given (reading new r)) (sym (append_assoc (drop fed.taken bytes) piece more)));
      };
      finished = is.finished;
      failed = tt;
    }

-- both answers together
abbrev pub both : Fed → Fed → Fed
both fed next = record { taken = fed.taken + next.taken; done = next.done }

ok_after : (body : Body) (given bytes piece : List ℕ) (fed next : Fed) (x y z : List ℕ) → AnswersOk body piece next y z → fed.taken ≡ length bytes → y ≡ x ++ given
    → AnswersOk (body_after given body) (bytes ++ piece) (both fed next) x z
ok_after (Whole more rest) given bytes piece fed next x y z ok all out =
    let cut : drop (fed.taken + next.taken) (bytes ++ piece) ≡ drop next.taken piece = ap (λ (n : ℕ). drop (n + next.taken) (bytes ++ piece)) all ∙ drop-append-add bytes piece next.taken in
    (ok.0, omega (arith, all, ok.1, length-append bytes piece), ok.2 ∙ sym cut, ok.3 ∙ ap (λ (w : List ℕ). w ++ more) out ∙ append_assoc x given more)
ok_after (Unfinished more) given bytes piece fed next x y z ok all out =
    (ok.0, omega (arith, all, ok.1, length-append bytes piece), ok.2 ∙ ap (λ (w : List ℕ). w ++ more) out ∙ append_assoc x given more)
ok_after (Broken more error) given bytes piece fed next x y z ok all out = absurd ok

-- one piece more
pub fed-then : (old mid new : Progress) (bytes piece : List ℕ) (fed next : Fed) (x y z : List ℕ) → Feeds old bytes (Ok fed) mid x y → fed.done ≡ false → Feeds mid piece (Ok next) new y z
    → Feeds old (bytes ++ piece) (Ok (both fed next)) new x z
fed-then old mid new bytes piece fed next x y z is e then =
    let all : fed.taken ≡ length bytes = all_taken (reading old bytes) bytes fed x y is.answers e in
    let on = goes_to old mid bytes fed x y is e in
    let cut : drop (fed.taken + next.taken) (bytes ++ piece) ≡ drop next.taken piece = ap (λ (n : ℕ). drop (n + next.taken) (bytes ++ piece)) all ∙ drop-append-add bytes piece next.taken in
    record {
      answers = rw (on.same piece) (ok_after (reading mid piece) on.given bytes piece fed next x y z then.answers all on.out);
      within = omega (arith, all, then.within, length-append bytes piece);
      goes_on = rw cut (advances-piece old mid new bytes piece (drop next.taken piece) x y z on then.goes_on);
      finished = then.finished;
      failed = tt;
    }

err_after : (body : Body) (given : List ℕ) (error : ChunkError) (x y z : List ℕ) → AnswersErr body error y z → y ≡ x ++ given → AnswersErr (body_after given body) error x z
err_after (Whole more rest) given error x y z h out = h
err_after (Unfinished more) given error x y z h out = h
err_after (Broken more broken) given error x y z h out = (h.0, h.1 ∙ ap (λ (w : List ℕ). w ++ more) out ∙ append_assoc x given more)

-- where a body was read so far, bytes after are read from there
regroup : (old mid : Progress) (bytes piece others more x y : List ℕ) (on : Advances old bytes mid [] x y)
    → reading old (((bytes ++ piece) ++ others) ++ more) ≡ body_after on.given (reading mid (piece ++ (others ++ more)))
regroup old mid bytes piece others more x y on =
    ap (reading old) (append_assoc (bytes ++ piece) others more ∙ append_assoc bytes piece (others ++ more)) ∙ on.same (piece ++ (others ++ more))

-- an error of one piece more is that of all
pub failed-then : (old mid new : Progress) (bytes piece others : List ℕ) (fed : Fed) (error : ChunkError) (x y z : List ℕ) → Feeds old bytes (Ok fed) mid x y → fed.done ≡ false
    → Feeds mid piece (Err error) new y z → Feeds old ((bytes ++ piece) ++ others) (Err error) new x z
failed-then old mid new bytes piece others fed error x y z is e err =
    record { answers = λ more. said more (goes_to old mid bytes fed x y is e) (err.answers (others ++ more)); within = tt; goes_on = tt; finished = tt; failed = err.failed }
  where
    said : (more : List ℕ) → Advances old bytes mid [] x y
        → AnswersErr (reading mid (piece ++ (others ++ more))) error y z ⊎ ((error ≡ NoMemory) × Stops (reading mid (piece ++ (others ++ more))) y z)
        → AnswersErr (reading old (((bytes ++ piece) ++ others) ++ more)) error x z ⊎ ((error ≡ NoMemory) × Stops (reading old (((bytes ++ piece) ++ others) ++ more)) x z)
    said more on (inl shown) = inl (rw (regroup old mid bytes piece others more x y on) (err_after (reading mid (piece ++ (others ++ more))) on.given error x y z shown on.out))
    said more on (inr (want, stop)) =
        inr (
          want,
          record {
            given = on.given ++ stop.given;
            out = stop.out ∙ ap (λ (w : List ℕ). w ++ stop.given) on.out ∙ append_assoc x on.given stop.given;
            next = stop.next;
            front = regroup old mid bytes piece others more x y on ∙ ap (body_after on.given) stop.front ∙ sym (body_after-append on.given stop.given stop.next);
            owes = stop.owes;
          },
        )

-- ---- the pieces, joined

module _ {X : Type 0} (f : X → List ℕ) (xs : List X) (i : ℕ) (x : X) (within : i < length xs) (is : x ≡ get_or xs i x) where
  pub pieces-more : flat_map f (take (i + 1) xs) ≡ flat_map f (take i xs) ++ f x
  pieces-more =
      ap (flat_map f) (take_more xs i x within ∙ ap (λ (y : X). take i xs ++ y ∷ []) (sym is))
      ∙ flat_map-append f (take i xs) (x ∷ []) ∙ ap (λ (y : List ℕ). flat_map f (take i xs) ++ y) (append-nil (f x))

  pub pieces-split : flat_map f xs ≡ (flat_map f (take i xs) ++ f x) ++ flat_map f (drop (i + 1) xs)
  pieces-split =
      ap (flat_map f) (sym (take-append-drop (i + 1) xs)) ∙ flat_map-append f (take (i + 1) xs) (drop (i + 1) xs)
      ∙ ap (λ (y : List ℕ). y ++ flat_map f (drop (i + 1) xs)) pieces-more

-- both counts together are at most the bytes of all pieces
pub both_within : (old mid : Progress) (bytes piece others : List ℕ) (fed next : Fed) (x y : List ℕ) → Feeds old bytes (Ok fed) mid x y → fed.done ≡ false → next.taken ≤ length piece
    → fed.taken + next.taken ≤ length ((bytes ++ piece) ++ others)
both_within old mid bytes piece others fed next x y is e within =
    omega (arith, all_taken (reading old bytes) bytes fed x y is.answers e, within, length-append (bytes ++ piece) others, length-append bytes piece)

pub false_from_not : (b : Bool) → not b ≡ true → b ≡ false
false_from_not true e = absurd cc
false_from_not false e = refl

pub true_from_not : (b : Bool) → not b ≡ false → b ≡ true
true_from_not true e = refl
true_from_not false e = absurd cc
