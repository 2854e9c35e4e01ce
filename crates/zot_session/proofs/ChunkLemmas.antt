-- A body in chunks, piece by piece.
use Rattle.std.proofs.Common.{◌≡◌, ◌⊎◌, ℕ, true, false, List, [], ◌++◌, length, take, drop, Option, inl, inr, sym, ap, ◌∙◌, arith}
use Rattle.std.specs.Prelude.{Some}
use Rattle.std.proofs.lemmas.List.{append_assoc, append-nil, drop_all}
use Rattle.zot_head.specs.declared.chunk_error.ChunkError.{ChunkError}
use Rattle.zot_head.specs.declared.chunk_error.ChunkError.TheVariants as errors
use Rattle.zot_head.specs.declared.fed.Fed.{Fed}
use Rattle.zot_head.specs.declared.framing.Framing.TheVariants as framings
use Rattle.zot_head.specs.Chunked.{Body as ChunkBody, Broken, Unfinished, Whole, body_after, chunked}
use Rattle.zot_head.specs.Front.{Refusal, refusal_of, with_chunks}
use Rattle.zot_head.specs.Front as fronts
use Rattle.zot_head.specs.Progress.{Advances, AnswersErr, AnswersOk, Progress, Stops, reading}
use Rattle.zot_head.proofs.ProgressLemmas.{body_after-append, body_after-nil}
use Rattle.zot_model.specs.declared.reply.Reply.{Reply}
use Rattle.zot_model.specs.Valid.{body_limit}
use Rattle.zot_session.specs.Messages.{refused_as}
use Rattle.zot_session.specs.Receiving.{BodyCame, BodyIs, BodyRefused, Came, broken_as}
use Rattle.zot_session.specs.Waiting.{KeepsRoom, Waiting, held}
use Rattle.zot_session.proofs.ReceiveLemmas.{came_pass, passes}
use Rattle.zot_session.proofs.RoomLemmas.{room_pass}

-- what was passed over of a body in chunks gave out these bytes, and the reader goes on after it
abbrev pub ReadSoFar : List ℕ → List ℕ → Progress → Type 0
ReadSoFar passed given reader = (more : List ℕ) → chunked body_limit (passed ++ more) ≡ body_after given (reading reader more)

-- nothing was passed over yet
pub read_none : (reader : Progress) → ((bytes : List ℕ) → reading reader bytes ≡ chunked 67_108_864 bytes) → ReadSoFar [] [] reader
unfolding body_limit
read_none reader h = λ more. sym (h more) ∙ sym (body_after-nil (reading reader more))

-- a piece more, all of which belongs to the body
pub read_more : (passed piece : List ℕ) (old new : Progress) (taken : ℕ) (before after : List ℕ) → ReadSoFar passed before old → Advances old piece new (drop taken piece) before after → taken ≡ length piece
    → ReadSoFar (passed ++ piece) after new
read_more passed piece old new taken before after h a all = λ more.
    let none : drop taken piece ≡ [] = drop_all taken piece (omega arith) in
    let same : reading old (piece ++ more) ≡ body_after a.given (reading new more) = a.same more ∙ ap (λ r. body_after a.given (reading new (r ++ more))) none in
    ap (chunked body_limit) (append_assoc passed piece more) ∙ h (piece ++ more) ∙ ap (body_after before) same ∙ sym (body_after-append before a.given (reading new more)) ∙ ap (λ b. body_after b (reading new more)) (sym a.out)

-- the body is whole
whole_by : (read : ChunkBody) (piece : List ℕ) (fed : Fed) (before after : List ℕ) → AnswersOk read piece fed before after → fed.done ≡ true → body_after before read ≡ Whole after (drop fed.taken piece)
whole_by (Whole given rest) piece fed before after h done = cc (h.2, h.3)
whole_by (Unfinished given) piece fed before after h done = absurd (cc (h.0, done))
whole_by (Broken given error) piece fed before after h done = absurd h

-- the body isn't whole yet
unfinished_by : (read : ChunkBody) (piece : List ℕ) (fed : Fed) (before after : List ℕ) → AnswersOk read piece fed before after → fed.done ≡ false → (body_after before read ≡ Unfinished after) × (fed.taken ≡ length piece)
unfinished_by (Whole given rest) piece fed before after h done = absurd (cc (h.0, done))
unfinished_by (Unfinished given) piece fed before after h done = (cc h.2, h.1)
unfinished_by (Broken given error) piece fed before after h done = absurd h

-- the body is broken
broken_by : (read : ChunkBody) (error : ChunkError) (before after : List ℕ) → AnswersErr read error before after → body_after before read ≡ Broken after error
broken_by (Whole given rest) error before after h = absurd h
broken_by (Unfinished given) error before after h = absurd h
broken_by (Broken given broken) error before after h = cc (h.0, h.1)

-- all that came, read as a body in chunks
read_all : (was mid : Waiting) (passed came given : List ℕ) (reader : Progress) → was.bytes ++ came ≡ passed ++ mid.bytes → ReadSoFar passed given reader
    → chunked body_limit (was.bytes ++ came) ≡ body_after given (reading reader mid.bytes)
read_all was mid passed came given reader split h = ap (chunked body_limit) split ∙ h mid.bytes

-- the last piece was taken
pub chunks_whole : {was mid : Waiting} {passed came : List ℕ} {left left' : Option (List ℕ)} (is : Waiting) (before after : List ℕ) (reader : Progress) (fed : Fed) → Came was mid passed came left left' → ReadSoFar passed before reader
    → AnswersOk (reading reader mid.bytes) mid.bytes fed before after → fed.done ≡ true → is.bytes ≡ drop fed.taken mid.bytes → is.taken ≡ mid.taken → BodyCame after framings.Chunked was is left left'
chunks_whole {was} {mid} {passed} {came} is before after reader fed c h a done rest taken =
    let all = read_all was mid passed came before reader c.bytes h ∙ whole_by (reading reader mid.bytes) mid.bytes fed before after a done ∙ ap (Whole after) (sym rest) in record {
      passed = passed ++ take fed.taken mid.bytes;
      came = came;
      pieces = came_pass is (take fed.taken mid.bytes) c (passes mid is fed.taken rest) taken;
      whole = λ head. ap (with_chunks head) all;
    }

-- A piece was read that doesn't end the body: all that waited was passed over.
pub record Passes (was is : Waiting) (passed came piece : List ℕ) (taken : ℕ) (left left' : Option (List ℕ)) : Type 0 where
  pub pieces : Came was is (passed ++ piece) came left left'
  pub room : KeepsRoom was is
  pub partial : BodyIs framings.Chunked (was.bytes ++ came) (λ head. fronts.Partial)
  pub none : is.bytes ≡ []
  pub all : taken ≡ length piece

pub chunks_passed : {was mid : Waiting} {passed came : List ℕ} {left left' : Option (List ℕ)} (is : Waiting) (before after : List ℕ) (reader : Progress) (fed : Fed) → Came was mid passed came left left' → KeepsRoom was mid
    → ReadSoFar passed before reader → AnswersOk (reading reader mid.bytes) mid.bytes fed before after → fed.done ≡ false → is.bytes ≡ drop fed.taken mid.bytes → is.taken ≡ mid.taken → held is ≡ held mid
    → Passes was is passed came mid.bytes fed.taken left left'
chunks_passed {was} {mid} {passed} {came} is before after reader fed c room h a done rest taken same =
    let u = unfinished_by (reading reader mid.bytes) mid.bytes fed before after a done in
    let every = u.1 in
    let all = read_all was mid passed came before reader c.bytes h ∙ u.0 in
    let nothing : is.bytes ≡ [] = rest ∙ drop_all fed.taken mid.bytes (omega arith) in record {
      pieces = came_pass is mid.bytes c (sym (append-nil mid.bytes) ∙ ap (λ b. mid.bytes ++ b) (sym nothing)) taken;
      room = room_pass is fed.taken room rest same;
      partial = λ head. ap (with_chunks head) all;
      none = nothing;
      all = every;
    }

-- the body is broken, or memory ran out
broken_front : (read : ChunkBody) (error : ChunkError) (was mid : Waiting) (passed came before after : List ℕ) (reader : Progress) → was.bytes ++ came ≡ passed ++ mid.bytes → ReadSoFar passed before reader
    → reading reader mid.bytes ≡ read → AnswersErr read error before after → BodyIs framings.Chunked (was.bytes ++ came) (λ head. fronts.Refused (refusal_of error))
broken_front read error was mid passed came before after reader split h is a =
    let all = read_all was mid passed came before reader split h ∙ ap (body_after before) is ∙ broken_by read error before after a in
    λ head. ap (with_chunks head) all

-- the reply to a message whose body is broken is the refusal of its cause
broken_reply : (error : ChunkError) (reply : Reply) → broken_as error ≡ Some reply → (reply ≡ refused_as (refusal_of error)) × (error ≡ errors.NoMemory → ⊥)
broken_reply errors.Bad reply is = (cc is, λ e. cc e)
broken_reply errors.TooLong reply is = (cc is, λ e. cc e)
broken_reply errors.TooLarge reply is = (cc is, λ e. cc e)
broken_reply errors.NoMemory reply is = (absurd (cc is), λ e. cc is)

pub chunks_broken : {was mid : Waiting} {passed came : List ℕ} {left left' : Option (List ℕ)} (error : ChunkError) (reply : Reply) (before after : List ℕ) (reader : Progress) → Came was mid passed came left left' → ReadSoFar passed before reader
    → ((more : List ℕ) → AnswersErr (reading reader (mid.bytes ++ more)) error before after ⊎ ((error ≡ errors.NoMemory) × Stops (reading reader (mid.bytes ++ more)) before after))
    → broken_as error ≡ Some reply → BodyRefused reply framings.Chunked was mid left left'
chunks_broken {was} {mid} {passed} {came} error reply before after reader c h a is =
    let by = broken_reply error reply is in
    record { passed = passed; came = came; pieces = c; why = refusal_of error; refused = front (a []); reply_is = by.0 }
  where
    front : AnswersErr (reading reader (mid.bytes ++ [])) error before after ⊎ ((error ≡ errors.NoMemory) × Stops (reading reader (mid.bytes ++ [])) before after)
        → BodyIs framings.Chunked (was.bytes ++ came) (λ head. fronts.Refused (refusal_of error))
    front (inl k) = broken_front (reading reader (mid.bytes ++ [])) error was mid passed came before after reader c.bytes h (ap (reading reader) (sym (append-nil mid.bytes))) k
    front (inr k) = absurd ((broken_reply error reply is).1 k.0)
