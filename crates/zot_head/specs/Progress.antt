-- What is left of a body in chunks when some of its bytes have come.
use Rattle.std.specs.Prelude.{◌≡◌, ◌⊎◌, ℕ, suc, ◌<◌, ◌≤◌, Bool, true, false, List, [], ◌∷◌, ◌++◌, length, drop, if◌then◌else◌, ◌==◌, Option, Some, None, option_map, Result, Ok, Err, IfOk, IfErr, IsTrue}
use Rattle.httparse.specs.Ascii.{line_feed}
use Rattle.zot_head.specs.declared.chunk_error.ChunkError.{ChunkError}
use Rattle.zot_head.specs.declared.chunk_error.ChunkError.TheVariants.{NoMemory}
use Rattle.zot_head.specs.declared.fed.Fed.{Fed}
use Rattle.zot_head.specs.declared.stage.LineSoFar.{LineSoFar}
use Rattle.zot_head.specs.declared.stage.LineSoFar.TheVariants.{Start, Return, Inside}
use Rattle.zot_head.specs.declared.stage.Stage.{Stage}
use Rattle.zot_head.specs.declared.stage.Stage.TheVariants.{Line, Bytes, Tail, Trailer, Done, Failed}
use Rattle.zot_head.specs.Chunked.{Body, Whole, Unfinished, Broken, body_after, from_trailer, from_tail, from_bytes, chunked}
use Rattle.zot_head.specs.Limits.{chunk_line_limit}
use Rattle.zot_head.specs.Lines.{line_end, section_end, extent}

-- the bytes through the first empty line, where the bytes so far of a line are a CR
abbrev pub return_end : List ℕ → Option ℕ
return_end [] = None
return_end (b ∷ bytes) = if b == line_feed then Some 1 else option_map suc (section_end false bytes)

-- the bytes through the first empty line, where so much of a line has come
abbrev pub trailer_end : LineSoFar → List ℕ → Option ℕ
trailer_end Start bytes = section_end true bytes
trailer_end Return bytes = return_end bytes
trailer_end Inside bytes = section_end false bytes

-- the same after one more byte: the section is over, or so much of a line has come then
abbrev pub trailer_end_after : Option LineSoFar → List ℕ → Option ℕ
trailer_end_after None bytes = Some 1
trailer_end_after (Some so_far) bytes = option_map suc (trailer_end so_far bytes)

-- where in a body the next byte stands, how many bytes the body may have more, and the bytes so far of a chunk's line
pub record Progress : Type 0 where
  pub stage : Stage
  pub room : ℕ
  pub line : List ℕ

-- what the bytes that come next say of the body, at that stage
abbrev pub reading_at : Stage → ℕ → List ℕ → List ℕ → Body
reading_at Line room line bytes = chunked room (line ++ bytes)
reading_at (Bytes size) room line bytes = from_bytes (chunked room) size bytes
reading_at (Tail None) room line bytes = from_tail (chunked room) bytes
reading_at (Tail (Some first)) room line bytes = from_tail (chunked room) (first ∷ bytes)
reading_at (Trailer so_far left) room line bytes = from_trailer (extent (trailer_end so_far) left bytes) bytes
reading_at Done room line bytes = Whole [] bytes
reading_at (Failed error) room line bytes = Broken [] error

-- what the bytes that come next say of the body
abbrev pub reading : Progress → List ℕ → Body
reading p bytes = reading_at p.stage p.room p.line bytes

-- what holds at a stage of the bytes so far of a chunk's line, and of the counts
abbrev pub IsSound : Stage → List ℕ → Type 0
IsSound Line line = (line_end line ≡ None) × (length line < chunk_line_limit)
IsSound (Bytes size) line = (0 < size) × (line ≡ [])
IsSound (Tail first) line = line ≡ []
IsSound (Trailer so_far left) line = 0 < left
IsSound Done line = Unit {0}
IsSound (Failed error) line = Unit {0}

-- whether the body isn't over at that stage
abbrev pub goes_on : Stage → Bool
goes_on Line = true
goes_on (Bytes size) = true
goes_on (Tail first) = true
goes_on (Trailer so_far left) = true
goes_on Done = false
goes_on (Failed error) = false

-- The bytes lead on: whatever comes after them, what they say of the body is what was given out, and then
-- what the rest of them says from the new place on.
pub record Advances (old : Progress) (bytes : List ℕ) (new : Progress) (rest before after : List ℕ) : Type 0 where
  pub given : List ℕ
  pub out : after ≡ before ++ given
  pub same : (more : List ℕ) → reading old (bytes ++ more) ≡ body_after given (reading new (rest ++ more))

-- what a call answers that isn't an error, and gives out, where the piece says that of the body
abbrev pub AnswersOk : Body → List ℕ → Fed → List ℕ → List ℕ → Type 0
AnswersOk (Whole given rest) piece fed before after =
    (fed.done ≡ true) × (fed.taken ≤ length piece) × (rest ≡ drop fed.taken piece) × (after ≡ before ++ given)
AnswersOk (Unfinished given) piece fed before after =
    (fed.done ≡ false) × (fed.taken ≡ length piece) × (after ≡ before ++ given)
AnswersOk (Broken given error) piece fed before after = ⊥

-- the error that a call answers, and what it gives out before
abbrev pub AnswersErr : Body → ChunkError → List ℕ → List ℕ → Type 0
AnswersErr (Whole given rest) error before after = ⊥
AnswersErr (Unfinished given) error before after = ⊥
AnswersErr (Broken given broken) error before after = (error ≡ broken) × (after ≡ before ++ given)

-- the body's bytes that are seen
abbrev pub seen : Body → List ℕ
seen (Whole body rest) = body
seen (Unfinished body) = body
seen (Broken body error) = body

-- memory ran out before one of the body's bytes, after those that were given out
pub record Stops (body : Body) (before after : List ℕ) : Type 0 where
  pub given : List ℕ
  pub out : after ≡ before ++ given
  pub next : Body
  pub front : body ≡ body_after given next
  pub owes : 0 < length (seen next)

-- What a call answers and gives out. An error is the one that the piece shows, whatever comes after it, or
-- memory ran out.
abbrev pub Answers : Progress → List ℕ → Result Fed ChunkError → List ℕ → List ℕ → Type 0
Answers old piece (Ok fed) before after = AnswersOk (reading old piece) piece fed before after
Answers old piece (Err error) before after =
    (more : List ℕ) → AnswersErr (reading old (piece ++ more)) error before after ⊎ ((error ≡ NoMemory) × Stops (reading old (piece ++ more)) before after)

-- What a call over a piece answers and gives out, and how it leaves the reader. What comes after the piece is
-- read as if all had come at once; after the body nothing is taken, and after an error it comes again.
pub record Feeds (old : Progress) (piece : List ℕ) (result : Result Fed ChunkError) (new : Progress) (before after : List ℕ) : Type 0 where
  pub answers : Answers old piece result before after
  pub within : IfOk result (λ fed. fed.taken ≤ length piece)
  pub goes_on : IfOk result (λ fed. Advances old piece new (drop fed.taken piece) before after)
  pub finished : IfOk result (λ fed. IsTrue fed.done → (bytes : List ℕ) → reading new bytes ≡ Whole [] bytes)
  pub failed : IfErr result (λ error. (bytes : List ℕ) → reading new bytes ≡ Broken [] error)

-- what a step within a call answers: it took so many bytes of the piece, at least one, and they lead on; or
-- memory ran out before the first of the body's bytes that the piece shows
abbrev pub Steps : {E : Type 0} → Progress → List ℕ → Result ℕ E → Progress → List ℕ → List ℕ → Type 0
Steps old piece (Ok n) new before after = (0 < n) × (n ≤ length piece) × Advances old piece new (drop n piece) before after
Steps old piece (Err error) new before after =
    (new.stage ≡ Failed NoMemory) × (after ≡ before) × ((more : List ℕ) → 0 < length (seen (reading old (piece ++ more))))
