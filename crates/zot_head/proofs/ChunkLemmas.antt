-- A body in chunks: one chunk after another, with no count of chunks, and that a whole or a broken body
-- stays what it is with more bytes after.
use Rattle.std.proofs.Common.{subst, ◌≡◌, ℕ, zero, suc, ◌+◌, ◌-◌, ◌<◌, ◌≤◌, Bool, true, false, ◌&&◌, cond, eqb, ltb, List, [], ◌∷◌, ◌++◌, length, take, drop, refl, sym, ap, ◌∙◌, arith, inl, inr, Option, Some, None}
use Rattle.std.proofs.lemmas.List.{length-append, length-drop, take-append-le, drop-append-le, drop-drop}
use Rattle.std.proofs.lemmas.Bool.{cases_lt}
use Rattle.std.proofs.lemmas.Bool.Decides.{nat_tests}
use Rattle.zot_head.specs.declared.chunk_error.ChunkError.TheVariants.{Bad, NoMemory, TooLarge, TooLong}
use Rattle.zot_head.specs.Limits.{chunk_line_limit, trailer_limit}
use Rattle.zot_head.specs.Lines.{line_end, section_end, Extent, Ends, Passes, Goes, extent}
use Rattle.zot_head.specs.Chunked.{size_of, Body, Whole, Unfinished, Broken, body_after, from_trailer, from_tail, from_bytes, from_size, from_line, chunks, chunked}
use Rattle.zot_head.proofs.LineLemmas.{line_end_is, section_end_is, IsSettled, extent_stays, extent_within}

-- ---- the count of chunks doesn't matter

-- what two readers say of what is left of n bytes
abbrev Agree : (ℕ → List ℕ → Body) → (ℕ → List ℕ → Body) → ℕ → Type 0
Agree f g n = (room : ℕ) (bytes : List ℕ) → length bytes < n → f room bytes ≡ g room bytes

from_tail_same : (f g : ℕ → List ℕ → Body) (room : ℕ) (bytes : List ℕ) (n : ℕ) → length bytes ≤ n → Agree f g n → from_tail (f room) bytes ≡ from_tail (g room) bytes
from_tail_same f g room [] n le same = refl
from_tail_same f g room (a ∷ []) n le same = refl
from_tail_same f g room (a ∷ b ∷ bytes) n le same = ap (λ (x : Body). cond (eqb a 13 && eqb b 10) x (Broken [] Bad)) (same room bytes (omega arith))

from_bytes_same : (f g : ℕ → List ℕ → Body) (room size : ℕ) (bytes : List ℕ) (n : ℕ) → length bytes ≤ n → Agree f g n → from_bytes (f room) size bytes ≡ from_bytes (g room) size bytes
from_bytes_same f g room size bytes n le same =
    ap (λ (x : Body). cond (ltb (length bytes) size) (Unfinished bytes) (body_after (take size bytes) x)) (from_tail_same f g room (drop size bytes) n (omega (arith, length-drop size bytes)) same)

from_size_same : (f g : ℕ → List ℕ → Body) (room : ℕ) (size : Option ℕ) (bytes : List ℕ) (n : ℕ) → length bytes ≤ n → Agree f g n → from_size f room size bytes ≡ from_size g room size bytes
from_size_same f g room None bytes n le same = refl
from_size_same f g room (Some zero) bytes n le same = refl
from_size_same f g room (Some (suc k)) bytes n le same =
    ap (λ (x : Body). cond (ltb room (suc k)) (Broken [] TooLarge) x) (from_bytes_same f g (room - suc k) (suc k) bytes n le same)

from_line_same : (f g : ℕ → List ℕ → Body) (room : ℕ) (e : Extent) (bytes : List ℕ) (n : ℕ) → length bytes ≤ n → Agree f g n → from_line f room e bytes ≡ from_line g room e bytes
from_line_same f g room (Ends k) bytes n le same = from_size_same f g room (size_of (take k bytes)) (drop k bytes) n (omega (arith, length-drop k bytes)) same
from_line_same f g room Passes bytes n le same = refl
from_line_same f g room Goes bytes n le same = refl

chunks_same : (f g room : ℕ) (bytes : List ℕ) → length bytes < f → length bytes < g → chunks f room bytes ≡ chunks g room bytes
chunks_same zero g room bytes lf lg = absurd (omega arith)
chunks_same (suc f) zero room bytes lf lg = absurd (omega arith)
chunks_same (suc f) (suc g) room bytes lf lg =
    from_line_same (chunks f) (chunks g) room (extent line_end chunk_line_limit bytes) bytes (length bytes) (omega arith)
    (λ room rest lt. chunks_same f g room rest (omega arith) (omega arith))

-- one chunk, and then a body in chunks
pub chunked_is : (room : ℕ) (bytes : List ℕ) → chunked room bytes ≡ from_line chunked room (extent line_end chunk_line_limit bytes) bytes
unfolding chunked
chunked_is room bytes =
    from_line_same (chunks (length bytes)) chunked room (extent line_end chunk_line_limit bytes) bytes (length bytes) (omega arith)
    (λ room rest lt. chunks_same (length bytes) (suc (length rest)) room rest (omega arith) (omega arith))

-- ---- more bytes after

-- the body is whole, or broken
abbrev pub IsDecided : Body → Type 0
IsDecided (Whole body rest) = Unit {0}
IsDecided (Unfinished body) = ⊥
IsDecided (Broken body error) = Unit {0}

-- the same with more bytes after
abbrev pub with_more : List ℕ → Body → Body
with_more more (Whole body rest) = Whole body (rest ++ more)
with_more more (Unfinished body) = Unfinished body
with_more more (Broken body error) = Broken body error

-- what a reader decides stays with these bytes after
abbrev Stays : (List ℕ → Body) → List ℕ → List ℕ → Type 0
Stays next more bytes = IsDecided (next bytes) → next (bytes ++ more) ≡ with_more more (next bytes)

after_more : (given more : List ℕ) (body : Body) → with_more more (body_after given body) ≡ body_after given (with_more more body)
after_more given more (Whole body rest) = refl
after_more given more (Unfinished body) = refl
after_more given more (Broken body error) = refl

decided_after : (given : List ℕ) (body : Body) → IsDecided (body_after given body) → IsDecided body
decided_after given (Whole body rest) d = tt
decided_after given (Unfinished body) d = d
decided_after given (Broken body error) d = tt

from_tail_stays : (next : List ℕ → Body) (more bytes : List ℕ) → ((rest : List ℕ) → length rest < length bytes → Stays next more rest) → Stays (from_tail next) more bytes
from_tail_stays next more [] stays d = absurd d
from_tail_stays next more (a ∷ []) stays d = absurd d
from_tail_stays next more (a ∷ b ∷ bytes) stays d = step (eqb a 13 && eqb b 10) d
  where
    step : (t : Bool) → IsDecided (cond t (next bytes) (Broken [] Bad)) → cond t (next (bytes ++ more)) (Broken [] Bad) ≡ with_more more (cond t (next bytes) (Broken [] Bad))
    step true h = stays bytes (omega arith) h
    step false h = refl

pub from_bytes_stays : (next : List ℕ → Body) (size : ℕ) (more bytes : List ℕ) → ((rest : List ℕ) → length rest < length bytes → Stays next more rest) → Stays (from_bytes next size) more bytes
from_bytes_stays next size more bytes stays d =
    elim (cases_lt (length bytes) size) [
      | inl lt ↦
          let short : ltb (length bytes) size ≡ true = grind (arith, nat_tests) in
          absurd (rw short at d)
      | inr le ↦
          let long : ltb (length bytes) size ≡ false = grind (arith, nat_tests) in
          let longer : ltb (length (bytes ++ more)) size ≡ false = grind (arith, nat_tests, length-append bytes more) in
          let h : IsDecided (body_after (take size bytes) (from_tail next (drop size bytes))) = rw long at d in
          let tail = from_tail_stays next more (drop size bytes) (λ rest lt. stays rest (omega (arith, lt, length-drop size bytes))) (decided_after (take size bytes) (from_tail next (drop size bytes)) h) in
          rw (longer, long, take-append-le size bytes more le, drop-append-le size bytes more le, tail) (sym (after_more (take size bytes) more (from_tail next (drop size bytes))))
    ]

from_trailer_stays : (e : Extent) (more bytes : List ℕ) → ((n : ℕ) → e ≡ Ends n → n ≤ length bytes) → IsDecided (from_trailer e bytes) → from_trailer e (bytes ++ more) ≡ with_more more (from_trailer e bytes)
from_trailer_stays (Ends n) more bytes within d = ap (Whole []) (drop-append-le n bytes more (within n refl))
from_trailer_stays Passes more bytes within d = refl
from_trailer_stays Goes more bytes within d = absurd d

settled_trailer : (e : Extent) (bytes : List ℕ) → IsDecided (from_trailer e bytes) → IsSettled e
settled_trailer (Ends n) bytes d = tt
settled_trailer Passes bytes d = tt
settled_trailer Goes bytes d = d

-- a trailer section of any limit, from a line's start or from within a line
pub trailer_stays : (starts : Bool) (limit : ℕ) (more bytes : List ℕ) → IsDecided (from_trailer (extent (section_end starts) limit bytes) bytes)
    → from_trailer (extent (section_end starts) limit (bytes ++ more)) (bytes ++ more) ≡ with_more more (from_trailer (extent (section_end starts) limit bytes) bytes)
trailer_stays starts limit more bytes d =
    rw (extent_stays (section_end starts) limit bytes more (section_end_is starts) (settled_trailer (extent (section_end starts) limit bytes) bytes d))
    (from_trailer_stays (extent (section_end starts) limit bytes) more bytes (λ n e. (extent_within (section_end starts) limit n bytes (section_end_is starts) e).1) d)

from_size_stays : (next : ℕ → List ℕ → Body) (room : ℕ) (size : Option ℕ) (more bytes : List ℕ) → ((room : ℕ) (rest : List ℕ) → length rest < length bytes → Stays (next room) more rest) → Stays (from_size next room size) more bytes
from_size_stays next room None more bytes stays d = refl
from_size_stays next room (Some zero) more bytes stays d = trailer_stays true trailer_limit more bytes d
from_size_stays next room (Some (suc n)) more bytes stays d = step (ltb room (suc n)) d
  where
    step : (t : Bool) → IsDecided (cond t (Broken [] TooLarge) (from_bytes (next (room - suc n)) (suc n) bytes))
        → cond t (Broken [] TooLarge) (from_bytes (next (room - suc n)) (suc n) (bytes ++ more)) ≡ with_more more (cond t (Broken [] TooLarge) (from_bytes (next (room - suc n)) (suc n) bytes))
    step true h = refl
    step false h = from_bytes_stays (next (room - suc n)) (suc n) more bytes (stays (room - suc n)) h

from_line_stays : (next : ℕ → List ℕ → Body) (room : ℕ) (e : Extent) (more bytes : List ℕ) → ((n : ℕ) → e ≡ Ends n → n ≤ length bytes)
    → ((room : ℕ) (rest : List ℕ) → length rest < length bytes → Stays (next room) more rest) → IsDecided (from_line next room e bytes)
    → from_line next room e (bytes ++ more) ≡ with_more more (from_line next room e bytes)
from_line_stays next room (Ends n) more bytes within stays d =
    rw (take-append-le n bytes more (within n refl), drop-append-le n bytes more (within n refl))
    (from_size_stays next room (size_of (take n bytes)) more (drop n bytes) (λ room rest lt. stays room rest (omega (arith, lt, length-drop n bytes))) d)
from_line_stays next room Passes more bytes within stays d = refl
from_line_stays next room Goes more bytes within stays d = absurd d

settled_line : (next : ℕ → List ℕ → Body) (room : ℕ) (e : Extent) (bytes : List ℕ) → IsDecided (from_line next room e bytes) → IsSettled e
settled_line next room (Ends n) bytes d = tt
settled_line next room Passes bytes d = tt
settled_line next room Goes bytes d = d

chunked_stays_below : (n room : ℕ) (bytes more : List ℕ) → length bytes < n → IsDecided (chunked room bytes) → chunked room (bytes ++ more) ≡ with_more more (chunked room bytes)
chunked_stays_below zero room bytes more lt d = absurd (omega arith)
chunked_stays_below (suc n) room bytes more lt d =
    let e = extent line_end chunk_line_limit bytes in
    let h : IsDecided (from_line chunked room (extent line_end chunk_line_limit bytes) bytes) = rw (chunked_is room bytes) at d in
    let stays = from_line_stays chunked room (extent line_end chunk_line_limit bytes) more bytes
    (λ k is. (extent_within line_end chunk_line_limit k bytes line_end_is is).1)
    (λ room rest short. chunked_stays_below n room rest more (omega arith)) h in
    let same = extent_stays line_end chunk_line_limit bytes more line_end_is (settled_line chunked room (extent line_end chunk_line_limit bytes) bytes h) in
    rw (chunked_is room bytes, chunked_is room (bytes ++ more), same) stays

-- a body that is whole, or broken, stays so with more bytes after
pub chunked_stays : (room : ℕ) (bytes more : List ℕ) → IsDecided (chunked room bytes) → chunked room (bytes ++ more) ≡ with_more more (chunked room bytes)
chunked_stays room bytes more d = chunked_stays_below (suc (length bytes)) room bytes more (omega arith) d

-- ---- what follows a whole body is the end of the bytes

-- the rest is the end of the bytes
abbrev pub Ending : List ℕ → List ℕ → Type 0
Ending bytes rest = (k : ℕ) × (k ≤ length bytes) × (rest ≡ drop k bytes)

ending_drop : (n : ℕ) (bytes rest : List ℕ) → n ≤ length bytes → Ending (drop n bytes) rest → Ending bytes rest
ending_drop n bytes rest le e = (n + e.0, omega (arith, le, e.1, length-drop n bytes), e.2 ∙ drop-drop e.0 n bytes)

-- where the body is whole, what follows is the end of the bytes
abbrev pub LeavesEnding : List ℕ → Body → Type 0
LeavesEnding bytes (Whole body rest) = Ending bytes rest
LeavesEnding bytes (Unfinished body) = Unit {0}
LeavesEnding bytes (Broken body error) = Unit {0}

ends_drop : (n : ℕ) (bytes given : List ℕ) (body : Body) → n ≤ length bytes → LeavesEnding (drop n bytes) body → LeavesEnding bytes (body_after given body)
ends_drop n bytes given (Whole body rest) le e = ending_drop n bytes rest le e
ends_drop n bytes given (Unfinished body) le e = tt
ends_drop n bytes given (Broken body error) le e = tt

from_tail_ends : (next : List ℕ → Body) (bytes : List ℕ) → ((rest : List ℕ) → length rest < length bytes → LeavesEnding rest (next rest)) → LeavesEnding bytes (from_tail next bytes)
from_tail_ends next [] ends = tt
from_tail_ends next (a ∷ []) ends = tt
from_tail_ends next (a ∷ b ∷ bytes) ends = step (eqb a 13 && eqb b 10)
  where
    plain : (body : Body) → LeavesEnding bytes body → LeavesEnding (a ∷ b ∷ bytes) body
    plain (Whole body rest) e = ending_drop 2 (a ∷ b ∷ bytes) rest (omega arith) e
    plain (Unfinished body) e = tt
    plain (Broken body error) e = tt

    step : (t : Bool) → LeavesEnding (a ∷ b ∷ bytes) (cond t (next bytes) (Broken [] Bad))
    step true = plain (next bytes) (ends bytes (omega arith))
    step false = tt

from_bytes_ends : (next : List ℕ → Body) (size : ℕ) (bytes : List ℕ) → ((rest : List ℕ) → length rest < length bytes → LeavesEnding rest (next rest)) → LeavesEnding bytes (from_bytes next size bytes)
from_bytes_ends next size bytes ends =
    elim (cases_lt (length bytes) size) [
      | inl lt ↦
          let short : ltb (length bytes) size ≡ true = grind (arith, nat_tests) in
          rw short tt
      | inr le ↦
          let long : ltb (length bytes) size ≡ false = grind (arith, nat_tests) in
          rw long (ends_drop size bytes (take size bytes) (from_tail next (drop size bytes)) le (from_tail_ends next (drop size bytes) (λ rest lt. ends rest (omega (arith, lt, length-drop size bytes)))))
    ]

from_trailer_ends : (e : Extent) (bytes : List ℕ) → ((n : ℕ) → e ≡ Ends n → n ≤ length bytes) → LeavesEnding bytes (from_trailer e bytes)
from_trailer_ends (Ends n) bytes within = (n, within n refl, refl)
from_trailer_ends Passes bytes within = tt
from_trailer_ends Goes bytes within = tt

from_size_ends : (next : ℕ → List ℕ → Body) (room : ℕ) (size : Option ℕ) (bytes : List ℕ) → ((room : ℕ) (rest : List ℕ) → length rest < length bytes → LeavesEnding rest (next room rest)) → LeavesEnding bytes (from_size next room size bytes)
from_size_ends next room None bytes ends = tt
from_size_ends next room (Some zero) bytes ends =
    from_trailer_ends (extent (section_end true) trailer_limit bytes) bytes (λ n e. (extent_within (section_end true) trailer_limit n bytes (section_end_is true) e).1)
from_size_ends next room (Some (suc n)) bytes ends = step (ltb room (suc n))
  where
    step : (t : Bool) → LeavesEnding bytes (cond t (Broken [] TooLarge) (from_bytes (next (room - suc n)) (suc n) bytes))
    step true = tt
    step false = from_bytes_ends (next (room - suc n)) (suc n) bytes (ends (room - suc n))

from_line_ends : (next : ℕ → List ℕ → Body) (room : ℕ) (e : Extent) (bytes : List ℕ) → ((n : ℕ) → e ≡ Ends n → n ≤ length bytes)
    → ((room : ℕ) (rest : List ℕ) → length rest < length bytes → LeavesEnding rest (next room rest)) → LeavesEnding bytes (from_line next room e bytes)
from_line_ends next room (Ends n) bytes within ends =
    plain (from_size next room (size_of (take n bytes)) (drop n bytes))
    (from_size_ends next room (size_of (take n bytes)) (drop n bytes) (λ room rest lt. ends room rest (omega (arith, lt, length-drop n bytes))))
  where
    plain : (body : Body) → LeavesEnding (drop n bytes) body → LeavesEnding bytes body
    plain (Whole body rest) e = ending_drop n bytes rest (within n refl) e
    plain (Unfinished body) e = tt
    plain (Broken body error) e = tt
from_line_ends next room Passes bytes within ends = tt
from_line_ends next room Goes bytes within ends = tt

chunked_ends_below : (n room : ℕ) (bytes : List ℕ) → length bytes < n → LeavesEnding bytes (chunked room bytes)
chunked_ends_below zero room bytes lt = absurd (omega arith)
chunked_ends_below (suc n) room bytes lt =
    rw (chunked_is room bytes)
    (from_line_ends chunked room (extent line_end chunk_line_limit bytes) bytes
    (λ k is. (extent_within line_end chunk_line_limit k bytes line_end_is is).1)
    (λ room rest short. chunked_ends_below n room rest (omega arith)))

pub chunked_ends : (room : ℕ) (bytes : List ℕ) → LeavesEnding bytes (chunked room bytes)
chunked_ends room bytes = chunked_ends_below (suc (length bytes)) room bytes (omega arith)

-- ---- bytes don't say that memory ran out

-- the error, if there is one, isn't that memory ran out
abbrev pub IsOfBytes : Body → Type 0
IsOfBytes (Broken body NoMemory) = ⊥
IsOfBytes (Broken body Bad) = Unit {0}
IsOfBytes (Broken body TooLong) = Unit {0}
IsOfBytes (Broken body TooLarge) = Unit {0}
IsOfBytes (Whole body rest) = Unit {0}
IsOfBytes (Unfinished body) = Unit {0}

of_bytes-after : (given : List ℕ) (body : Body) → IsOfBytes body → IsOfBytes (body_after given body)
of_bytes-after given (Whole body rest) h = h
of_bytes-after given (Unfinished body) h = h
of_bytes-after given (Broken body Bad) h = h
of_bytes-after given (Broken body TooLong) h = h
of_bytes-after given (Broken body TooLarge) h = h
of_bytes-after given (Broken body NoMemory) h = h

tail_of_bytes : (next : List ℕ → Body) (bytes : List ℕ) → ((rest : List ℕ) → IsOfBytes (next rest)) → IsOfBytes (from_tail next bytes)
tail_of_bytes next [] all = tt
tail_of_bytes next (a ∷ []) all = tt
tail_of_bytes next (a ∷ b ∷ bytes) all = step (eqb a 13 && eqb b 10)
  where
    step : (t : Bool) → IsOfBytes (cond t (next bytes) (Broken [] Bad))
    step true = all bytes
    step false = tt

size_of_bytes : (next : ℕ → List ℕ → Body) (room : ℕ) (size : Option ℕ) (bytes : List ℕ) → ((room : ℕ) (rest : List ℕ) → IsOfBytes (next room rest)) → IsOfBytes (from_size next room size bytes)
size_of_bytes next room None bytes all = tt
size_of_bytes next room (Some zero) bytes all = of_trailer (extent (section_end true) trailer_limit bytes)
  where
    of_trailer : (e : Extent) → IsOfBytes (from_trailer e bytes)
    of_trailer (Ends n) = tt
    of_trailer Passes = tt
    of_trailer Goes = tt
size_of_bytes next room (Some (suc n)) bytes all = step (ltb room (suc n)) (ltb (length bytes) (suc n))
  where
    step : (t u : Bool) → IsOfBytes (cond t (Broken [] TooLarge) (cond u (Unfinished bytes) (body_after (take (suc n) bytes) (from_tail (next (room - suc n)) (drop (suc n) bytes)))))
    step true u = tt
    step false true = tt
    step false false = of_bytes-after (take (suc n) bytes) (from_tail (next (room - suc n)) (drop (suc n) bytes)) (tail_of_bytes (next (room - suc n)) (drop (suc n) bytes) (all (room - suc n)))

line_of_bytes : (next : ℕ → List ℕ → Body) (room : ℕ) (e : Extent) (bytes : List ℕ) → ((room : ℕ) (rest : List ℕ) → IsOfBytes (next room rest)) → IsOfBytes (from_line next room e bytes)
line_of_bytes next room (Ends n) bytes all = size_of_bytes next room (size_of (take n bytes)) (drop n bytes) all
line_of_bytes next room Passes bytes all = tt
line_of_bytes next room Goes bytes all = tt

chunks_of_bytes : (count room : ℕ) (bytes : List ℕ) → IsOfBytes (chunks count room bytes)
chunks_of_bytes zero room bytes = tt
chunks_of_bytes (suc count) room bytes = line_of_bytes (chunks count) room (extent line_end chunk_line_limit bytes) bytes (chunks_of_bytes count)

chunked_of_bytes : (room : ℕ) (bytes : List ℕ) → IsOfBytes (chunked room bytes)
unfolding chunked
chunked_of_bytes room bytes = chunks_of_bytes (suc (length bytes)) room bytes

-- A body in chunks is never broken because memory ran out.
pub broken_of_bytes : (room : ℕ) (bytes body : List ℕ) → chunked room bytes ≡ Broken body NoMemory → ⊥
broken_of_bytes room bytes body e = subst IsOfBytes e (chunked_of_bytes room bytes)
