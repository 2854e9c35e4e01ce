-- A body in chunks is read where chunks, a last line and a trailer section were sent, and only there.
use Rattle.std.proofs.Common.{◌≡◌, ℕ, zero, suc, ◌-◌, ◌<◌, ◌≤◌, Bool, true, false, ◌&&◌, cond, eqb, ltb, List, [], ◌∷◌, ◌++◌, length, take, drop, refl, sym, ap, subst, ◌∙◌, arith, inl, inr, Option, Some, None, append_assoc}
use Rattle.std.specs.List.{flat_map, AllByRecursion}
use Rattle.std.proofs.lemmas.List.{length-append, length-take, length-drop, take_at, drop_at, take-take, take-append-drop}
use Rattle.std.proofs.lemmas.Bool.Decides.{nat_tests}
use Rattle.zot_head.specs.declared.chunk_error.ChunkError.TheVariants.{Bad, TooLarge}
use Rattle.zot_head.specs.Limits.{chunk_line_limit, trailer_limit}
use Rattle.zot_head.specs.Lines.{line_end, section_end, Extent, Ends, Passes, Goes, extent}
use Rattle.zot_head.specs.Chunked.{size_of, Body, Whole, Unfinished, Broken, body_after, from_trailer, from_tail, from_bytes, from_size, from_line, chunked, Chunk, print_chunk, IsSizeLine, IsChunk, IsTrailer, IsSent}
use Rattle.zot_head.proofs.LineLemmas.{chosen, line_end_is, section_end_is, line_end_cut, section_end_cut, extent_within, extent_ends_at, ends_found}
use Rattle.zot_head.proofs.ChunkLemmas.{chunked_is}
use Rattle.zot_head.proofs.ProgressLemmas.{from_bytes-append, from_bytes-zero}

-- ---- what was sent is read

read-line : (room size : ℕ) (line bytes : List ℕ) → IsSizeLine line size → chunked room (line ++ bytes) ≡ from_size chunked room (Some size) bytes
read-line room size line bytes is =
    chunked_is room (line ++ bytes)
    ∙ rw (extent_ends_at line_end chunk_line_limit line bytes line_end_is is.one is.short, take_at line bytes (length line) refl, drop_at line bytes (length line) refl, is.size_is) refl

from_size-some : (room size : ℕ) (bytes : List ℕ) → 0 < size → size ≤ room → from_size chunked room (Some size) bytes ≡ from_bytes (chunked (room - size)) size bytes
from_size-some room zero bytes some le = absurd (omega arith)
from_size-some room (suc k) bytes some le = let within : ltb room (suc k) ≡ false = grind (arith, nat_tests) in rw within refl

read-chunk : (room : ℕ) (c : Chunk) (bytes : List ℕ) → IsChunk c → length c.bytes ≤ room → chunked room (print_chunk c ++ bytes) ≡ body_after c.bytes (chunked (room - length c.bytes) bytes)
read-chunk room c bytes is le =
    let nothing : length c.bytes - length c.bytes ≡ 0 = omega arith in
    let whole : print_chunk c ++ bytes ≡ c.line ++ (c.bytes ++ (13 ∷ 10 ∷ bytes)) = append_assoc c.line (c.bytes ++ 13 ∷ 10 ∷ []) bytes ∙ ap (λ (x : List ℕ). c.line ++ x) (append_assoc c.bytes (13 ∷ 10 ∷ []) bytes) in
    ap (chunked room) whole
    ∙ read-line room (length c.bytes) c.line (c.bytes ++ (13 ∷ 10 ∷ bytes)) is.line
    ∙ from_size-some room (length c.bytes) (c.bytes ++ (13 ∷ 10 ∷ bytes)) is.some le
    ∙ from_bytes-append (chunked (room - length c.bytes)) (length c.bytes) c.bytes (13 ∷ 10 ∷ bytes) (omega arith)
    ∙ ap (body_after c.bytes) (rw nothing (from_bytes-zero (chunked (room - length c.bytes)) (13 ∷ 10 ∷ bytes)))

read-last : (room : ℕ) (last trailer rest : List ℕ) → IsSizeLine last 0 → IsTrailer trailer → chunked room (last ++ (trailer ++ rest)) ≡ Whole [] rest
read-last room last trailer rest line is =
    read-line room 0 last (trailer ++ rest) line
    ∙ rw (extent_ends_at (section_end true) trailer_limit trailer rest (section_end_is true) is.one is.short, drop_at trailer rest (length trailer) refl) refl

read-sent : (room : ℕ) (cs : List Chunk) (last trailer rest : List ℕ) → AllByRecursion IsChunk cs → IsSizeLine last 0 → IsTrailer trailer → length (flat_map (λ c. c.bytes) cs) ≤ room
    → chunked room (flat_map print_chunk cs ++ (last ++ (trailer ++ rest))) ≡ Whole (flat_map (λ c. c.bytes) cs) rest
read-sent room [] last trailer rest each line is le = read-last room last trailer rest line is
read-sent room (c ∷ cs) last trailer rest each line is le =
    let others = flat_map (λ (d : Chunk). d.bytes) cs in
    let parts = length-append c.bytes (flat_map (λ d. d.bytes) cs) in
    ap (chunked room) (append_assoc (print_chunk c) (flat_map print_chunk cs) (last ++ (trailer ++ rest)))
    ∙ read-chunk room c (flat_map print_chunk cs ++ (last ++ (trailer ++ rest))) each.0 (omega (arith, parts, le))
    ∙ ap (body_after c.bytes) (read-sent (room - length c.bytes) cs last trailer rest each.1 line is (omega (arith, parts, le)))

-- What was sent as a body in chunks is read as that body, whatever follows.
pub sent_is_read : (room : ℕ) (text body rest : List ℕ) → IsSent text body → length body ≤ room → chunked room (text ++ rest) ≡ Whole body rest
sent_is_read room text body rest is le =
    let whole : text ++ rest ≡ flat_map print_chunk is.chunks ++ (is.last ++ (is.trailer ++ rest)) =
    ap (λ (x : List ℕ). x ++ rest) is.text_is ∙ append_assoc (flat_map print_chunk is.chunks) (is.last ++ is.trailer) rest
    ∙ ap (λ (x : List ℕ). flat_map print_chunk is.chunks ++ x) (append_assoc is.last is.trailer rest) in
    let short : length (flat_map (λ c. c.bytes) is.chunks) ≤ room = omega (arith, le, ap length is.body_is) in
    ap (chunked room) whole ∙ read-sent room is.chunks is.last is.trailer rest is.each is.last_is is.trailer_is short ∙ ap (λ (b : List ℕ). Whole b rest) (sym is.body_is)

-- ---- only what was sent is read

-- the bytes are a body as it is sent, and then the rest
pub record Reads (room : ℕ) (bytes body rest : List ℕ) : Type 0 where
  pub text : List ℕ
  pub sent : IsSent text body
  pub short : length body ≤ room
  pub whole : bytes ≡ text ++ rest

-- the line at the front, cut off
size_line : (n size : ℕ) (bytes : List ℕ) → extent line_end chunk_line_limit bytes ≡ Ends n → size_of (take n bytes) ≡ Some size → IsSizeLine (take n bytes) size
size_line n size bytes e s =
    let w = extent_within line_end chunk_line_limit n bytes line_end_is e in
    let len : length (take n bytes) ≡ n = omega (arith, w.1, length-take n bytes) in
    let cut : line_end (take n bytes) ≡ Some n =
    ap line_end (sym (take-take n chunk_line_limit bytes w.2)) ∙ line_end_cut (take chunk_line_limit bytes) n (ends_found line_end chunk_line_limit n bytes e) in
    record { one = cut ∙ ap Some (sym len); short = omega (arith, len, w.2); size_is = s }

trailer_cut : (n : ℕ) (bytes : List ℕ) → extent (section_end true) trailer_limit bytes ≡ Ends n → IsTrailer (take n bytes)
trailer_cut n bytes e =
    let w = extent_within (section_end true) trailer_limit n bytes (section_end_is true) e in
    let len : length (take n bytes) ≡ n = omega (arith, w.1, length-take n bytes) in
    let cut : section_end true (take n bytes) ≡ Some n =
    ap (section_end true) (sym (take-take n trailer_limit bytes w.2)) ∙ section_end_cut true (take trailer_limit bytes) n (ends_found (section_end true) trailer_limit n bytes e) in
    record { one = cut ∙ ap Some (sym len); short = omega (arith, len, w.2) }

-- what a reader of what is left answers stands for what was sent
abbrev Sound : ℕ → Type 0
Sound n = (room : ℕ) (bytes body rest : List ℕ) → length bytes < n → chunked room bytes ≡ Whole body rest → Reads room bytes body rest

whole_parts : (given : List ℕ) (b : Body) (body rest : List ℕ) → body_after given b ≡ Whole body rest → (more : List ℕ) × (b ≡ Whole more rest) × (body ≡ given ++ more)
whole_parts given (Whole more last) body rest e = (more, cc, cc)
whole_parts given (Unfinished more) body rest e = absurd cc
whole_parts given (Broken more error) body rest e = absurd cc

-- after a chunk's bytes stand CR LF, and the rest of the body
tail_parts : (next : List ℕ → Body) (bytes body rest : List ℕ) → from_tail next bytes ≡ Whole body rest → (after : List ℕ) × (bytes ≡ 13 ∷ 10 ∷ after) × (next after ≡ Whole body rest)
tail_parts next [] body rest e = absurd cc
tail_parts next (a ∷ []) body rest e = absurd cc
tail_parts next (a ∷ b ∷ bytes) body rest e =
    elim (chosen (eqb a 13 && eqb b 10) (next bytes) (Broken [] Bad) (Whole body rest) e) [
      | inl p ↦
          let feed = both (eqb a 13) (eqb b 10) p.0 in
          let first : a ≡ 13 = grind (arith, nat_tests) in
          let second : b ≡ 10 = grind (arith, nat_tests) in
          (bytes, rw (first, second) refl, p.1)
      | inr p ↦ absurd cc
    ]
  where
    both : (s t : Bool) → (s && t) ≡ true → (s ≡ true) × (t ≡ true)
    both true t e = (refl, e)
    both false t e = absurd cc

-- a last line and a trailer section
reads-last : (room n m : ℕ) (bytes body rest : List ℕ) → extent line_end chunk_line_limit bytes ≡ Ends n → size_of (take n bytes) ≡ Some 0
    → extent (section_end true) trailer_limit (drop n bytes) ≡ Ends m → Whole [] (drop m (drop n bytes)) ≡ Whole body rest → Reads room bytes body rest
reads-last room n m bytes body rest e s t w =
    let nothing : body ≡ [] = cc in
    let all_after : drop m (drop n bytes) ≡ rest = cc in
    record {
      text = take n bytes ++ take m (drop n bytes);
      sent = record {
        chunks = [];
        last = take n bytes;
        trailer = take m (drop n bytes);
        each = tt;
        last_is = size_line n 0 bytes e s;
        trailer_is = trailer_cut m (drop n bytes) t;
        text_is = refl;
        body_is = nothing;
      };
      short = omega (arith, ap length nothing);
      whole = sym (take-append-drop n bytes) ∙ ap (λ (x : List ℕ). take n bytes ++ x) (sym (take-append-drop m (drop n bytes)) ∙ ap (λ (x : List ℕ). take m (drop n bytes) ++ x) all_after)
          ∙ sym (append_assoc (take n bytes) (take m (drop n bytes)) rest);
    }

-- a chunk, and the rest of the body
reads-chunk : (room n size : ℕ) (bytes after more body rest : List ℕ) → extent line_end chunk_line_limit bytes ≡ Ends n → size_of (take n bytes) ≡ Some size → 0 < size → size ≤ room
    → size ≤ length (drop n bytes) → drop size (drop n bytes) ≡ 13 ∷ 10 ∷ after → body ≡ take size (drop n bytes) ++ more → Reads (room - size) after more rest → Reads room bytes body rest
reads-chunk room n size bytes after more body rest e s some le long tail is on =
    let data_len : length (take size (drop n bytes)) ≡ size = omega (arith, long, length-take size (drop n bytes)) in
    let c : Chunk = record { line = take n bytes; bytes = take size (drop n bytes) } in
    let line : IsSizeLine (take n bytes) (length (take size (drop n bytes))) = subst (IsSizeLine (take n bytes)) (sym data_len) (size_line n size bytes e s) in
    let cut : bytes ≡ take n bytes ++ (take size (drop n bytes) ++ (13 ∷ 10 ∷ after)) =
    sym (take-append-drop n bytes) ∙ ap (λ (x : List ℕ). take n bytes ++ x) (sym (take-append-drop size (drop n bytes)) ∙ ap (λ (x : List ℕ). take size (drop n bytes) ++ x) tail) in
    record {
      text = print_chunk (record { line = take n bytes; bytes = take size (drop n bytes) }) ++ on.text;
      sent = record {
        chunks = record { line = take n bytes; bytes = take size (drop n bytes) } ∷ on.sent.chunks;
        last = on.sent.last;
        trailer = on.sent.trailer;
        each = (record { line = line; some = omega (arith, data_len, some) }, on.sent.each);
        last_is = on.sent.last_is;
        trailer_is = on.sent.trailer_is;
        text_is = ap (λ (x : List ℕ). (take n bytes ++ (take size (drop n bytes) ++ 13 ∷ 10 ∷ [])) ++ x) on.sent.text_is
            ∙ sym (append_assoc (take n bytes ++ (take size (drop n bytes) ++ 13 ∷ 10 ∷ [])) (flat_map print_chunk on.sent.chunks) (on.sent.last ++ on.sent.trailer));
        body_is = is ∙ ap (λ (x : List ℕ). take size (drop n bytes) ++ x) on.sent.body_is;
      };
      short = omega (arith, ap length is, length-append (take size (drop n bytes)) more, data_len, on.short, le);
      whole = cut ∙ ap (λ (x : List ℕ). take n bytes ++ (take size (drop n bytes) ++ (13 ∷ 10 ∷ x))) on.whole ∙ regroup (take n bytes) (take size (drop n bytes)) on.text rest;
    }
  where
    regroup : (a b t r : List ℕ) → a ++ (b ++ (13 ∷ 10 ∷ (t ++ r))) ≡ ((a ++ (b ++ 13 ∷ 10 ∷ [])) ++ t) ++ r
    regroup a b t r =
        sym (append_assoc (a ++ (b ++ 13 ∷ 10 ∷ [])) t r ∙ append_assoc a (b ++ 13 ∷ 10 ∷ []) (t ++ r) ∙ ap (λ (x : List ℕ). a ++ x) (append_assoc b (13 ∷ 10 ∷ []) (t ++ r)))

-- the step: one line at the front, and what stands after it
reads-step : (n room : ℕ) (bytes body rest : List ℕ) → length bytes < suc n → Sound n → from_line chunked room (extent line_end chunk_line_limit bytes) bytes ≡ Whole body rest → Reads room bytes body rest
reads-step n room bytes body rest lt sound h = by_line (extent line_end chunk_line_limit bytes) refl h
  where
    by_trailer : (k : ℕ) → extent line_end chunk_line_limit bytes ≡ Ends k → size_of (take k bytes) ≡ Some 0 → (e : Extent) → extent (section_end true) trailer_limit (drop k bytes) ≡ e
        → from_trailer e (drop k bytes) ≡ Whole body rest → Reads room bytes body rest
    by_trailer k q s (Ends m) t w = reads-last room k m bytes body rest q s t w
    by_trailer k q s Passes t w = absurd cc
    by_trailer k q s Goes t w = absurd cc

    by_bytes : (k j : ℕ) → extent line_end chunk_line_limit bytes ≡ Ends k → size_of (take k bytes) ≡ Some (suc j) → (t u : Bool) → ltb room (suc j) ≡ t → ltb (length (drop k bytes)) (suc j) ≡ u
        → cond t (Broken [] TooLarge) (cond u (Unfinished (drop k bytes)) (body_after (take (suc j) (drop k bytes)) (from_tail (chunked (room - suc j)) (drop (suc j) (drop k bytes))))) ≡ Whole body rest
        → Reads room bytes body rest
    by_bytes k j q s true u a b w = absurd cc
    by_bytes k j q s false true a b w = absurd cc
    by_bytes k j q s false false a b w =
        let le : suc j ≤ room = grind (arith, nat_tests) in
        let long : suc j ≤ length (drop k bytes) = grind (arith, nat_tests) in
        let parts = whole_parts (take (suc j) (drop k bytes)) (from_tail (chunked (room - suc j)) (drop (suc j) (drop k bytes))) body rest w in
        let tail = tail_parts (chunked (room - suc j)) (drop (suc j) (drop k bytes)) parts.0 rest parts.1 in
        let shorter : length tail.0 < n = omega (arith, lt, ap length tail.1, length-drop (suc j) (drop k bytes), length-drop k bytes) in
        reads-chunk room k (suc j) bytes tail.0 parts.0 body rest q s (omega arith) le long tail.1 parts.2 (sound (room - suc j) tail.0 parts.0 rest shorter tail.2)

    by_size : (k : ℕ) → extent line_end chunk_line_limit bytes ≡ Ends k → (s : Option ℕ) → size_of (take k bytes) ≡ s → from_size chunked room s (drop k bytes) ≡ Whole body rest → Reads room bytes body rest
    by_size k q None s w = absurd cc
    by_size k q (Some zero) s w = by_trailer k q s (extent (section_end true) trailer_limit (drop k bytes)) refl w
    by_size k q (Some (suc j)) s w = by_bytes k j q s (ltb room (suc j)) (ltb (length (drop k bytes)) (suc j)) refl refl w

    by_line : (e : Extent) → extent line_end chunk_line_limit bytes ≡ e → from_line chunked room e bytes ≡ Whole body rest → Reads room bytes body rest
    by_line (Ends k) q w = by_size k q (size_of (take k bytes)) refl w
    by_line Passes q w = absurd cc
    by_line Goes q w = absurd cc

sound_below : (n : ℕ) → Sound n
sound_below zero room bytes body rest lt h = absurd (omega arith)
sound_below (suc n) room bytes body rest lt h = reads-step n room bytes body rest lt (sound_below n) (sym (chunked_is room bytes) ∙ h)

-- What is read as a body in chunks was sent as one, within the room.
pub only_sent_is_read : (room : ℕ) (bytes body rest : List ℕ) → chunked room bytes ≡ Whole body rest → (text : List ℕ) × IsSent text body × (length body ≤ room) × (bytes ≡ text ++ rest)
only_sent_is_read room bytes body rest h =
    let is = sound_below (suc (length bytes)) room bytes body rest (omega arith) h in
    (is.text, is.sent, is.short, is.whole)
