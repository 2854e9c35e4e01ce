-- Each call on an upload has one answer, and leaves other uploads as they were.
use Rattle.std.proofs.Common.{◌≡◌, ◌≢◌, ◌⊎◌, inl, inr, ℕ, ◌+◌, ◌≤◌, ◌<◌, nat_le, Bool, true, false, ◌||◌, cond, List, [], ◌++◌, length, Option, Some, None, refl, sym, ap, ◌∙◌, arith}
use Rattle.std.specs.Cmp.{nat_cmp_total}
use Rattle.std.specs.FinMap as map
use Rattle.std.specs.FinMap.{len-insert}
use Rattle.std.proofs.lemmas.Bool.Decides.{nat_tests}
use Rattle.std.proofs.lemmas.Slice.Eq.{bytes_eq-Decides}
use Rattle.zot_digest.specs.Digest.{IsSound, is_sound}
use Rattle.zot_model.specs.declared.span.Span.{Span}
use Rattle.zot_maps.proofs.Maps.{get_elsewhere, number_order, removed_elsewhere, removed_here}
use Rattle.zot_uploads.specs.Cases.{GoesOn, HasRoom, KeepsLimit, Refuses, RefusesWhole}
use Rattle.zot_model.specs.Pieces.{goes_on, keeps_limit}
use Rattle.zot_model.specs.Uploads.{NumberMap, OpenUpload, UploadTable, last_id, longer, open_limit, put_after, with_new, with_piece, without}
use Rattle.zot_uploads.specs.declared.upload_error.UploadError.{UploadError}
use Rattle.zot_uploads.specs.declared.upload_error.UploadError.TheVariants as errors

-- a fact holds or it doesn't
abbrev pub Decided : Type 0 → Type 0
Decided P = P ⊎ (¬ P)

is_true : (b : Bool) → Decided (b ≡ true)
is_true true = inl refl
is_true false = inr (λ h. cc h)

goes : (range : Option Span) (upload : OpenUpload) (piece : List ℕ) → Decided (GoesOn range upload piece)
goes range upload piece = is_true (goes_on range (length upload.bytes) (length piece))

keeps : (upload : OpenUpload) (piece : List ℕ) → Decided (KeepsLimit upload piece)
keeps upload piece = is_true (keeps_limit upload piece)

sound_at : (digest bytes : List ℕ) (b : Bool) → is_sound digest bytes ≡ b → Decided (IsSound digest bytes)
sound_at digest bytes true e = inl ((bytes_eq-Decides digest _).0 e)
sound_at digest bytes false e = inr (λ h. cc (e, (bytes_eq-Decides digest _).1 h))

-- each list of bytes has a digest
digest_of : (bytes : List ℕ) → (digest : List ℕ) × IsSound digest bytes
digest_of bytes = (_, refl)

-- the answer to a piece at an open upload
chosen : {P Q : Type 0} → ℕ → Decided P → Decided Q → UploadError
chosen n (inr isnt) k = errors.Range n
chosen n (inl h) (inr isnt) = errors.TooLarge
chosen n (inl h) (inl k) = errors.NoMemory

chosen_refuses : (upload : OpenUpload) (range : Option Span) (piece : List ℕ) (g : Decided (GoesOn range upload piece)) (k : Decided (KeepsLimit upload piece)) → Refuses (Some upload) range piece (chosen (length upload.bytes) g k)
unfolding chosen
chosen_refuses upload range piece (inr isnt) k = (isnt, refl)
chosen_refuses upload range piece (inl h) (inr isnt) = (h, isnt)
chosen_refuses upload range piece (inl h) (inl k) = (h, k)

is_chosen : (upload : OpenUpload) (range : Option Span) (piece : List ℕ) (g : Decided (GoesOn range upload piece)) (k : Decided (KeepsLimit upload piece)) (error : UploadError) → Refuses (Some upload) range piece error
    → error ≡ chosen (length upload.bytes) g k
unfolding chosen
is_chosen upload range piece g k errors.Full h = absurd h
is_chosen upload range piece g k errors.Unknown h = cc h
is_chosen upload range piece (inl y) k (errors.Range end) h = absurd (h.0 y)
is_chosen upload range piece (inr n) k (errors.Range end) h = ap errors.Range h.1
is_chosen upload range piece (inl y) (inl z) errors.TooLarge h = absurd (h.1 z)
is_chosen upload range piece (inl y) (inr n) errors.TooLarge h = refl
is_chosen upload range piece (inr n) k errors.TooLarge h = absurd (n h.0)
is_chosen upload range piece g k (errors.Differ other) h = absurd h
is_chosen upload range piece (inl y) (inl z) errors.NoMemory h = refl
is_chosen upload range piece (inl y) (inr n) errors.NoMemory h = absurd (n h.1)
is_chosen upload range piece (inr n) k errors.NoMemory h = absurd (n h.0)

is_unknown : (range : Option Span) (piece : List ℕ) (error : UploadError) → Refuses None range piece error → error ≡ errors.Unknown
is_unknown range piece errors.Full h = absurd h
is_unknown range piece errors.Unknown h = refl
is_unknown range piece (errors.Range end) h = absurd h
is_unknown range piece errors.TooLarge h = absurd h
is_unknown range piece (errors.Differ other) h = absurd h
is_unknown range piece errors.NoMemory h = absurd h

-- a piece has an answer
pub answered : (found : Option OpenUpload) (range : Option Span) (piece : List ℕ) → (error : UploadError) × Refuses found range piece error
answered None range piece = (errors.Unknown, refl)
answered (Some upload) range piece =
    (chosen (length upload.bytes) (goes range upload piece) (keeps upload piece), chosen_refuses upload range piece (goes range upload piece) (keeps upload piece))

-- and no other
pub answered_once : (found : Option OpenUpload) (range : Option Span) (piece : List ℕ) (error other : UploadError) → Refuses found range piece error → Refuses found range piece other → error ≡ other
answered_once None range piece error other h k = is_unknown range piece error h ∙ sym (is_unknown range piece other k)
answered_once (Some upload) range piece error other h k =
    is_chosen upload range piece (goes range upload piece) (keeps upload piece) error h ∙ sym (is_chosen upload range piece (goes range upload piece) (keeps upload piece) other k)

-- the answer to a last piece at an open upload
chosen_whole : {P Q R : Type 0} → ℕ → List ℕ → Decided P → Decided Q → Decided R → UploadError
chosen_whole n digest (inr isnt) k s = errors.Range n
chosen_whole n digest (inl h) (inr isnt) s = errors.TooLarge
chosen_whole n digest (inl h) (inl k) (inl s) = errors.NoMemory
chosen_whole n digest (inl h) (inl k) (inr isnt) = errors.Differ digest

module _ (upload : OpenUpload) (range : Option Span) (piece digest found : List ℕ) (is : IsSound found (upload.bytes ++ piece)) where
  whole_refuses : (g : Decided (GoesOn range upload piece)) (k : Decided (KeepsLimit upload piece)) (s : Decided (IsSound digest (upload.bytes ++ piece)))
      → RefusesWhole (Some upload) range piece digest (chosen_whole (length upload.bytes) found g k s)
  unfolding chosen_whole
  whole_refuses (inr isnt) k s = (isnt, refl)
  whole_refuses (inl h) (inr isnt) s = (h, isnt)
  whole_refuses (inl h) (inl k) (inl s) = (h, k, s)
  whole_refuses (inl h) (inl k) (inr isnt) = (h, k, is, λ same. isnt (sym same ∙ is))

  is_whole : (g : Decided (GoesOn range upload piece)) (k : Decided (KeepsLimit upload piece)) (s : Decided (IsSound digest (upload.bytes ++ piece))) (error : UploadError)
      → RefusesWhole (Some upload) range piece digest error → error ≡ chosen_whole (length upload.bytes) found g k s
  unfolding chosen_whole
  is_whole g k s errors.Full h = absurd h
  is_whole g k s errors.Unknown h = cc h
  is_whole (inl y) k s (errors.Range end) h = absurd (h.0 y)
  is_whole (inr n) k s (errors.Range end) h = ap errors.Range h.1
  is_whole (inl y) (inl z) s errors.TooLarge h = absurd (h.1 z)
  is_whole (inl y) (inr n) s errors.TooLarge h = refl
  is_whole (inr n) k s errors.TooLarge h = absurd (n h.0)
  is_whole (inl y) (inl z) (inl s) (errors.Differ other) h = absurd (h.3 (h.2 ∙ sym s))
  is_whole (inl y) (inl z) (inr n) (errors.Differ other) h = ap errors.Differ (h.2 ∙ sym is)
  is_whole (inl y) (inr n) s (errors.Differ other) h = absurd (n h.1)
  is_whole (inr n) k s (errors.Differ other) h = absurd (n h.0)
  is_whole (inl y) (inl z) (inl s) errors.NoMemory h = refl
  is_whole (inl y) (inl z) (inr n) errors.NoMemory h = absurd (n h.2)
  is_whole (inl y) (inr n) s errors.NoMemory h = absurd (n h.1)
  is_whole (inr n) k s errors.NoMemory h = absurd (n h.0)

unknown_whole : (range : Option Span) (piece digest : List ℕ) (error : UploadError) → RefusesWhole None range piece digest error → error ≡ errors.Unknown
unknown_whole range piece digest errors.Full h = absurd h
unknown_whole range piece digest errors.Unknown h = refl
unknown_whole range piece digest (errors.Range end) h = absurd h
unknown_whole range piece digest errors.TooLarge h = absurd h
unknown_whole range piece digest (errors.Differ other) h = absurd h
unknown_whole range piece digest errors.NoMemory h = absurd h

-- a last piece has an answer
pub whole_answered : (found : Option OpenUpload) (range : Option Span) (piece digest : List ℕ) → (error : UploadError) × RefusesWhole found range piece digest error
whole_answered None range piece digest = (errors.Unknown, refl)
whole_answered (Some upload) range piece digest =
    let d = digest_of (upload.bytes ++ piece) in
    let g = goes range upload piece in
    let k = keeps upload piece in
    let s = sound_at digest (upload.bytes ++ piece) (is_sound digest (upload.bytes ++ piece)) refl in
    (chosen_whole (length upload.bytes) d.0 g k s, whole_refuses upload range piece digest d.0 d.1 g k s)

-- and no other
pub whole_answered_once : (found : Option OpenUpload) (range : Option Span) (piece digest : List ℕ) (error other : UploadError) → RefusesWhole found range piece digest error → RefusesWhole found range piece digest other
    → error ≡ other
whole_answered_once None range piece digest error other h k = unknown_whole range piece digest error h ∙ sym (unknown_whole range piece digest other k)
whole_answered_once (Some upload) range piece digest error other h k =
    let d = digest_of (upload.bytes ++ piece) in
    let g = goes range upload piece in
    let l = keeps upload piece in
    let s = sound_at digest (upload.bytes ++ piece) (is_sound digest (upload.bytes ++ piece)) refl in
    is_whole upload range piece digest d.0 d.1 g l s error h ∙ sym (is_whole upload range piece digest d.0 d.1 g l s other k)

-- a new upload leaves the others
pub begun_beside : (table : UploadTable) (moment other : ℕ) → other ≢ table.opened + 1 → map.get (with_new moment table).uploads other ≡ map.get table.uploads other
begun_beside table moment other differs = get_elsewhere number_order table.uploads (table.opened + 1) _ other differs

put_beside : (uploads : NumberMap OpenUpload) (id other : ℕ) (piece : List ℕ) (found : Option OpenUpload) → other ≢ id → map.get (put_after uploads id piece found) other ≡ map.get uploads other
put_beside uploads id other piece None differs = refl
put_beside uploads id other piece (Some upload) differs = get_elsewhere number_order uploads id (longer upload piece) other differs

-- a piece leaves the other uploads
pub grown_beside : (table : UploadTable) (id other : ℕ) (piece : List ℕ) → other ≢ id → map.get (with_piece table id piece).uploads other ≡ map.get table.uploads other
grown_beside table id other piece differs = put_beside table.uploads id other piece (map.get table.uploads id) differs

-- an upload that ends leaves the others
pub ended_beside : (table : UploadTable) (id other : ℕ) → other ≢ id → map.get (without table id).uploads other ≡ map.get table.uploads other
ended_beside table id other differs = removed_elsewhere number_order table.uploads id other differs

-- and is open no more
pub ended_itself : (table : UploadTable) (id : ℕ) → map.get (without table id).uploads id ≡ None
ended_itself table id = removed_here number_order table.uploads id

one_more : (b : Bool) (n limit : ℕ) → n < limit → cond b n (n + 1) ≤ limit
one_more true n limit h = omega arith
one_more false n limit h = omega arith

few_by : (n opened most last : ℕ) → (nat_le most n || nat_le last opened) ≡ false → n < most
few_by n opened most last h = grind (arith, nat_tests, h)

-- where there is room, no more are open than may be
pub few : (table : UploadTable) (moment : ℕ) → HasRoom table → map.len (with_new moment table).uploads ≤ open_limit
few table moment room =
    let most = one_more (map.contains_key table.uploads (table.opened + 1)) (map.len table.uploads) open_limit (few_by (map.len table.uploads) table.opened open_limit last_id room) in
    omega (arith, len-insert nat_cmp_total table.uploads (table.opened + 1) (record { bytes = []; start = moment }), most)
