-- What stands at the front of a connection's bytes, by how far a head goes in them.
use Rattle.std.proofs.Common.{◌≡◌, ◌≢◌, ℕ, ◌+◌, ◌≤◌, ltb, eqb, nat_le, cond, Bool, true, false, List, [], ◌++◌, length, take, drop, Some, refl, sym, ap, ◌∙◌, subst, arith}
use Rattle.std.specs.Prelude.{option_map}
use Rattle.std.proofs.lemmas.Bool.Decides.{nat_tests}
use Rattle.std.proofs.lemmas.List.{append-nil, drop_all, drop_at, length-take, length-take-le, take-append-drop, take-append-le, take_at}
use Rattle.zot_head.specs.declared.framing.Framing.{Framing}
use Rattle.zot_head.specs.declared.framing.Framing.TheVariants as framings
use Rattle.zot_head.specs.declared.found.Found.{Found}
use Rattle.zot_head.specs.declared.found.Found.TheVariants as founds
use Rattle.zot_head.specs.declared.head.Head.{Head}
use Rattle.zot_head.specs.Found.{found_of}
use Rattle.zot_head.specs.Front.{IsCrowded, IsFront, IsFrontBy, IsHead, IsMessage, IsNoHead, crowded, headed, invalid, with_body, with_chunks}
use Rattle.zot_head.specs.Chunked.{Body, Broken, Unfinished, Whole, chunked}
use Rattle.zot_head.specs.Front as fronts
use Rattle.zot_head.specs.Limits.{head_limit}
use Rattle.zot_head.specs.Lines.{Ends, Extent, Goes, Passes, blank_len, extent, head_end, section_end}
use Rattle.zot_head.proofs.FrontLemmas.{head_unique}
use Rattle.zot_head.proofs.SentLemmas.{only_sent_is_read}
use Rattle.zot_head.proofs.LineLemmas.{IsSettled, ends_found, extent_cut, extent_ends_at, extent_stays, extent_within, head_end_is}
use Rattle.zot_model.specs.Valid.{body_limit}
use Rattle.zot_session.specs.Messages.{HasHead, IsPartial, IsRead, IsRefused, Owes, continue_of, is_blank, refused_as, to_head, to_none}
use Rattle.zot_session.specs.Receiving.{HeadDeclined, IsHeading}

-- ---- what was found

of_more : (e : Extent) → founds.More ≡ found_of e → e ≡ Goes
of_more (Ends n) h = cc h
of_more Passes h = cc h
of_more Goes h = refl

of_too_long : (e : Extent) → founds.TooLong ≡ found_of e → e ≡ Passes
of_too_long (Ends n) h = cc h
of_too_long Passes h = refl
of_too_long Goes h = cc h

of_head : (e : Extent) (n : ℕ) → founds.Head n ≡ found_of e → e ≡ Ends n
of_head (Ends m) n h = cc h
of_head Passes n h = cc h
of_head Goes n h = cc h

pub found_head : (bytes : List ℕ) (found : Found) (n : ℕ) → found ≡ found_of (extent head_end head_limit bytes) → found ≡ founds.Head n → extent head_end head_limit bytes ≡ Ends n
found_head bytes found n h k = of_head (extent head_end head_limit bytes) n (sym k ∙ h)

-- nothing is owed where no head is whole
owes_none : (bytes : List ℕ) (e : Extent) → extent head_end head_limit bytes ≡ e → ((n : ℕ) → e ≢ Ends n) → Owes bytes []
owes_none bytes e h k = to_none (λ head has. k has.size (sym h ∙ has.ends)) refl

-- a head that isn't whole yet
pub found_goes : (bytes : List ℕ) (found : Found) → found ≡ found_of (extent head_end head_limit bytes) → found ≡ founds.More → extent head_end head_limit bytes ≡ Goes
found_goes bytes found h k = of_more (extent head_end head_limit bytes) (sym k ∙ h)

pub goes_partial : (bytes : List ℕ) → extent head_end head_limit bytes ≡ Goes → IsPartial bytes × Owes bytes []
goes_partial bytes goes = (subst (λ e. IsFrontBy body_limit bytes e fronts.Partial) (sym goes) refl, owes_none bytes Goes goes (λ n e. cc e))

-- a head that is too long
pub found_too_long : (bytes : List ℕ) (found : Found) → found ≡ found_of (extent head_end head_limit bytes) → found ≡ founds.TooLong → HeadDeclined (refused_as fronts.HeadTooLong) bytes
found_too_long bytes found h k =
    let passes = of_too_long (extent head_end head_limit bytes) (sym k ∙ h) in record {
      why = fronts.HeadTooLong;
      refused = subst (λ e. IsFrontBy body_limit bytes e (fronts.Refused fronts.HeadTooLong)) (sym passes) refl;
      owed = owes_none bytes Passes passes (λ n e. cc e);
      reply_is = refl;
    }

-- the head that stands there is the one whose end was found
same_size : (bytes : List ℕ) (n m : ℕ) → extent head_end head_limit bytes ≡ Ends n → extent head_end head_limit bytes ≡ Ends m → m ≡ n
same_size bytes n m h k = let e : Ends m ≡ Ends n = sym k ∙ h in cc e

-- a head with too many lines
pub crowded_head : (bytes : List ℕ) (n : ℕ) → extent head_end head_limit bytes ≡ Ends n → IsCrowded (take n bytes) → HeadDeclined (refused_as fronts.HeadTooLong) bytes
crowded_head bytes n h c = record {
  why = fronts.HeadTooLong;
  refused = subst (λ e. IsFrontBy body_limit bytes e (fronts.Refused fronts.HeadTooLong)) (sym h) (crowded c refl);
  owed = to_none (λ head has. has.is.few_lines (subst (λ m. IsCrowded (take m bytes)) (sym (same_size bytes n has.size h has.ends)) c)) refl;
  reply_is = refl;
}

-- bytes that are no head
pub invalid_head : (bytes : List ℕ) (n : ℕ) → extent head_end head_limit bytes ≡ Ends n → IsNoHead (take n bytes) → HeadDeclined (refused_as fronts.HeadInvalid) bytes
invalid_head bytes n h c = record {
  why = fronts.HeadInvalid;
  refused = subst (λ e. IsFrontBy body_limit bytes e (fronts.Refused fronts.HeadInvalid)) (sym h) (invalid c refl);
  owed = to_none (λ head has. c.none head (subst (λ m. IsHead (take m bytes) head) (same_size bytes n has.size h has.ends) has.is)) refl;
  reply_is = refl;
}

pub head_within : (bytes : List ℕ) (n : ℕ) → extent head_end head_limit bytes ≡ Ends n → n ≤ length bytes
head_within bytes n h = (extent_within head_end head_limit n bytes head_end_is h).1

-- a head by its own bytes
pub heading_cut : (bytes : List ℕ) (n : ℕ) (head : Head) → extent head_end head_limit bytes ≡ Ends n → IsHead (take n bytes) head → IsHeading (take n bytes) head
heading_cut bytes n head h is =
    let w = extent_within head_end head_limit n bytes head_end_is h in
    let within = w.1 in
    let short = w.2 in
    let cut = length-take n bytes in
    let size : length (take n bytes) ≡ n = omega arith in
    let whole : extent head_end head_limit (take n bytes ++ []) ≡ Ends (length (take n bytes)) =
    extent_ends_at head_end head_limit (take n bytes) [] head_end_is (extent_cut head_limit n bytes h ∙ ap Some (sym size)) (omega arith) in
    record {
      ends = subst (λ b. extent head_end head_limit b ≡ Ends (length (take n bytes))) (append-nil (take n bytes)) whole;
      is = is;
    }

-- a head that ends with more bytes than those in which none ended goes beyond those
pub ends_beyond : (before more : List ℕ) (n : ℕ) → extent head_end head_limit before ≡ Goes → extent head_end head_limit (before ++ more) ≡ Ends n → length before ≤ n
ends_beyond before more n goes ends = go (nat_le (length before) n) refl
  where
    within : n ≤ length before → ⊥
    within le =
        let w = extent_within head_end head_limit n (before ++ more) head_end_is ends in
        let limit = w.2 in
        let size : length (take n before) ≡ n = length-take-le n before le in
        let cut : take n (before ++ more) ≡ take n before = take-append-le n before more le in
        let found : head_end (take n before) ≡ Some n = ap head_end (sym cut) ∙ extent_cut head_limit n (before ++ more) ends in
        let again : extent head_end head_limit (take n before ++ drop n before) ≡ Ends (length (take n before)) =
        extent_ends_at head_end head_limit (take n before) (drop n before) head_end_is (found ∙ ap Some (sym size)) (omega arith) in
        let both : Goes ≡ Ends (length (take n before)) = sym goes ∙ subst (λ b. extent head_end head_limit b ≡ Ends (length (take n before))) (take-append-drop n before) again in
        cc both

    go : (t : Bool) → nat_le (length before) n ≡ t → length before ≤ n
    go true e = grind (arith, nat_tests, e)
    go false e = absurd (within (grind (arith, nat_tests, e)))

-- ---- after a whole head

pub heading_ends : (text more : List ℕ) (head : Head) → IsHeading text head → extent head_end head_limit (text ++ more) ≡ Ends (length text)
heading_ends text more head h = extent_stays head_end head_limit text more head_end_is (subst IsSettled (sym h.ends) tt) ∙ h.ends

pub heading_front : (text more : List ℕ) (head : Head) → IsHeading text head → IsFront body_limit (text ++ more) (with_body body_limit head head.framing more)
heading_front text more head h =
    rw (heading_ends text more head h, take_at text more (length text) refl, drop_at text more (length text) refl) (headed head h.is refl)

heading_has : (text more : List ℕ) (head : Head) → IsHeading text head → IsRead head.framing → HasHead (text ++ more) head
heading_has text more head h reads = record {
  size = length text;
  ends = heading_ends text more head h;
  is = subst (λ t. IsHead t head) (sym (take_at text more (length text) refl)) h.is;
  reads = reads;
}

-- what is owed after a head whose body is read
pub heading_owes : (text more : List ℕ) (head : Head) → IsHeading text head → IsRead head.framing → Owes (text ++ more) (continue_of head)
heading_owes text more head h reads = to_head head (heading_has text more head h reads) refl

-- and after one whose body isn't
pub large_owes : (text more : List ℕ) (head : Head) → IsHeading text head → ¬ IsRead head.framing → Owes (text ++ more) []
large_owes text more head h large =
    let size = λ (other : Head) (has : HasHead (text ++ more) other). same_size (text ++ more) (length text) has.size (heading_ends text more head h) has.ends in
    let same = λ (other : Head) (has : HasHead (text ++ more) other).
    head_unique text head other h.is (subst (λ t. IsHead t other) (ap (λ m. take m (text ++ more)) (size other has) ∙ take_at text more (length text) refl) has.is) in
    to_none (λ other has. large (subst (λ x. IsRead x.framing) (sym (same other has)) has.reads)) refl

-- a body that isn't read for its size
too_large : (head : Head) (framing : Framing) (more : List ℕ) → ¬ IsRead framing → with_body body_limit head framing more ≡ fronts.Refused fronts.SizeInvalid
too_large head framings.None more h = absurd (h tt)
too_large head (framings.Length n) more h = let over : ltb body_limit n ≡ true = grind (arith, nat_tests, h) in rw over refl
too_large head framings.Chunked more h = absurd (h tt)

pub large_refused : (text more : List ℕ) (head : Head) → IsHeading text head → ¬ IsRead head.framing → IsRefused (text ++ more) fronts.SizeInvalid
large_refused text more head h large = subst (λ front. IsFront body_limit (text ++ more) front) (too_large head head.framing more large) (heading_front text more head h)

-- bytes with a head aren't empty lines alone
no_section : (bytes : List ℕ) (n : ℕ) → head_end bytes ≡ Some n → blank_len bytes ≡ length bytes → ⊥
no_section bytes n h all =
    let none : drop (blank_len bytes) bytes ≡ [] = ap (λ k. drop k bytes) all ∙ drop_all (length bytes) bytes (omega arith) in
    let nothing : option_map (λ m. blank_len bytes + m) (section_end false []) ≡ Some n = subst (λ b. option_map (λ m. blank_len bytes + m) (section_end false b) ≡ Some n) none h in
    cc nothing

heading_ended : (bytes : List ℕ) (n : ℕ) → extent head_end head_limit bytes ≡ Ends n → head_end bytes ≡ Some n
heading_ended bytes n h =
    subst (λ b. head_end b ≡ Some n) (take-append-drop head_limit bytes)
    (head_end_is.stays (take head_limit bytes) (drop head_limit bytes) n (ends_found head_end head_limit n bytes h))

pub not_blank : (text more : List ℕ) (head : Head) → IsHeading text head → is_blank (text ++ more) ≡ false
not_blank text more head h =
    let none = no_section (text ++ more) (length text) (heading_ended (text ++ more) (length text) (heading_ends text more head h)) in
    let other : eqb (blank_len (text ++ more)) (length (text ++ more)) ≡ false = grind (arith, nat_tests, none) in
    other

-- ---- the body of a whole message

within_by : (head : Head) (framing : Framing) (bytes body rest : List ℕ) (other : Head) → with_body body_limit head framing bytes ≡ fronts.Message other body rest → length body ≤ body_limit
within_by head framings.None bytes body rest other e = let same : body ≡ [] = cc e in subst (λ b. length b ≤ body_limit) (sym same) (omega arith)
within_by head (framings.Length n) bytes body rest other e = over (ltb body_limit n) refl e
  where
    within : (t : Bool) → ltb body_limit n ≡ false → cond t fronts.Partial (fronts.Message head (take n bytes) (drop n bytes)) ≡ fronts.Message other body rest → length body ≤ body_limit
    within true small h = absurd (cc h)
    within false small h =
        let same : body ≡ take n bytes = cc h in
        let cut = length-take n bytes in
        let size = ap length same in
        let le : n ≤ body_limit = grind (arith, nat_tests, small) in
        omega arith

    over : (t : Bool) → ltb body_limit n ≡ t → cond t (fronts.Refused fronts.SizeInvalid) (cond (ltb (length bytes) n) fronts.Partial (fronts.Message head (take n bytes) (drop n bytes))) ≡ fronts.Message other body rest → length body ≤ body_limit
    over true small h = absurd (cc h)
    over false small h = within (ltb (length bytes) n) small h
within_by head framings.Chunked bytes body rest other e = by (chunked body_limit bytes) refl e
  where
    by : (read : Body) → chunked body_limit bytes ≡ read → with_chunks head read ≡ fronts.Message other body rest → length body ≤ body_limit
    by (Whole given more) is h =
        let same : given ≡ body = cc h in
        subst (λ b. length b ≤ body_limit) same (only_sent_is_read body_limit bytes given more is).2
    by (Unfinished given) is h = absurd (cc h)
    by (Broken given error) is h = absurd (cc h)

message_within : (text bytes body rest : List ℕ) (head : Head) → IsMessage body_limit text bytes (fronts.Message head body rest) → length body ≤ body_limit
message_within text bytes body rest head (crowded c e) = absurd (cc e)
message_within text bytes body rest head (invalid c e) = absurd (cc e)
message_within text bytes body rest head (headed other is e) = within_by other other.framing bytes body rest head (sym e)

front_by_within : (bytes body rest : List ℕ) (head : Head) (e : Extent) → IsFrontBy body_limit bytes e (fronts.Message head body rest) → length body ≤ body_limit
front_by_within bytes body rest head Goes h = absurd (cc h)
front_by_within bytes body rest head Passes h = absurd (cc h)
front_by_within bytes body rest head (Ends n) h = message_within (take n bytes) (drop n bytes) body rest head h

-- a whole message keeps the limit of bodies
pub body_within : (bytes body rest : List ℕ) (head : Head) → IsFront body_limit bytes (fronts.Message head body rest) → length body ≤ body_limit
body_within bytes body rest head h = front_by_within bytes body rest head (extent head_end head_limit bytes) h
