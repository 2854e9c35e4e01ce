-- How the parts of a message that were received come together.
use Rattle.std.proofs.Common.{◌≡◌, ℕ, ◌+◌, ◌-◌, ◌≤◌, false, List, [], ◌++◌, length, take, drop, Option, refl, sym, ap, ◌∙◌, subst, arith}
use Rattle.std.specs.Prelude.{Ok}
use Rattle.std.proofs.lemmas.List.{append_assoc, append-nil, length-append, take-append-drop}
use Rattle.zot_head.specs.declared.head.Head.{Head}
use Rattle.zot_head.specs.Front.{Front, IsFront}
use Rattle.zot_head.specs.Front as fronts
use Rattle.zot_head.specs.Limits.{head_limit}
use Rattle.zot_head.specs.Lines.{Ends, extent, head_end}
use Rattle.zot_model.specs.declared.reply.Reply.{Reply}
use Rattle.zot_model.specs.Valid.{body_limit}
use Rattle.zot_outside.specs.Streams.{Appends, Takes}
use Rattle.zot_outside.proofs.StreamLemmas.{Appends-nil, Takes-append, Takes-nil}
use Rattle.zot_session.specs.declared.cut.Cut.{Cut}
use Rattle.zot_session.specs.declared.end.End.{End}
use Rattle.zot_session.specs.declared.end.End.TheVariants as ends
use Rattle.zot_session.specs.declared.heading.Heading.{Heading}
use Rattle.zot_session.specs.declared.heading.Heading.TheVariants as headings
use Rattle.zot_session.specs.declared.send_error.SendError.TheVariants as errors
use Rattle.zot_session.specs.Cuts.{budget, end_at, end_of}
use Rattle.zot_session.specs.Ending.{EndsAfter, cut_short, owed, unread, unsent}
use Rattle.zot_session.specs.Messages.{IsPartial, IsRead, IsRefused, Owes, continue_of, is_blank, refused_as}
use Rattle.zot_session.specs.Receiving.{BodyCame, BodyCut, BodyIs, BodyRefused, Came, HeadCame, HeadCut, HeadDeclined, HeadIs, HeadRefused, Heads, IsCut, MessageCame, MessageRefused, ReceiveEnds, Took, no_memory, no_piece}
use Rattle.zot_session.specs.Sending.{WritesPart}
use Rattle.zot_session.specs.Waiting.{CutShort, HoldsMessage, KeepsRoom, TakesPiece, Waiting}
use Rattle.zot_session.proofs.HeadingLemmas.{heading_ends, heading_front, heading_owes, large_owes, large_refused, not_blank}
use Rattle.zot_session.proofs.RoomLemmas.{HoldsHead, holds_heading}

-- ---- pieces

-- nothing came yet
pub came_none : (was is : Waiting) (left : Option (List ℕ)) → is.bytes ≡ was.bytes → is.taken ≡ was.taken → Came was is [] [] left left
came_none was is left same taken = record {
  took = record { reads = Takes-nil left; taken = omega arith; within = λ h. subst (λ n. n ≤ budget) (sym taken) h };
  bytes = append-nil was.bytes ∙ sym same;
}

-- a piece more came
pub came_piece : {was mid is : Waiting} {passed came : List ℕ} {left left' left'' : Option (List ℕ)} → Came was mid passed came left left' → (p : TakesPiece mid is left' left'') → Came was is passed (came ++ p.more) left left''
came_piece {was} {mid} {is} {passed} {came} {left} {left'} {left''} c p =
    let longer = length-append came p.more in
    let before = c.took.taken in
    let more = p.taken in
    record {
      took = record { reads = Takes-append left left' left'' came p.more c.took.reads p.reads; taken = omega arith; within = λ h. p.within };
      bytes = sym (append_assoc was.bytes came p.more) ∙ ap (λ b. b ++ p.more) c.bytes ∙ append_assoc passed mid.bytes p.more ∙ ap (λ b. passed ++ b) (sym p.bytes);
    }

-- the same bytes came where as many were taken
took_same : {was mid : Waiting} {came : List ℕ} {left left' : Option (List ℕ)} (is : Waiting) → Took was mid came left left' → is.taken ≡ mid.taken → Took was is came left left'
took_same is t same = record { reads = t.reads; taken = same ∙ t.taken; within = λ h. subst (λ n. n ≤ budget) (sym same) (t.within h) }

-- some of what waits was passed over
pub came_pass : {was mid : Waiting} {passed came : List ℕ} {left left' : Option (List ℕ)} (is : Waiting) (text : List ℕ) → Came was mid passed came left left' → mid.bytes ≡ text ++ is.bytes → is.taken ≡ mid.taken
    → Came was is (passed ++ text) came left left'
came_pass {passed = passed} is text c split same = record { took = took_same is c.took same; bytes = c.bytes ∙ ap (λ b. passed ++ b) split ∙ sym (append_assoc passed text is.bytes) }

pub passes : (mid is : Waiting) (n : ℕ) → is.bytes ≡ drop n mid.bytes → mid.bytes ≡ take n mid.bytes ++ is.bytes
passes mid is n rest = sym (take-append-drop n mid.bytes) ∙ ap (λ b. take n mid.bytes ++ b) (sym rest)

-- no piece came
pub came_cut : {cut : Cut} {was mid is : Waiting} {passed came : List ℕ} {left left' left'' : Option (List ℕ)} → Came was mid passed came left left' → CutShort cut mid is left' left'' → Came was is passed came left left''
came_cut {was = was} {mid = mid} {is = is} {passed = passed} {came = came} {left = left} {left' = left'} {left'' = left''} c k =
    let rest : is.bytes ≡ mid.bytes = ap (λ (w : Waiting). w.bytes) k.kept in
    let same : is.taken ≡ mid.taken = ap (λ (w : Waiting). w.taken) k.kept in
    record {
      took = record {
        reads = subst (λ t. Takes left t left'') (append-nil came) (Takes-append left left' left'' came [] c.took.reads k.reads);
        taken = same ∙ c.took.taken;
        within = λ h. subst (λ n. n ≤ budget) (sym same) (c.took.within h);
      };
      bytes = c.bytes ∙ ap (λ b. passed ++ b) (sym rest);
    }

-- ---- a head

-- what came of a head whose end was found
pub head_read : {was mid : Waiting} {came : List ℕ} {left left' : Option (List ℕ)} (heading : Heading) (is : Waiting) → Came was mid [] came left left' → HoldsHead mid → HeadIs {E = Unit {0}} (Ok heading) mid is
    → Heads heading was is left left'
head_read {mid = mid} {came = came} (headings.Whole head) is c room h =
    let ends = subst (λ b. extent head_end head_limit b ≡ Ends (length h.text)) (sym h.bytes) (heading_ends h.text is.bytes head h.heading) in
    record { text = h.text; came = came; pieces = came_pass is h.text c h.bytes h.taken; heading = h.heading; holds = holds_heading mid is h.text room ends h.bytes h.held }
head_read {was} {mid} {came} {left} {left'} (headings.Refused reply) is c room h =
    record { came = came; pieces = subst (λ w. Came was w [] came left left') (sym h.0) c; declined = subst (λ (w : Waiting). HeadDeclined reply w.bytes) (sym h.0) h.1 }

-- a refusal for a head whose end was found
pub refused_is : (heading : Heading) (reply : Reply) (was : Waiting) → heading ≡ headings.Refused reply → HeadDeclined reply was.bytes → HeadIs {E = Unit {0}} (Ok heading) was was
refused_is heading reply was is declined = subst (λ h. HeadIs {E = Unit {0}} (Ok h) was was) (sym is) (refl, declined)

-- a connection that is cut before a head is whole
pub head_cut : {cut : Cut} {was mid is : Waiting} {came : List ℕ} {left left' left'' : Option (List ℕ)} → Came was mid [] came left left' → IsPartial mid.bytes × Owes mid.bytes [] → CutShort cut mid is left' left''
    → HeadCut cut was is left left''
head_cut {mid = mid} {is = is} {came = came} c partial k = record {
  came = came;
  pieces = came_cut c k;
  cause = no_piece (subst (λ (w : Waiting). IsPartial w.bytes × Owes w.bytes []) (sym k.kept) partial) k.cause;
}

-- ---- the end of a connection

-- a connection that ends before a head is whole
pub ends_in_head : {cut : Cut} {was is : Waiting} {left left' : Option (List ℕ)} (end : End) (begun : ℕ) (held : Option (List ℕ)) → HeadCut cut was is left left' → begun + length was.bytes ≡ was.taken
    → end ≡ end_at cut (is_blank is.bytes) (is.taken - begun) → ReceiveEnds end was is left left' held held
ends_in_head {cut} {was} {is} {left} {left'} end begun held h at end_is = record {
  came = h.came;
  text = [];
  took = h.pieces.took;
  writes = Appends-nil held;
  ends = subst (λ b. EndsAfter end is.taken b left' []) (sym h.pieces.bytes) (by h.cause);
}
  where
    size : is.taken - begun ≡ length is.bytes
    size =
        let all = ap length h.pieces.bytes in
        let longer = length-append was.bytes h.came in
        let taken = h.pieces.took.taken in
        omega arith

    ended : end ≡ end_of cut is.bytes
    ended = end_is ∙ ap (end_at cut (is_blank is.bytes)) size

    by : IsCut cut (IsPartial is.bytes × Owes is.bytes []) is.taken left' → EndsAfter end is.taken is.bytes left' []
    by (no_memory e) = unread refl (ended ∙ ap (λ c. end_of c is.bytes) e)
    by (no_piece partial cause) = cut_short (record { cut = cut; partial = partial.0; owed = partial.1; cause = cause; end_is = ended })

-- a message that is refused for its head
pub refused_in_head : {reply : Reply} {was is : Waiting} {left left' : Option (List ℕ)} (held : Option (List ℕ)) → HeadRefused reply was is left left' → MessageRefused reply was is left left' held held
refused_in_head held h =
    let all = sym h.pieces.bytes in record {
      came = h.came;
      took = h.pieces.took;
      why = h.declined.why;
      refused = subst (λ b. IsRefused b h.declined.why) all h.declined.refused;
      reply_is = h.declined.reply_is;
      text = [];
      owed = subst (λ b. Owes b []) all h.declined.owed;
      writes = Appends-nil held;
    }

-- a message that is refused for the size of its body
pub refused_for_size : {head : Head} {was is : Waiting} {left left' : Option (List ℕ)} (held : Option (List ℕ)) → HeadCame head was is left left' → ¬ IsRead head.framing
    → MessageRefused (refused_as fronts.SizeInvalid) was is left left' held held
refused_for_size {head} {is = is} held h large =
    let all = sym h.pieces.bytes in record {
      came = h.came;
      took = h.pieces.took;
      why = fronts.SizeInvalid;
      refused = subst (λ b. IsRefused b fronts.SizeInvalid) all (large_refused h.text is.bytes head h.heading large);
      reply_is = refl;
      text = [];
      owed = subst (λ b. Owes b []) all (large_owes h.text is.bytes head h.heading large);
      writes = Appends-nil held;
    }

-- the `100 Continue` wasn't written whole
pub ends_in_continue : {head : Head} {was is : Waiting} {left left' held held' : Option (List ℕ)} → HeadCame head was is left left' → IsRead head.framing → WritesPart held (continue_of head) held'
    → ReceiveEnds ends.WriteFault was is left left' held held'
ends_in_continue {head} {is = is} h reads w = record {
  came = h.came;
  text = w.part;
  took = h.pieces.took;
  writes = w.written;
  ends = unsent (continue_of head) (owed (subst (λ b. Owes b (continue_of head)) (sym h.pieces.bytes) (heading_owes h.text is.bytes head h.heading reads)))
      (record { error = errors.Fault; part = (w.lost, w.whole); end_is = refl });
}

-- ---- a head with what came of its body

-- all that came is the head, and what waited after it with all that came later
joined : (was mid : Waiting) (text came later : List ℕ) → was.bytes ++ came ≡ text ++ mid.bytes → was.bytes ++ (came ++ later) ≡ text ++ (mid.bytes ++ later)
joined was mid text came later h = sym (append_assoc was.bytes came later) ∙ ap (λ b. b ++ later) h ∙ append_assoc text mid.bytes later

module _ {head : Head} {was mid is : Waiting} {passed later : List ℕ} {left left' left'' : Option (List ℕ)} (h : HeadCame head was mid left left') (reads : IsRead head.framing) (b : Came mid is passed later left' left'') where
  body_front : (front : Head → Front) → BodyIs head.framing (mid.bytes ++ later) front → IsFront body_limit (was.bytes ++ (h.came ++ later)) (front head)
  body_front front is_so =
      subst (λ bytes. IsFront body_limit bytes (front head)) (sym (joined was mid h.text h.came later h.pieces.bytes))
      (subst (λ f. IsFront body_limit (h.text ++ (mid.bytes ++ later)) f) (is_so head) (heading_front h.text (mid.bytes ++ later) head h.heading))

  body_owes : Owes (was.bytes ++ (h.came ++ later)) (continue_of head)
  body_owes = subst (λ bytes. Owes bytes (continue_of head)) (sym (joined was mid h.text h.came later h.pieces.bytes)) (heading_owes h.text (mid.bytes ++ later) head h.heading reads)

  body_took : Took was is (h.came ++ later) left left''
  body_took =
      let longer = length-append h.came later in
      let first = h.pieces.took.taken in
      let second = b.took.taken in
      record { reads = Takes-append left left' left'' h.came later h.pieces.took.reads b.took.reads; taken = omega arith; within = λ k. b.took.within (h.pieces.took.within k) }

  body_blank : is_blank (was.bytes ++ (h.came ++ later)) ≡ false
  body_blank = subst (λ bytes. is_blank bytes ≡ false) (sym (joined was mid h.text h.came later h.pieces.bytes)) (not_blank h.text (mid.bytes ++ later) head h.heading)

  -- after the message at most one piece is held besides it
  body_holds : KeepsRoom mid is → HoldsMessage (length (was.bytes ++ (h.came ++ later)) - length is.bytes) is
  body_holds room =
      let all = ap length (joined was mid h.text h.came later h.pieces.bytes ∙ ap (λ bytes. h.text ++ bytes) b.bytes) in
      let longer = length-append h.text (passed ++ is.bytes) in
      let after = length-append passed is.bytes in
      let held_before = h.holds.within in
      let waited = h.holds.waits in
      let waits = room.waits in
      let within = room.within in
      record { waits = omega arith; within = omega arith }

-- a message that is whole
pub whole_message : {head : Head} {body : List ℕ} {was mid is : Waiting} {left left' left'' : Option (List ℕ)} (held held' : Option (List ℕ)) → HeadCame head was mid left left' → IsRead head.framing → Appends held (continue_of head) held'
    → BodyCame body head.framing mid is left' left'' → KeepsRoom mid is → MessageCame head body was is left left'' held held'
whole_message {body = body} {is = is} held held' h reads written b room = record {
  came = h.came ++ b.came;
  took = body_took h reads b.pieces;
  stands = body_front h reads b.pieces (λ x. fronts.Message x body is.bytes) b.whole;
  owed = body_owes h reads b.pieces;
  writes = written;
  holds = body_holds h reads b.pieces room;
}

-- a message that is refused for its body
pub refused_in_body : {head : Head} {reply : Reply} {was mid is : Waiting} {left left' left'' : Option (List ℕ)} (held held' : Option (List ℕ)) → HeadCame head was mid left left' → IsRead head.framing
    → Appends held (continue_of head) held' → BodyRefused reply head.framing mid is left' left'' → MessageRefused reply was is left left'' held held'
refused_in_body {head} held held' h reads written b = record {
  came = h.came ++ b.came;
  took = body_took h reads b.pieces;
  why = b.why;
  refused = body_front h reads b.pieces (λ x. fronts.Refused b.why) b.refused;
  reply_is = b.reply_is;
  text = continue_of head;
  owed = body_owes h reads b.pieces;
  writes = written;
}

-- a connection that ends before a body is whole
pub ends_in_body : {cut : Cut} {head : Head} {was mid is : Waiting} {left left' left'' : Option (List ℕ)} (end : End) (begun : ℕ) (held held' : Option (List ℕ)) → HeadCame head was mid left left' → IsRead head.framing
    → Appends held (continue_of head) held' → BodyCut cut head.framing mid is left' left'' → begun + length was.bytes ≡ was.taken → end ≡ end_at cut false (is.taken - begun) → ReceiveEnds end was is left left'' held held'
ends_in_body {cut} {head} {was} {mid} {is} {left} {left'} {left''} end begun held held' h reads written b at end_is =
    record { came = h.came ++ b.came; text = continue_of head; took = body_took h reads b.pieces; writes = written; ends = by b.cause }
  where
    size : is.taken - begun ≡ length (was.bytes ++ (h.came ++ b.came))
    size =
        let taken = (body_took h reads b.pieces).taken in
        let longer = length-append was.bytes (h.came ++ b.came) in
        omega arith

    ended : end ≡ end_of cut (was.bytes ++ (h.came ++ b.came))
    ended = end_is ∙ ap (end_at cut false) size ∙ ap (λ blank. end_at cut blank (length (was.bytes ++ (h.came ++ b.came)))) (sym (body_blank h reads b.pieces))

    by : IsCut cut (BodyIs head.framing (mid.bytes ++ b.came) (λ x. fronts.Partial)) is.taken left'' → EndsAfter end is.taken (was.bytes ++ (h.came ++ b.came)) left'' (continue_of head)
    by (no_memory e) =
        unsent (continue_of head) (owed (body_owes h reads b.pieces))
        (record { error = errors.NoMemory; part = ([], sym (append-nil (continue_of head))); end_is = ended ∙ ap (λ c. end_of c (was.bytes ++ (h.came ++ b.came))) e })
    by (no_piece partial cause) = cut_short (record { cut = cut; partial = body_front h reads b.pieces (λ x. fronts.Partial) partial; owed = body_owes h reads b.pieces; cause = cause; end_is = ended })
