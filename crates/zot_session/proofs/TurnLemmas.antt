-- What one turn of a connection does.
use Rattle.std.proofs.Common.{◌≡◌, ℕ, true, false, List, [], ◌++◌, Option, None, Some, refl, sym, ap, ◌∙◌, subst}
use Rattle.std.specs.Prelude.{IfNone, IfSome, Result, Ok, Err}
use Rattle.std.proofs.lemmas.List.{append-nil}
use Rattle.zot_head.specs.declared.head.Head.{Head}
use Rattle.zot_model.specs.declared.reply.Reply.{Reply}
use Rattle.zot_model.specs.declared.request.Request.{Request}
use Rattle.zot_outside.specs.Streams.{Appends}
use Rattle.zot_outside.proofs.StreamLemmas.{Appends-append, Appends-nil}
use Rattle.zot_session.specs.declared.end.End.{End}
use Rattle.zot_session.specs.declared.end.End.TheVariants as ends
use Rattle.zot_session.specs.declared.send_error.SendError.{SendError}
use Rattle.zot_session.specs.declared.send_error.SendError.TheVariants as errors
use Rattle.zot_session.specs.Ending.{Says, closed, closing_bytes, owed, refused, refused_there, unsent, unsent_last}
use Rattle.zot_session.specs.Exchanges.{message_of, reply_of, spelled}
use Rattle.zot_session.specs.Messages.{Message, Stands, continue_of}
use Rattle.zot_session.specs.Receiving.{MessageCame, MessageRefused, ReceiveEnds}
use Rattle.zot_session.specs.Sending.{Sends, StopsWriting, WritesPart, end_unsent}
use Rattle.zot_session.specs.Turn.{AnswersFront, Exchanged, GoesOn, RefusalEnds, Replied, Replies, Responds, Stops, Unreplied, receiving, replied_last, reply_status, reply_unsent, replying, stopped, unasked, unreplied_last, written}
use Rattle.zot_session.specs.Waiting.{Waiting}
use Rattle.zot_spell.specs.Spelling.{reply_bytes}
use Rattle.zot_session.proofs.CauseLemmas.{unsent_no_read}
use Rattle.zot_session.proofs.PartLemmas.{part_after}

-- what stopped wrote a part
stops_part : (error : SendError) (before after : Option (List ℕ)) (text : List ℕ) → StopsWriting error before text after → WritesPart before text after
stops_part errors.Fault before after text h = h
stops_part errors.NoMemory before after text h = record { part = []; lost = text; whole = refl; written = subst (λ x. Appends before [] x) (sym h) (Appends-nil before) }

module _ {A : Type 0} (answers : A → Request → Reply → A → Type 0) where
  -- what came of a message, by what was written of its reply
  pub exchange_sent : {old new : A} {message : Message} {T : Type 0} (sent : Result T SendError) (before after : Option (List ℕ)) (r : Replies answers old new message) (text : List ℕ) → text ≡ reply_of r.exchange → Sends sent before text after
      → Exchanged answers sent old new message before after
  exchange_sent (Ok x) before after r text e h = record { replies = r; writes = subst (λ t. Appends before t after) e h }
  exchange_sent (Err error) before after r text e h = reply_unsent r (subst (λ t. StopsWriting error before t after) e h)

  -- the connection ended before a message was whole
  pub stop_receiving : {end : End} {was is : Waiting} {left left' held held' : Option (List ℕ)} (old : A) → ReceiveEnds end was is left left' held held' → Stops answers end old old left left' held held' was is
  stop_receiving old r = record { came = r.came; text = r.text; took = r.took; writes = r.writes; ends = receiving refl r.ends }

  -- the connection ended with the refusal of a message
  pub stop_refusing : {end : End} {reply : Reply} {was is : Waiting} {left left' held held' held'' : Option (List ℕ)} (old : A) → MessageRefused reply was is left left' held held' → RefusalEnds end reply held' held''
      → Stops answers end old old left left' held held'' was is
  stop_refusing {end} {reply} {was} {is} {left} {left'} {held} {held'} {held''} old r h = by h
    where
      same : reply_bytes None reply false true ≡ closing_bytes r.why
      same = ap (λ x. reply_bytes None x false true) r.reply_is

      says : Says (was.bytes ++ r.came) (r.text ++ closing_bytes r.why)
      says = refused r.why r.text r.refused r.owed refl

      by : RefusalEnds end reply held' held'' → Stops answers end old old left left' held held'' was is
      by (written is_end whole) = record {
        came = r.came;
        text = r.text ++ closing_bytes r.why;
        took = r.took;
        writes = Appends-append held held' held'' r.text (closing_bytes r.why) r.writes (subst (λ t. Appends held' t held'') same whole);
        ends = receiving refl
            (refused_there (record { why = r.why; before = r.text; is_refused = r.refused; owed = r.owed; text_is = refl; end_is = is_end ∙ ap (λ x. ends.Refused (reply_status x)) r.reply_is }));
      }
      by (stopped error is_end part) =
          let w = part_after r.text (closing_bytes r.why) held held' held'' r.writes (subst (λ t. WritesPart held' t held'') same (stops_part error held' held'' (reply_bytes None reply false true) part)) in record {
            came = r.came;
            text = w.part;
            took = r.took;
            writes = w.written;
            ends = receiving refl (unsent (r.text ++ closing_bytes r.why) says (record { error = error; part = (w.lost, w.whole); end_is = is_end }));
          }

  -- a message that was answered stood at the front
  abbrev answers_front : {head : Head} {body : List ℕ} {was is : Waiting} {left left' held held' : Option (List ℕ)} {old new : A} (r : MessageCame head body was is left left' held held')
      → Replies answers old new (record { head = head; body = body }) → AnswersFront answers old new was r.came is.bytes
  answers_front {was = was} {is = is} r a = record { exchange = a.exchange; front = subst (λ m. Stands (was.bytes ++ r.came) m is.bytes) (sym a.message_is) r.stands; routed = a.routed; conducts = a.conducts }

  -- what it was owed before its body was written
  continued : {head : Head} {body : List ℕ} {was is : Waiting} {left left' held held' : Option (List ℕ)} {old new : A} (r : MessageCame head body was is left left' held held')
      → (a : Replies answers old new (record { head = head; body = body })) → Appends held (continue_of (message_of a.exchange).head) held'
  continued {held = held} {held' = held'} r a = subst (λ m. Appends held (continue_of m.head) held') (sym a.message_is) r.writes

  module _ {head : Head} {body : List ℕ} {was is : Waiting} {left left' held held' held'' : Option (List ℕ)} {old new : A} (r : MessageCame head body was is left left' held held') where
    whole_reply : (a : Replied answers old new (record { head = head; body = body }) held' held'') → Appends held (spelled a.replies.exchange) held''
    whole_reply a = Appends-append held held' held'' (continue_of (message_of a.replies.exchange).head) (reply_of a.replies.exchange) (continued r a.replies) a.writes

    -- it leaves the connection open
    goes_on : Replied answers old new (record { head = head; body = body }) held' held'' → head.closes ≡ false → GoesOn answers old new left left' held held'' was is
    goes_on a stays = record {
      came = r.came;
      took = r.took;
      answer = answers_front r a.replies;
      stays = ap (λ m. m.head.closes) a.replies.message_is ∙ stays;
      writes = whole_reply a;
      holds = r.holds;
    }

    -- it closes the connection
    stop_closing : Replied answers old new (record { head = head; body = body }) held' held'' → head.closes ≡ true → Stops answers ends.Closed old new left left' held held'' was is
    stop_closing a closing = record {
      came = r.came;
      text = spelled a.replies.exchange;
      took = r.took;
      writes = whole_reply a;
      ends = replying is.bytes (answers_front r a.replies) (closed (ap (λ m. m.head.closes) a.replies.message_is ∙ closing) refl refl);
    }

    -- its reply wasn't written whole, or nothing was asked
    stop_unreplied : {error : SendError} (end : End) → end ≡ end_unsent error → Unreplied answers error old new (record { head = head; body = body }) held' held'' → Stops answers end old new left left' held held'' was is
    stop_unreplied {error} end is_end (reply_unsent a stops) =
        let w = part_after (continue_of (message_of a.exchange).head) (reply_of a.exchange) held held' held'' (continued r a) (stops_part error held' held'' (reply_of a.exchange) stops) in record {
          came = r.came;
          text = w.part;
          took = r.took;
          writes = w.written;
          ends = replying is.bytes (answers_front r a) (unsent_last (record { error = error; part = (w.lost, w.whole); end_is = is_end }));
        }
    stop_unreplied {error} end is_end (unasked none same unwritten) = record {
      came = r.came;
      text = continue_of head;
      took = r.took;
      writes = subst (λ x. Appends held (continue_of head) x) (sym unwritten) r.writes;
      ends = receiving same (unsent (continue_of head) (owed r.owed) (record { error = error; part = ([], sym (append-nil (continue_of head))); end_is = is_end }));
    }

  -- what a whole message leaves
  module _ {head : Head} {body : List ℕ} {was is : Waiting} {left left' held held' : Option (List ℕ)} (r : MessageCame head body was is left left' held held') (old new : A) (held'' : Option (List ℕ)) where
    pub turn_on : (result : Option End) → Responds answers result old new (record { head = head; body = body }) held' held'' → IfNone result (GoesOn answers old new left left' held held'' was is)
    turn_on None h = goes_on r h.1 h.0
    turn_on (Some end) h = tt

    pub turn_ends : (result : Option End) → Responds answers result old new (record { head = head; body = body }) held' held'' → IfSome result (λ end. Stops answers end old new left left' held held'' was is)
    turn_ends None h = tt
    turn_ends (Some end) (replied_last closing is_end a) = subst (λ e. Stops answers e old new left left' held held'' was is) (sym is_end) (stop_closing r a closing)
    turn_ends (Some end) (unreplied_last error is_end a) = stop_unreplied r end is_end a

  -- no read fails in it
  pub responds_no_read : (old new : A) (message : Message) (before after : Option (List ℕ)) (result : Option End) → Responds answers result old new message before after → result ≡ Some ends.ReadFault → ⊥
  responds_no_read old new message before after None h e = cc e
  responds_no_read old new message before after (Some end) (replied_last closing is_end a) e = cc (e, is_end)
  responds_no_read old new message before after (Some end) (unreplied_last error is_end a) e = unsent_no_read error (sym is_end ∙ within e)
    where
      within : Some end ≡ Some ends.ReadFault → end ≡ ends.ReadFault
      within h = cc h
