-- The end of a connection is that of its bytes.
use Rattle.std.proofs.Common.{◌≡◌, ℕ, ◌+◌, ◌-◌, ◌<◌, ◌≤◌, ◌⊎◌, inl, inr, nat_le, Bool, true, false, List, [], ◌∷◌, ◌++◌, length, take, map, Option, Some, None, refl, sym, ap, ◌∙◌, subst, arith}
use Rattle.std.specs.Prelude.{IfSome}
use Rattle.std.proofs.lemmas.Bool.{le-leb, leb-true}
use Rattle.std.proofs.lemmas.List.{append-nil, length-append, take_all}
use Rattle.std.proofs.Math.Seq.{take-append-add}
use Rattle.zot_head.specs.Front as fronts
use Rattle.zot_head.specs.Front.{Front, Refusal}
use Rattle.zot_head.proofs.FrontLemmas.{front_unique}
use Rattle.zot_model.specs.Valid.{body_limit}
use Rattle.zot_outside.specs.Streams.{IsOver, Takes}
use Rattle.zot_session.specs.declared.cut.Cut.{Cut}
use Rattle.zot_session.specs.declared.cut.Cut.TheVariants as cuts
use Rattle.zot_session.specs.declared.end.End.{End}
use Rattle.zot_session.specs.declared.end.End.TheVariants as ends
use Rattle.zot_session.specs.declared.send_error.SendError.{SendError}
use Rattle.zot_session.specs.declared.send_error.SendError.TheVariants as errors
use Rattle.zot_session.specs.Cuts.{HasCut, budget, end_of}
use Rattle.zot_session.specs.Ending.{Ending, EndsAfter, EndsCut, EndsUnsent, EndsWith, after, closed, cut_short, refused_there, unread, unsent, unsent_last, with_last}
use Rattle.zot_session.specs.Ends.{EndsAs, EndsAt, HasFailed, end_over}
use Rattle.zot_session.specs.Exchanges.{Exchange, StayOpen, message_of, spelled}
use Rattle.zot_session.specs.Messages.{IsPartial, Message, Messages, refusal_status}
use Rattle.zot_session.specs.Sending.{end_unsent}
use Rattle.zot_session.specs.Session.{Served}
use Rattle.zot_session.proofs.MessageLemmas.{Messages-last, Messages-more, map-push, refused_more, stands_more}

not_le : (a b : ℕ) (t : Bool) → nat_le a b ≡ t → b < a → t ≡ false
not_le a b true e h = absurd (omega (arith, leb-true a b e))
not_le a b false e h = refl

le_false : (a b : ℕ) → b < a → nat_le a b ≡ false
le_false a b h = not_le a b (nat_le a b) refl h

-- nothing is left after what was taken
taken_all : (bytes taken : List ℕ) (left' : Option (List ℕ)) → Takes (Some bytes) taken left' → IsOver left' → bytes ≡ taken
taken_all bytes taken None h over = cc h.2
taken_all bytes taken (Some l) h over =
    let same : l ≡ h.0 = cc h.2 in
    h.1 ∙ ap (λ r. taken ++ r) (sym same ∙ over) ∙ append-nil taken

-- as many of the bytes as the connection may bring begin with what was taken
within_budget : (taken more : List ℕ) → length taken ≤ budget → take budget (taken ++ more) ≡ taken ++ take (budget - length taken) more
within_budget taken more h =
    let split : budget ≡ length taken + (budget - length taken) = omega arith in
    ap (λ k. take k (taken ++ more)) split ∙ take-append-add taken more (budget - length taken)

-- an end after messages that leave the connection open is the end of all
ends_after : (full : Bool) (bytes rest : List ℕ) (exchanges : List Exchange) (more : List Message) (end : End) → Messages bytes (map message_of exchanges) rest → StayOpen exchanges → EndsAt full rest more end
    → EndsAt full bytes (map message_of exchanges ++ more) end
ends_after full bytes rest [] more end h stay k = subst (λ b. EndsAt full b more end) (sym h) k
ends_after full bytes rest (exchange ∷ exchanges) more end h stay k = (h.0, h.1, inr (stay.0, ends_after full h.0 rest exchanges more end h.2 stay.1 k))

-- all that was taken is all that the connection brings
short_end : (bytes taken rest : List ℕ) (exchanges : List Exchange) (end : End) → bytes ≡ taken → Messages taken (map message_of exchanges) rest → StayOpen exchanges → length taken < budget
    → IsPartial rest → end ≡ end_over false rest → EndsAs bytes end
short_end bytes taken rest exchanges end same all stay short partial is =
    let size = ap length same in
    let cut : take budget bytes ≡ taken = take_all budget bytes (omega arith) ∙ same in
    let full : nat_le budget (length bytes) ≡ false = le_false budget (length bytes) (omega arith) in record {
      messages = map message_of exchanges ++ [];
      ends_at = subst (λ b. EndsAt (nat_le budget (length bytes)) b (map message_of exchanges ++ []) end) (sym cut)
          (subst (λ f. EndsAt f taken (map message_of exchanges ++ []) end) (sym full) (ends_after false taken rest exchanges [] end all stay (inr (partial, is))));
    }

full_end : (bytes taken more rest : List ℕ) (exchanges : List Exchange) → bytes ≡ taken ++ more → length taken ≡ budget → Messages taken (map message_of exchanges) rest → StayOpen exchanges → IsPartial rest
    → EndsAs bytes ends.Budget
full_end bytes taken more rest exchanges is full all stay partial =
    let longer = length-append taken more in
    let size : length bytes ≡ length (taken ++ more) = ap length is in
    let none : budget - length taken ≡ 0 = omega arith in
    let cut : take budget bytes ≡ taken = ap (take budget) is ∙ within_budget taken more (omega arith) ∙ ap (λ k. taken ++ take k more) none ∙ append-nil taken in
    let le : nat_le budget (length bytes) ≡ true = le-leb budget (length bytes) (omega arith) in record {
      messages = map message_of exchanges ++ [];
      ends_at = subst (λ b. EndsAt (nat_le budget (length bytes)) b (map message_of exchanges ++ []) ends.Budget) (sym cut)
          (subst (λ f. EndsAt f taken (map message_of exchanges ++ []) ends.Budget) (sym le) (ends_after true taken rest exchanges [] ends.Budget all stay (inr (partial, refl))));
    }

-- a refusal, or a message that closes the connection, ends it whatever stands after it
decided_end : (bytes taken more rest : List ℕ) (exchanges : List Exchange) (last : List Message) (end : End) → bytes ≡ taken ++ more → length taken ≤ budget → Messages taken (map message_of exchanges) rest → StayOpen exchanges
    → ((full : Bool) (next : List ℕ) → EndsAt full (rest ++ next) last end) → EndsAs bytes end
decided_end bytes taken more rest exchanges last end is within all stay ends_so =
    let tail = take (budget - length taken) more in
    let cut : take budget bytes ≡ taken ++ tail = ap (take budget) is ∙ within_budget taken more within in record {
      messages = map message_of exchanges ++ last;
      ends_at = subst (λ b. EndsAt (nat_le budget (length bytes)) b (map message_of exchanges ++ last) end) (sym cut)
          (ends_after (nat_le budget (length bytes)) (taken ++ tail) (rest ++ tail) exchanges last end (Messages-more taken tail (map message_of exchanges) rest all) stay (ends_so (nat_le budget (length bytes)) tail));
    }

-- the end of a connection that is cut is that of its bytes, unless something failed
cut_ends : (end : End) (bytes taken rest text : List ℕ) (exchanges : List Exchange) (left' : Option (List ℕ)) → Takes (Some bytes) taken left' → Messages taken (map message_of exchanges) rest → StayOpen exchanges
    → EndsCut end (length taken) rest left' text → ¬ HasFailed end → EndsAs bytes end
cut_ends end bytes taken rest text exchanges left' reads all stay h sound = by h.cut h.cause h.end_is
  where
    by : (cut : Cut) → HasCut cut (length taken) left' → end ≡ end_of cut rest → EndsAs bytes end
    by cuts.Over cause is = short_end bytes taken rest exchanges end (taken_all bytes taken left' reads cause.1) all stay cause.0 h.partial is
    by cuts.Fault cause is = absurd (sound (inl is))
    by cuts.Full cause is = subst (λ e. EndsAs bytes e) (sym is) (full_end bytes taken reads.0 rest exchanges reads.1 cause all stay h.partial)
    by cuts.NoMemory cause is = absurd (sound (inr (inr is)))

-- what isn't written whole is a failure
unsent_fails : (end : End) (whole text : List ℕ) → EndsUnsent end whole text → HasFailed end
unsent_fails end whole text h = by h.error h.end_is
  where
    by : (error : SendError) → end ≡ end_unsent error → HasFailed end
    by errors.Fault is = inr (inl is)
    by errors.NoMemory is = inr (inr is)

-- an end after the exchanges is that of the bytes
after_ends : (end : End) (bytes taken rest text : List ℕ) (exchanges : List Exchange) (left' : Option (List ℕ)) → Takes (Some bytes) taken left' → length taken ≤ budget → Messages taken (map message_of exchanges) rest
    → StayOpen exchanges → EndsAfter end (length taken) rest left' text → ¬ HasFailed end → EndsAs bytes end
after_ends end bytes taken rest text exchanges left' reads within all stay (cut_short h) sound = cut_ends end bytes taken rest text exchanges left' reads all stay h sound
after_ends end bytes taken rest text exchanges left' reads within all stay (refused_there h) sound =
    decided_end bytes taken reads.0 rest exchanges [] end reads.1 within all stay (λ full more. inl (h.why, refused_more rest more h.why h.is_refused, h.end_is))
after_ends end bytes taken rest text exchanges left' reads within all stay (unsent whole says h) sound = absurd (sound (unsent_fails end whole text h))
after_ends end bytes taken rest text exchanges left' reads within all stay (unread none is) sound = absurd (sound (inr (inr is)))

-- an end with the last exchange is that of the bytes
last_ends : (end : End) (bytes taken rest text : List ℕ) (earlier : List Exchange) (last : Exchange) (left' : Option (List ℕ)) → Takes (Some bytes) taken left' → length taken ≤ budget
    → Messages taken (map message_of (earlier ++ last ∷ [])) rest → StayOpen earlier → EndsWith end last text → ¬ HasFailed end → EndsAs bytes end
last_ends end bytes taken rest text earlier last left' reads within all stay (closed closing whole is) sound =
    let parts = Messages-last taken (map message_of earlier) (message_of last) rest (subst (λ messages. Messages taken messages rest) (map-push earlier last) all) in
    decided_end bytes taken reads.0 parts.0 earlier (message_of last ∷ []) end reads.1 within parts.1 stay (λ full more. (rest ++ more, stands_more parts.0 more (message_of last) rest parts.2, inl (closing, refl, is)))
last_ends end bytes taken rest text earlier last left' reads within all stay (unsent_last h) sound = absurd (sound (unsent_fails end (spelled last) text h))

ending_ends : (end : End) (bytes taken rest sent : List ℕ) (exchanges : List Exchange) (left' : Option (List ℕ)) → Takes (Some bytes) taken left' → length taken ≤ budget → Messages taken (map message_of exchanges) rest
    → Ending end (length taken) exchanges rest left' sent → ¬ HasFailed end → EndsAs bytes end
ending_ends end bytes taken rest sent exchanges left' reads within all (after text stay is h) sound = after_ends end bytes taken rest text exchanges left' reads within all stay h sound
ending_ends end bytes taken rest sent exchanges left' reads within all (with_last earlier last text is stay sent_is h) sound =
    last_ends end bytes taken rest text earlier last left' reads within (subst (λ e. Messages taken (map message_of e) rest) is all) stay h sound

-- where the source tells its bytes and nothing failed, the end is that of the bytes
pub of_bytes : {history : List Exchange → Type 0} {end : End} {left left' held held' : Option (List ℕ)} → Served history end left left' held held' → ¬ HasFailed end → IfSome left (λ bytes. EndsAs bytes end)
of_bytes {left = None} s sound = tt
of_bytes {end = end} {left = Some bytes} {left' = left'} s sound = ending_ends end bytes s.taken s.rest s.sent s.exchanges left' s.reads s.within s.messages s.ending sound

-- one thing stands at the front
same_front : (bytes : List ℕ) (one other : Front) → fronts.IsFront body_limit bytes one → fronts.IsFront body_limit bytes other → one ≡ other
same_front bytes one other h k = front_unique body_limit bytes one other h k

-- the bytes give one end
ends_once : (full : Bool) (bytes : List ℕ) (first second : List Message) (one other : End) → EndsAt full bytes first one → EndsAt full bytes second other → one ≡ other
ends_once full bytes [] [] one other (inl h) (inl k) =
    let same : fronts.Refused h.0 ≡ fronts.Refused k.0 = same_front bytes (fronts.Refused h.0) (fronts.Refused k.0) h.1 k.1 in
    let why : h.0 ≡ k.0 = cc same in
    h.2 ∙ ap (λ w. ends.Refused (refusal_status w)) why ∙ sym k.2
ends_once full bytes [] [] one other (inl h) (inr k) = let same : fronts.Refused h.0 ≡ fronts.Partial = same_front bytes (fronts.Refused h.0) fronts.Partial h.1 k.0 in absurd (cc same)
ends_once full bytes [] [] one other (inr h) (inl k) = let same : fronts.Refused k.0 ≡ fronts.Partial = same_front bytes (fronts.Refused k.0) fronts.Partial k.1 h.0 in absurd (cc same)
ends_once full bytes [] [] one other (inr h) (inr k) = h.1 ∙ sym k.1
ends_once full bytes [] (message ∷ second) one other (inl h) k =
    let same : fronts.Refused h.0 ≡ fronts.Message message.head message.body k.0 = same_front bytes (fronts.Refused h.0) (fronts.Message message.head message.body k.0) h.1 k.1 in absurd (cc same)
ends_once full bytes [] (message ∷ second) one other (inr h) k =
    let same : fronts.Partial ≡ fronts.Message message.head message.body k.0 = same_front bytes fronts.Partial (fronts.Message message.head message.body k.0) h.0 k.1 in absurd (cc same)
ends_once full bytes (message ∷ first) [] one other h (inl k) =
    let same : fronts.Refused k.0 ≡ fronts.Message message.head message.body h.0 = same_front bytes (fronts.Refused k.0) (fronts.Message message.head message.body h.0) k.1 h.1 in absurd (cc same)
ends_once full bytes (message ∷ first) [] one other h (inr k) =
    let same : fronts.Partial ≡ fronts.Message message.head message.body h.0 = same_front bytes fronts.Partial (fronts.Message message.head message.body h.0) k.0 h.1 in absurd (cc same)
ends_once full bytes (message ∷ first) (later ∷ second) one other h k =
    let same : fronts.Message message.head message.body h.0 ≡ fronts.Message later.head later.body k.0 = same_front bytes (fronts.Message message.head message.body h.0) (fronts.Message later.head later.body k.0) h.1 k.1 in
    let head : message.head ≡ later.head = cc same in
    let rest : h.0 ≡ k.0 = cc same in
    let closing : message.head.closes ≡ later.head.closes = ap (λ x. x.closes) head in
    step h.0 k.0 rest closing (λ x y. ends_once full h.0 first second one other x y) h.2 k.2
  where
    step : (rest rest' : List ℕ) → rest ≡ rest' → message.head.closes ≡ later.head.closes → (EndsAt full rest first one → EndsAt full rest second other → one ≡ other)
        → ((message.head.closes ≡ true) × (first ≡ []) × (one ≡ ends.Closed)) ⊎ ((message.head.closes ≡ false) × EndsAt full rest first one)
        → ((later.head.closes ≡ true) × (second ≡ []) × (other ≡ ends.Closed)) ⊎ ((later.head.closes ≡ false) × EndsAt full rest' second other) → one ≡ other
    step rest rest' e c again (inl x) (inl y) = x.2 ∙ sym y.2
    step rest rest' e c again (inl x) (inr y) = absurd (cc (x.0, y.0, c))
    step rest rest' e c again (inr x) (inl y) = absurd (cc (x.0, y.0, c))
    step rest rest' e c again (inr x) (inr y) = again x.1 (subst (λ r. EndsAt full r second other) (sym e) y.1)

pub one_end : (bytes : List ℕ) (one other : End) → EndsAs bytes one → EndsAs bytes other → one ≡ other
one_end bytes one other h k = ends_once (nat_le budget (length bytes)) (take budget bytes) h.messages k.messages one other h.ends_at k.ends_at
