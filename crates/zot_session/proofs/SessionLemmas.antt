-- A connection so far, turn by turn.
use Rattle.std.proofs.Common.{◌≡◌, ℕ, ◌+◌, ◌-◌, ◌*◌, ◌<◌, ◌≤◌, List, [], ◌∷◌, ◌++◌, length, map, Option, refl, sym, ap, subst, arith}
use Rattle.std.proofs.lemmas.List.{length-append}
use Rattle.std.specs.List.{AllByRecursion}
use Rattle.zot_model.specs.declared.reply.Reply.{Reply}
use Rattle.zot_model.specs.declared.request.Request.{Request}
use Rattle.zot_outside.specs.Streams.{Appends, Takes}
use Rattle.zot_outside.proofs.StreamLemmas.{Appends-append, Appends-nil, Takes-append, Takes-nil}
use Rattle.zot_session.specs.declared.end.End.{End}
use Rattle.zot_session.specs.declared.end.End.TheVariants as ends
use Rattle.zot_session.specs.Cuts.{budget}
use Rattle.zot_session.specs.Ending.{EndsAfter, after, unread, with_last}
use Rattle.zot_session.specs.Exchanges.{Conducts, Exchange, IsRouted, StayOpen, answered, closes, declined, message_of, output, spelled}
use Rattle.zot_session.specs.Messages.{Messages}
use Rattle.zot_session.specs.Receiving.{Took}
use Rattle.zot_session.specs.Session.{Served}
use Rattle.zot_session.specs.Turn.{AnswersFront, GoesOn, Stops, TurnEnds, receiving, replying}
use Rattle.zot_session.specs.Waiting.{Waiting}
use Rattle.zot_session.proofs.MessageLemmas.{Messages-more, Messages-push, all_push, map-push, output-push, stands_size}
use Rattle.std.proofs.Common.{false}

-- a connection so far: what was taken is the exchanges' messages and what waits, all their replies were written, and none of them closes the connection
pub record SoFar {A : Type 0} (answers : A → Request → Reply → A → Type 0) (old now : A) (left_before left_now held_before held_now : Option (List ℕ)) (waits : Waiting) : Type 0 where
  pub taken : List ℕ
  pub exchanges : List Exchange
  pub reads : Takes left_before taken left_now
  pub writes : Appends held_before (output exchanges) held_now
  pub messages : Messages taken (map message_of exchanges) waits.bytes
  pub routed : AllByRecursion IsRouted exchanges
  pub stay : StayOpen exchanges
  pub history : Conducts answers old exchanges now
  pub counted : length taken ≡ waits.taken
  pub within : waits.taken ≤ budget

module _ {A : Type 0} (answers : A → Request → Reply → A → Type 0) where
  Conducts-append : (old mid new : A) (first second : List Exchange) → Conducts answers old first mid → Conducts answers mid second new → Conducts answers old (first ++ second) new
  Conducts-append old mid new [] second h k = subst (λ a. Conducts answers a second new) h k
  Conducts-append old mid new (answered message request reply ∷ first) second h k = (h.0, h.1, Conducts-append h.0 mid new first second h.2 k)
  Conducts-append old mid new (declined message reply ∷ first) second h k = Conducts-append old mid new first second h k

  -- nothing was taken yet
  pub so_far_start : (old : A) (left held : Option (List ℕ)) (waits : Waiting) → waits ≡ record { bytes = []; spent = 0; taken = 0 } → SoFar answers old old left left held held waits
  so_far_start old left held waits is = record {
    taken = [];
    exchanges = [];
    reads = Takes-nil left;
    writes = Appends-nil held;
    messages = sym (ap (λ (w : Waiting). w.bytes) is);
    routed = tt;
    stay = tt;
    history = refl;
    counted = sym (ap (λ (w : Waiting). w.taken) is);
    within = let none = ap (λ (w : Waiting). w.taken) is in omega arith;
  }

  -- a message more
  pushed : {now new : A} {was : Waiting} {came rest : List ℕ} (taken : List ℕ) (exchanges : List Exchange) (a : AnswersFront answers now new was came rest) → Messages taken (map message_of exchanges) was.bytes
      → Messages (taken ++ came) (map message_of (exchanges ++ a.exchange ∷ [])) rest
  pushed {was = was} {came = came} {rest = rest} taken exchanges a h =
      subst (λ messages. Messages (taken ++ came) messages rest) (sym (map-push exchanges a.exchange))
      (Messages-push (taken ++ came) (map message_of exchanges) (was.bytes ++ came) (message_of a.exchange) rest (Messages-more taken came (map message_of exchanges) was.bytes h) a.front)

  -- how many bytes were taken with those that came
  counted_more : {old now : A} {left_before left left' held_before held : Option (List ℕ)} {was is : Waiting} {came : List ℕ} (s : SoFar answers old now left_before left held_before held was) → Took was is came left left'
      → length (s.taken ++ came) ≡ is.taken
  counted_more {came = came} s t =
      let longer = length-append s.taken came in
      let before = s.counted in
      let taken = t.taken in
      omega arith

  module _ {old now new : A} {left_before left left' held_before held held' : Option (List ℕ)} {was is : Waiting} (s : SoFar answers old now left_before left held_before held was) where
    -- one turn more
    pub so_far_more : GoesOn answers now new left left' held held' was is → SoFar answers old new left_before left' held_before held' is
    so_far_more g =
        let a = g.answer in
        record {
          taken = s.taken ++ g.came;
          exchanges = s.exchanges ++ a.exchange ∷ [];
          reads = Takes-append left_before left left' s.taken g.came s.reads g.took.reads;
          writes = subst (λ text. Appends held_before text held') (sym (output-push s.exchanges a.exchange)) (Appends-append held_before held held' (output s.exchanges) (spelled a.exchange) s.writes g.writes);
          messages = pushed s.taken s.exchanges a s.messages;
          routed = all_push IsRouted s.exchanges a.exchange s.routed a.routed;
          stay = all_push (λ exchange. closes exchange ≡ false) s.exchanges a.exchange s.stay g.stays;
          history = Conducts-append old now new s.exchanges (a.exchange ∷ []) s.history a.conducts;
          counted = counted_more s g.took;
          within = g.took.within s.within;
        }

    -- the end of the connection
    pub so_far_ends : {end : End} → Stops answers end now new left left' held held' was is → Served (λ exchanges. Conducts answers old exchanges new) end left_before left' held_before held'
    so_far_ends {end} k = by k.ends
      where
        size : is.taken ≡ length (s.taken ++ k.came)
        size = sym (counted_more s k.took)

        within : length (s.taken ++ k.came) ≤ budget
        within = subst (λ n. n ≤ budget) size (k.took.within s.within)

        by : TurnEnds answers end now new left' was is k.came k.text → Served (λ exchanges. Conducts answers old exchanges new) end left_before left' held_before held'
        by (receiving same ending) = record {
          taken = s.taken ++ k.came;
          exchanges = s.exchanges;
          rest = was.bytes ++ k.came;
          sent = output s.exchanges ++ k.text;
          reads = Takes-append left_before left left' s.taken k.came s.reads k.took.reads;
          writes = Appends-append held_before held held' (output s.exchanges) k.text s.writes k.writes;
          messages = Messages-more s.taken k.came (map message_of s.exchanges) was.bytes s.messages;
          routed = s.routed;
          has_history = subst (λ a. Conducts answers old s.exchanges a) (sym same) s.history;
          within = within;
          ending = after k.text s.stay refl (subst (λ n. EndsAfter end n (was.bytes ++ k.came) left' k.text) size ending);
        }
        by (replying rest a ending) = record {
          taken = s.taken ++ k.came;
          exchanges = s.exchanges ++ a.exchange ∷ [];
          rest = rest;
          sent = output s.exchanges ++ k.text;
          reads = Takes-append left_before left left' s.taken k.came s.reads k.took.reads;
          writes = Appends-append held_before held held' (output s.exchanges) k.text s.writes k.writes;
          messages = pushed s.taken s.exchanges a s.messages;
          routed = all_push IsRouted s.exchanges a.exchange s.routed a.routed;
          has_history = Conducts-append old now new s.exchanges (a.exchange ∷ []) s.history a.conducts;
          within = within;
          ending = with_last s.exchanges a.exchange k.text refl s.stay refl ending;
        }

  -- each turn that goes on brings the end nearer
  pub smaller : {now new : A} {left left' held held' : Option (List ℕ)} {was is : Waiting} → was.taken ≤ budget → GoesOn answers now new left left' held held' was is
      → 2 * (budget - is.taken) + length is.bytes < 2 * (budget - was.taken) + length was.bytes
  smaller {was = was} {is = is} within g =
      let shorter = stands_size (was.bytes ++ g.came) (message_of g.answer.exchange) is.bytes g.answer.front in
      let longer = length-append was.bytes g.came in
      let taken = g.took.taken in
      let fits = g.took.within within in
      omega arith

-- a connection for which memory ran out before it began
pub never_began : (history : List Exchange → Type 0) → history [] → (left held : Option (List ℕ)) → Served history ends.NoMemory left left held held
never_began history none left held = record {
  taken = [];
  exchanges = [];
  rest = [];
  sent = [];
  reads = Takes-nil left;
  writes = Appends-nil held;
  messages = refl;
  routed = tt;
  has_history = none;
  within = omega arith;
  ending = after [] tt refl (unread refl refl);
}

-- another history of the same exchanges
pub served_map : {first : List Exchange → Type 0} {end : End} {left left' held held' : Option (List ℕ)} (second : List Exchange → Type 0) → ((exchanges : List Exchange) → AllByRecursion IsRouted exchanges → first exchanges → second exchanges)
    → Served first end left left' held held' → Served second end left left' held held'
served_map second f s = record {
  taken = s.taken;
  exchanges = s.exchanges;
  rest = s.rest;
  sent = s.sent;
  reads = s.reads;
  writes = s.writes;
  messages = s.messages;
  routed = s.routed;
  has_history = f s.exchanges s.routed s.has_history;
  within = s.within;
  ending = s.ending;
}
