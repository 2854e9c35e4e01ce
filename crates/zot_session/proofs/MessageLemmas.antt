-- The messages of a list of bytes, with more bytes after, and one message after another.
use Rattle.std.proofs.Common.{◌≡◌, ℕ, ◌<◌, List, [], ◌∷◌, ◌++◌, length, map, refl, sym, ap, ◌∙◌, subst, arith}
use Rattle.std.proofs.lemmas.List.{length-drop}
use Rattle.std.specs.List.{AllByRecursion}
use Rattle.zot_head.specs.Front.{Refusal}
use Rattle.zot_head.specs.Front as fronts
use Rattle.zot_head.proofs.FrontLemmas.{front_stays, front_takes}
use Rattle.zot_model.specs.Valid.{body_limit}
use Rattle.zot_session.specs.Messages.{IsRefused, Message, Messages, Stands}
use Rattle.zot_session.specs.Exchanges.{Exchange, message_of, output, spelled}
use Rattle.std.proofs.lemmas.List.{append_assoc, append-nil}

-- a whole message stays what it is with more bytes after
pub stands_more : (bytes more : List ℕ) (message : Message) (rest : List ℕ) → Stands bytes message rest → Stands (bytes ++ more) message (rest ++ more)
stands_more bytes more message rest h = front_stays body_limit bytes more (fronts.Message message.head message.body rest) h tt

-- and so does a refusal
pub refused_more : (bytes more : List ℕ) (why : Refusal) → IsRefused bytes why → IsRefused (bytes ++ more) why
refused_more bytes more why h = front_stays body_limit bytes more (fronts.Refused why) h tt

-- a whole message takes at least one byte
pub stands_size : (bytes : List ℕ) (message : Message) (rest : List ℕ) → Stands bytes message rest → length rest < length bytes
stands_size bytes message rest h =
    let t = front_takes body_limit bytes message.head message.body rest h in
    let some = t.some in
    let within = t.within in
    let shorter = length-drop t.taken bytes in
    let same = ap length t.rest_is in
    omega arith

-- the messages stay with more bytes after
pub Messages-more : (bytes more : List ℕ) (messages : List Message) (rest : List ℕ) → Messages bytes messages rest → Messages (bytes ++ more) messages (rest ++ more)
Messages-more bytes more [] rest h = ap (λ b. b ++ more) h
Messages-more bytes more (message ∷ messages) rest h = (h.0 ++ more, stands_more bytes more message h.0 h.1, Messages-more h.0 more messages rest h.2)

-- a message more
pub Messages-push : (bytes : List ℕ) (messages : List Message) (rest : List ℕ) (last : Message) (next : List ℕ) → Messages bytes messages rest → Stands rest last next
    → Messages bytes (messages ++ last ∷ []) next
Messages-push bytes [] rest last next h k = (next, subst (λ b. Stands b last next) (sym h) k, refl)
Messages-push bytes (message ∷ messages) rest last next h k = (h.0, h.1, Messages-push h.0 messages rest last next h.2 k)

-- the last message by itself
pub Messages-last : (bytes : List ℕ) (messages : List Message) (last : Message) (rest : List ℕ) → Messages bytes (messages ++ last ∷ []) rest
    → (mid : List ℕ) × Messages bytes messages mid × Stands mid last rest
Messages-last bytes [] last rest h = (bytes, refl, subst (λ r. Stands bytes last r) h.2 h.1)
Messages-last bytes (message ∷ messages) last rest h =
    let more = Messages-last h.0 messages last rest h.2 in
    (more.0, (h.0, h.1, more.1), more.2)

-- a fact of each, and of one more
pub all_push : {X : Type 0} (P : X → Type 0) (xs : List X) (x : X) → AllByRecursion P xs → P x → AllByRecursion P (xs ++ x ∷ [])
all_push P [] x h k = (k, tt)
all_push P (y ∷ ys) x h k = (h.0, all_push P ys x h.1 k)

pub map-push : (exchanges : List Exchange) (last : Exchange) → map message_of (exchanges ++ last ∷ []) ≡ map message_of exchanges ++ message_of last ∷ []
map-push [] last = refl
map-push (first ∷ exchanges) last = ap (λ messages. message_of first ∷ messages) (map-push exchanges last)

pub output-push : (exchanges : List Exchange) (last : Exchange) → output (exchanges ++ last ∷ []) ≡ output exchanges ++ spelled last
output-push [] last = append-nil (spelled last)
output-push (first ∷ exchanges) last = ap (λ text. spelled first ++ text) (output-push exchanges last) ∙ sym (append_assoc (spelled first) (output exchanges) (spelled last))
