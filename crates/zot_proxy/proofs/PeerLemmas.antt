-- Peers in memory: the next ask.
use Rattle.std.proofs.Common.{◌≡◌, ℕ, ◌+◌, ◌-◌, ◌^◌, ◌<◌, ◌==◌, length, get_or, ◌∷◌, [], min, arith, Bool, List, sym, ap, ◌∙◌}
use Rattle.std.specs.List.{list_any}
use Rattle.zot_model.specs.declared.reply.Reply.{Reply}
use Rattle.zot_proxy.specs.declared.asked.Asked.{Asked}
use Rattle.zot_proxy.specs.Peers.{Script, is_listed, next_number}

-- the next ask is listed where its number is found
pub listed_is : (script : Script) (failing : List ℕ) (asked : List Asked) (number : ℕ) (found : Bool) → failing ≡ script.failing → asked ≡ script.asked
    → number ≡ min (length asked + 1) (2 ^ 64 - 1) → found ≡ list_any (λ n. n == number) failing → is_listed script ≡ found
listed_is script failing asked number found fails asks is e =
    let here : next_number script ≡ number = ap (λ (a : List Asked). min (length a + 1) (2 ^ 64 - 1)) (sym asks) ∙ sym is in
    ap (λ (list : List ℕ). list_any (λ n. n == next_number script) list) (sym fails) ∙ ap (λ (k : ℕ). list_any (λ n. n == k) failing) here ∙ sym e

-- a reply at the front is the next one
pub front_is : (left : List Reply) (reply : Reply) → 0 < length left → reply ≡ get_or left 0 reply → (rest : List Reply) × (left ≡ reply ∷ rest)
front_is [] reply some e = absurd (omega (arith, some))
front_is (first ∷ rest) reply some e = (rest, ap (λ (r : Reply). r ∷ rest) (sym e))
