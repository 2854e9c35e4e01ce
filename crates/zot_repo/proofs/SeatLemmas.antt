-- The entries that a row's calls make in a pool's history, one after another.
use Rattle.std.proofs.Common.{◌≡◌, ℕ, List, [], ◌∷◌, ◌++◌, Option, Some, IfSome, refl, sym, subst}
use Rattle.std.proofs.lemmas.List.{map-append}
use Rattle.std.specs.List.{AllByRecursion}
use Rattle.zot_contents.specs.Holders.{History, Moves, PoolEntry, carried_by, digest_in, name_in}
use Rattle.zot_contents.specs.Pool.{Holders, MayAnswer}
use Rattle.zot_contents.specs.declared.pool_call.PoolCall.{PoolCall}
use Rattle.zot_contents.specs.declared.pool_reply.PoolReply.{PoolReply}
use Rattle.zot_digest.specs.Digest.{IsDigest}
use Rattle.zot_history.proofs.Runs.{run_append, same_alike}
use Rattle.zot_history.specs.History.{signed}
use Rattle.zot_names.specs.Name.{IsName}
use Rattle.zot_repo.specs.Seats.{EntersPool}

-- no entry
pub enters_none : (name : List ℕ) (held : Holders) → EntersPool name held held
enters_none name held = record { entries = []; named = tt; history = λ seat. refl }

-- the entry of a call and its answer
pub enters_one : (name : List ℕ) (number before after : ℕ) (held behind : Holders) (asked : PoolCall) (answered : PoolReply) → IsName name → name_in asked ≡ Some name → IfSome (digest_in asked) IsDigest
    → MayAnswer number (record { held = held; faults = before }) asked answered (record { held = behind; faults = after }) → EntersPool name held behind
enters_one name number before after held behind asked answered is on of h =
    let entry : PoolEntry = record { call = asked; reply = answered; carried = carried_by held asked answered } in
    let moves : Moves held entry behind = record {
      named = subst (λ (o : Option (List ℕ)). IfSome o IsName) (sym on) is;
      digest = of;
      number = number;
      before = before;
      after = after;
      answers = h;
      carries = refl;
    } in
    record { entries = entry ∷ []; named = (on, tt); history = λ seat. (behind, moves, refl) }

all_named : (name : List ℕ) (entries others : List PoolEntry) → AllByRecursion (λ e. name_in e.call ≡ Some name) entries → AllByRecursion (λ e. name_in e.call ≡ Some name) others → AllByRecursion (λ e. name_in e.call ≡ Some name) (entries ++ others)
all_named name [] others h k = k
all_named name (entry ∷ entries) others h k = (h.0, all_named name entries others h.1 k)

-- entries, and others behind them
pub enters_then : (name : List ℕ) (held since behind : Holders) → EntersPool name held since → EntersPool name since behind → EntersPool name held behind
enters_then name held since behind h k = record {
  entries = h.entries ++ k.entries;
  named = all_named name h.entries k.entries h.named k.named;
  history = λ seat. subst (λ (es : List (ℕ × PoolEntry)). History held es behind) (sym (map-append (λ e. (seat, e)) h.entries k.entries))
      (run_append (λ s t. s ≡ t) (λ before x later. Moves before x.1 later) (same_alike (λ before x later. Moves before x.1 later)) held since behind (signed seat h.entries) (signed seat k.entries) (h.history seat) (k.history seat));
}
