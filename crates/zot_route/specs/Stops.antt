-- What holds of what was read, unless memory ran out.
use Rattle.std.specs.Prelude.{◌≡◌, Result, Ok, Err, ⊤}
use Rattle.zot_model.specs.declared.call.Call.{Call}
use Rattle.zot_model.specs.declared.reply.Reply.{Reply}
use Rattle.zot_route.specs.Calls.{CallOrRefusal}
use Rattle.zot_route.specs.declared.stop.Stop.{Stop}
use Rattle.zot_route.specs.declared.stop.Stop.TheVariants as stops

-- what was read, or the refusal, is one of these
abbrev pub UnlessNoMemory : {X : Type 0} → Result X Stop → (Result X Reply → Type 0) → Type 0
UnlessNoMemory (Ok x) P = P (Ok x)
UnlessNoMemory (Err (stops.Refused reply)) P = P (Err reply)
UnlessNoMemory (Err stops.NoMemory) P = ⊤

-- memory didn't run out, and this call was read, or this refusal
abbrev pub Gives : Result Call Stop → CallOrRefusal → Type 0
Gives (Ok call) given = given ≡ Ok call
Gives (Err (stops.Refused reply)) given = given ≡ Err reply
Gives (Err stops.NoMemory) given = ⊥
