-- Entries of a connection's requests, one after another.
use Rattle.std.proofs.Common.{◌≡◌, ◌≢◌, ◌≤◌, arith, inl, inr, ℕ, true, List, [], ◌∷◌, ◌++◌, Option, Some, None, refl}
use Rattle.std.specs.Prelude.{◌⊎◌, IsSomeAnd}
use Rattle.zot_repo.specs.declared.row_config.RowConfig.{RowConfig}
use Rattle.zot_history.specs.History.{entries_of}
use Rattle.zot_member.specs.Places.{place_by}
use Rattle.zot_member.specs.declared.place.Place.{Place}
use Rattle.zot_member.specs.declared.place.Place.TheVariants as places
use Rattle.zot_model.proofs.HistoryLemmas.{run_later, step_later}
use Rattle.zot_model.specs.declared.call.Call.{Call}
use Rattle.zot_model.specs.declared.reply.Reply.{Reply}
use Rattle.zot_model.specs.declared.request.Request.{Request}
use Rattle.zot_model.specs.History.{Entry, Event, Happens, Run, asked, failed, lacked, mounted, named, retired, scrubbed, swept, swept_all}
use Rattle.zot_model.specs.Plain.{Goes, IsPlain, MayAnswer, Stay}
use Rattle.zot_model.specs.Refusals.{no_memory}
use Rattle.zot_model.specs.State.{RowState}
use Rattle.zot_outside.proofs.MomentLemmas.{at_before}
use Rattle.zot_outside.specs.Faults.{Rose}
use Rattle.zot_outside.specs.Moments.{StaysAt}
use Rattle.zot_rows.proofs.HistoryLemmas.{each_append, each_itself}
use Rattle.zot_rows.specs.Histories.{EachRuns, RowStates}
use Rattle.zot_session.specs.Exchanges.{Exchange, answered, declined}
use Rattle.zot_session.specs.Messages.{Message}
use Rattle.zot_spell.specs.Wire.{with_hop}
use Rattle.zot_cluster.specs.Entries.{AllHadMemory, AreEntries, AreMade, AreOf, HadMemory, HappensPlainly, PlainRun, Records}

-- ---- what the clock tells

of_before : (config : RowConfig) (told later : Option ℕ) (request : Request) (answer : Reply) (made : List (ℕ × Entry)) → StaysAt told later → AreOf config later request answer made → AreOf config told request answer made
of_before config told later request answer made h k = record { moment = k.moment; at = at_before told later k.moment h k.at; entries = k.entries; stand = k.stand; made_is = k.made_is }

lost_before : (config : RowConfig) (told later : Option ℕ) (request : Request) (made : List (ℕ × Entry)) → StaysAt told later
    → (made ≡ []) ⊎ ((answer : Reply) × AreOf config later (with_hop request true) answer made) → (made ≡ []) ⊎ ((answer : Reply) × AreOf config told (with_hop request true) answer made)
lost_before config told later request made h (inl none) = inl none
lost_before config told later request made h (inr own) = inr (own.0, of_before config told later (with_hop request true) own.0 made h own.1)

-- a request's entries at the moment that the clock tells later are at the one that it told before
made_before : (place : Place) (config : RowConfig) (told later : Option ℕ) (request : Request) (reply : Reply) (made : List (ℕ × Entry)) → StaysAt told later → AreMade place config later request reply made → AreMade place config told request reply made
made_before places.Base config told later request reply made h k = k
made_before places.Own config told later request reply made h k = of_before config told later request reply made h k
made_before places.Refused config told later request reply made h k = k
made_before (places.Foreign owner) config told later request reply made h (inl carried) =
    inl (record { answer = carried.answer; own = of_before config told later (with_hop request true) carried.answer made h carried.own; alike = carried.alike })
made_before (places.Foreign owner) config told later request reply made h (inr lost) =
    inr (record { reply_is = lost.reply_is; lost = lost_before config told later request made h lost.lost })

entries_before : (config : RowConfig) (member : ℕ) (told later : Option ℕ) (exchanges : List Exchange) (made : List (ℕ × Entry)) → StaysAt told later → AreEntries config member later exchanges made → AreEntries config member told exchanges made
entries_before config member told later [] made h k = k
entries_before config member told later (answered message request reply ∷ exchanges) made h k =
    (k.0, k.1, made_before (place_by config member request) config told later request reply k.0 h k.2, entries_before config member told later exchanges k.1 h k.3, k.4)
entries_before config member told later (declined message reply ∷ exchanges) made h k = entries_before config member told later exchanges made h k

-- ---- answers of the plain registry

pub rose_later : (before mid after : ℕ) → mid ≤ after → Rose before mid → Rose before after
rose_later before mid after later rose = omega (arith, later, rose)

pub rose_since : (before mid after : ℕ) → before ≤ mid → Rose mid after → Rose before after
rose_since before mid after later rose = omega (arith, later, rose)

plain_happens : (name : Option (List ℕ)) (moment : ℕ) (old new : RowState) (call : Call) (reply : Reply) → IsSomeAnd name (λ one. MayAnswer moment old one call reply new) → reply ≢ no_memory → ¬ Rose old.faults new.faults
    → IsSomeAnd name (λ one. Goes Stay (λ repo after. IsPlain moment repo call reply after) old one new)
plain_happens None moment old new call reply h had none = h
plain_happens (Some name) moment old new call reply (inl plain) had none = plain
plain_happens (Some name) moment old new call reply (inr (inl lacks)) had none = absurd (had lacks.way.reply_is)
plain_happens (Some name) moment old new call reply (inr (inr fails)) had none = absurd (none fails.faults.rose)

plain_step : (event : Event) (moment : ℕ) (old new : RowState) → Happens old moment event new → HadMemory event → ¬ Rose old.faults new.faults → HappensPlainly old moment event new
plain_step (asked request reply) moment old new h had none = plain_happens request.name moment old new request.call reply h had none
plain_step (mounted request reply bytes) moment old new h had none = h
plain_step (retired name rules delay gone) moment old new h had none = h
plain_step (swept name delay digest) moment old new h had none = h
plain_step (swept_all name delay) moment old new h had none = h
plain_step (scrubbed name blobs found) moment old new h had none = h
plain_step (named found) moment old new h had none = h
plain_step (lacked task) moment old new h had none = had
plain_step (failed task) moment old new h had none = absurd (none h.faults.rose)

-- where no entry of a run says that memory ran out, and the count of storage faults didn't rise, each is the plain registry's answer
plain_run : (old new : RowState) (entries : List Entry) → Run old entries new → AllHadMemory entries → ¬ Rose old.faults new.faults → PlainRun old entries new
plain_run old new [] h had none = h
plain_run old new (entry ∷ entries) h had none =
    let later = run_later h.0 new entries h.2 in
    let before = step_later old h.0 entry h.1 in (
      h.0,
      (plain_step entry.event entry.moment old h.0 h.1.happens had.0 (λ rose. none (rose_later old.faults h.0.faults new.faults later rose)), h.1.faults),
      plain_run h.0 new entries h.2 had.1 (λ rose. none (rose_since old.faults h.0.faults new.faults before rose)),
    )

-- ---- the rows

-- entries of some exchanges that lead from these rows to those
pub recorded : (config : RowConfig) (member : ℕ) (told : Option ℕ) (old new : RowStates) (exchanges : List Exchange) (made : List (ℕ × Entry)) → AreEntries config member told exchanges made → EachRuns old made new → Records config member told old exchanges new
recorded config member told old new exchanges made own run = record { made = made; own = own; run = run; complete = λ row had none. plain_run (old row) (new row) (entries_of row made) (run row) had none }

-- no exchange has an entry
pub records_none : (config : RowConfig) (member : ℕ) (told : Option ℕ) (rows : RowStates) → Records config member told rows [] rows
records_none config member told rows = recorded config member told rows rows [] [] refl (each_itself rows)

-- entries of one request lead from these rows to those
pub record IsMade (place : Place) (config : RowConfig) (told : Option ℕ) (request : Request) (reply : Reply) (old new : RowStates) : Type 0 where
  pub made : List (ℕ × Entry)
  pub are : AreMade place config told request reply made
  pub runs : EachRuns old made new

-- a request's entries and then those of others, where the clock still tells the moment that it told before
pub with_request : (config : RowConfig) (member : ℕ) (told later : Option ℕ) (old mid new : RowStates) (message : Message) (request : Request) (reply : Reply) (exchanges : List Exchange) → StaysAt told later
    → IsMade (place_by config member request) config told request reply old mid → Records config member later mid exchanges new → Records config member told old (answered message request reply ∷ exchanges) new
with_request config member told later old mid new message request reply exchanges stays one ran =
    recorded config member told old new (answered message request reply ∷ exchanges) (one.made ++ ran.made)
    (one.made, ran.made, one.are, entries_before config member told later exchanges ran.made stays ran.own, refl)
    (each_append old mid new one.made ran.made one.runs ran.run)

-- a message that asks for nothing has no entry
pub with_declined : (config : RowConfig) (member : ℕ) (told : Option ℕ) (old new : RowStates) (message : Message) (reply : Reply) (exchanges : List Exchange) → Records config member told old exchanges new
    → Records config member told old (declined message reply ∷ exchanges) new
with_declined config member told old new message reply exchanges ran = record { made = ran.made; own = ran.own; run = ran.run; complete = ran.complete }
