-- The entries that the requests of a connection make in the rows of a cluster, each with the number of its row.
use Rattle.std.specs.Prelude.{◌≡◌, ◌≢◌, ◌⊎◌, ℕ, true, List, [], ◌∷◌, ◌++◌, Option, IsSomeAnd, ⊤}
use Rattle.std.specs.List.{AllByRecursion}
use Rattle.zot_repo.specs.declared.row_config.RowConfig.{RowConfig}
use Rattle.zot_history.specs.History.{entries_of, signed}
use Rattle.zot_history.specs.Run.{RunTo}
use Rattle.zot_member.specs.Places.{place_by}
use Rattle.zot_member.specs.declared.place.Place.{Place}
use Rattle.zot_member.specs.declared.place.Place.TheVariants as places
use Rattle.zot_model.specs.Calls.{is_head}
use Rattle.zot_model.specs.declared.reply.Reply.{Reply}
use Rattle.zot_model.specs.declared.reply.Reply.TheVariants.{Base}
use Rattle.zot_model.specs.declared.request.Request.{Request}
use Rattle.zot_model.specs.declared.row.RowCall.TheVariants.{Ask}
use Rattle.zot_model.specs.declared.row.RowReply.TheVariants as answers
use Rattle.zot_model.specs.History.{Entry, Event, Happens, StandFor, asked, failed, lacked, mounted, named, retired, scrubbed, swept, swept_all}
use Rattle.zot_model.specs.Plain.{Goes, IsPlain, Stay}
use Rattle.zot_model.specs.Refusals.{hop_refused, no_memory}
use Rattle.zot_model.specs.State.{AreSame, RowState}
use Rattle.zot_outside.specs.Faults.{Rose}
use Rattle.zot_outside.specs.Moments.{IsAt}
use Rattle.zot_rows.specs.Histories.{EachRuns, RowStates}
use Rattle.zot_rows.specs.Rows.{row_by}
use Rattle.zot_session.specs.Exchanges.{Exchange, answered, declined}
use Rattle.zot_spell.specs.Alike.{AreAlike}
use Rattle.zot_spell.specs.Wire.{with_hop}

-- ---- one request

-- these entries, of the row of the repository that a request is on, stand for the request and its answer, at the moment that a clock tells
pub record AreOf (config : RowConfig) (told : Option ℕ) (request : Request) (answer : Reply) (made : List (ℕ × Entry)) : Type 0 where
  pub moment : ℕ
  pub at : IsAt told moment
  pub entries : List Entry
  pub stand : StandFor (Ask request) moment (answers.Reply answer) entries
  pub made_is : IsSomeAnd request.name (λ name. made ≡ signed (row_by config name) entries)

-- a request was handed on to the member that owns its repository, and these are the entries of that: the reply is equal to the answer that they say up to its spelling
pub record AreCarried (config : RowConfig) (told : Option ℕ) (request : Request) (reply : Reply) (made : List (ℕ × Entry)) : Type 0 where
  pub answer : Reply
  pub own : AreOf config told (with_hop request true) answer made
  pub alike : AreAlike (is_head request.call) answer reply

-- memory ran out on the way: before the owner answered, or behind it, and then its reply was lost
pub record AreLost (config : RowConfig) (told : Option ℕ) (request : Request) (reply : Reply) (made : List (ℕ × Entry)) : Type 0 where
  pub reply_is : reply ≡ no_memory
  pub lost : (made ≡ []) ⊎ ((answer : Reply) × AreOf config told (with_hop request true) answer made)

-- the entries of a request at such a place, and its reply
abbrev pub AreMade : Place → RowConfig → Option ℕ → Request → Reply → List (ℕ × Entry) → Type 0
AreMade places.Base config told request reply made = (reply ≡ Base) × (made ≡ [])
AreMade places.Own config told request reply made = AreOf config told request reply made
AreMade places.Refused config told request reply made = (reply ≡ hop_refused) × (made ≡ [])
AreMade (places.Foreign owner) config told request reply made = AreCarried config told request reply made ⊎ AreLost config told request reply made

-- ---- the requests of a connection

-- the entries of some exchanges at the member with this number: each request has its own, once and in order
abbrev pub AreEntries : RowConfig → ℕ → Option ℕ → List Exchange → List (ℕ × Entry) → Type 0
AreEntries config member told [] made = made ≡ []
AreEntries config member told (answered message request reply ∷ exchanges) made =
    (first : List (ℕ × Entry)) × (others : List (ℕ × Entry)) × AreMade (place_by config member request) config told request reply first × AreEntries config member told exchanges others × (made ≡ first ++ others)
AreEntries config member told (declined message reply ∷ exchanges) made = AreEntries config member told exchanges made

-- ---- where nothing is wanting

-- what happened is what the plain registry does by the first case that fits
abbrev pub HappensPlainly : RowState → ℕ → Event → RowState → Type 0
HappensPlainly old moment (asked request reply) new = IsSomeAnd request.name (λ name. Goes Stay (λ repo after. IsPlain moment repo request.call reply after) old name new)
HappensPlainly old moment (mounted request reply bytes) new = Happens old moment (mounted request reply bytes) new
HappensPlainly old moment (retired name rules delay gone) new = Happens old moment (retired name rules delay gone) new
HappensPlainly old moment (swept name delay digest) new = Happens old moment (swept name delay digest) new
HappensPlainly old moment (swept_all name delay) new = Happens old moment (swept_all name delay) new
HappensPlainly old moment (scrubbed name blobs found) new = Happens old moment (scrubbed name blobs found) new
HappensPlainly old moment (named found) new = Happens old moment (named found) new
HappensPlainly old moment (lacked task) new = ⊥
HappensPlainly old moment (failed task) new = ⊥

abbrev pub PlainStep : RowState → Entry → RowState → Type 0
PlainStep old entry new = HappensPlainly old entry.moment entry.event new × (entry.faults ≡ new.faults)

-- each of the entries is such a step, one after another
abbrev pub PlainRun : RowState → List Entry → RowState → Type 0
PlainRun old entries new = RunTo AreSame PlainStep old entries new

-- no entry says that memory ran out
abbrev pub HadMemory : Event → Type 0
HadMemory (asked request reply) = reply ≢ no_memory
HadMemory (mounted request reply bytes) = ⊤
HadMemory (retired name rules delay gone) = ⊤
HadMemory (swept name delay digest) = ⊤
HadMemory (swept_all name delay) = ⊤
HadMemory (scrubbed name blobs found) = ⊤
HadMemory (named found) = ⊤
HadMemory (lacked task) = ⊥
HadMemory (failed task) = ⊤

abbrev pub AllHadMemory : List Entry → Type 0
AllHadMemory entries = AllByRecursion (λ entry. HadMemory entry.event) entries

-- The entries of some exchanges lead each row from its old state to its new one. Where none of a row's says that memory ran out, and its count of storage faults didn't rise, each of them is the plain registry's answer
pub record Records (config : RowConfig) (member : ℕ) (told : Option ℕ) (old : RowStates) (exchanges : List Exchange) (new : RowStates) : Type 0 where
  pub made : List (ℕ × Entry)
  pub own : AreEntries config member told exchanges made
  pub run : EachRuns old made new
  pub complete : (row : ℕ) → AllHadMemory (entries_of row made) → ¬ Rose (old row).faults (new row).faults → PlainRun (old row) (entries_of row made) (new row)
