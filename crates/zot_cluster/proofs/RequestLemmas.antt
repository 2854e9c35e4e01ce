-- What a request at a member makes: its entries, and where its reply may say that the storage failed.
use Rattle.std.proofs.Common.{◌≡◌, ◌≢◌, ◌*◌, ℕ, true, false, Bool, List, [], length, Option, Some, None, IfSome, IsSome, option_map, inl, inr, refl, sym, ap, subst, ◌∙◌, arith}
use Rattle.std.specs.Prelude.{◌⊎◌, IsSomeAnd, slice_index, unwrap_or, if◌then◌else◌}
use Rattle.std.proofs.lemmas.List.{ext_get_or, length-map}
use Rattle.std.proofs.lemmas.Option.{slice_get-map, unwrap_or-slice_get}
use mathlib.Core.Logic.{dite}
use native.Mathlib.Decide.{ℕ_discrete}
use Rattle.zot_repo.specs.declared.row_config.RowConfig.{RowConfig}
use Rattle.zot_history.specs.History.{signed}
use Rattle.zot_member.specs.Answering.{AnswersIn}
use Rattle.zot_member.specs.Neighbours.{CarriesBack, MakesAt}
use Rattle.zot_member.specs.Places.{place_named}
use Rattle.zot_member.specs.declared.place.Place.{Place}
use Rattle.zot_member.specs.declared.place.Place.TheVariants as places
use Rattle.zot_model.specs.Calls.{is_head}
use Rattle.zot_model.specs.History.{Entry}
use Rattle.zot_model.specs.Refusals.{hop_refused, no_memory, storage_fault}
use Rattle.zot_model.specs.declared.detail.Detail.{Detail}
use Rattle.zot_model.specs.declared.detail.Detail.TheVariants as details
use Rattle.zot_model.specs.declared.reply.Reply.{Reply}
use Rattle.zot_model.specs.declared.reply.Reply.TheVariants as replies
use Rattle.zot_model.specs.declared.request.Request.{Request}
use Rattle.zot_model.specs.declared.row.RowCall.TheVariants.{Ask}
use Rattle.zot_model.specs.declared.row.RowReply.TheVariants as answers
use Rattle.zot_outside.specs.Faults.{Rose}
use Rattle.zot_outside.specs.Moments.{IsAt}
use Rattle.zot_outside.specs.declared.stores.store.Store.{Ghosts}
use Rattle.zot_pool.specs.Pools.{ChangesOnly}
use Rattle.zot_repo.specs.declared.shard.RepoShard.{RepoShard}
use Rattle.zot_rows.proofs.HistoryLemmas.{each_itself}
use Rattle.zot_rows.specs.Histories.{BothTell, EachRuns, EntersRow, RowStates}
use Rattle.zot_rows.specs.Rows.{AreAgreedIn, HasRowFault, part_faults, pool_faults, row_by, row_for, states_of}
use Rattle.zot_rows.specs.declared.rows.Rows.{Rows}
use Rattle.zot_spell.specs.Alike.{AreAlike, AreDetailsAlike}
use Rattle.zot_spell.specs.Wire.{with_hop}
use Rattle.zot_cluster.proofs.EntryLemmas.{IsMade}
use Rattle.zot_cluster.specs.Connections.{HasReplyCause, failures_of}
use Rattle.zot_cluster.specs.Entries.{AreMade, AreOf}

-- ---- what is told

pub tell_itself : (told : Option RowStates) (P : RowStates → RowStates → Type 0) → ((rows : RowStates) → P rows rows) → BothTell told told P
tell_itself None P so = refl
tell_itself (Some rows) P so = so rows

pub tell_so : (old new : Option RowStates) (P Q : RowStates → RowStates → Type 0) → ((a b : RowStates) → P a b → Q a b) → BothTell old new P → BothTell old new Q
tell_so None new P Q so h = h
tell_so (Some old) None P Q so h = h
tell_so (Some old) (Some new) P Q so h = so old new h

pub tell_through : (old mid new : Option RowStates) (P Q R : RowStates → RowStates → Type 0) → ((a b c : RowStates) → P a b → Q b c → R a c) → BothTell old mid P → BothTell mid new Q → BothTell old new R
tell_through None mid new P Q R so h k = subst (λ told. BothTell told new Q → new ≡ None) (sym h) (λ none. none) k
tell_through (Some old) None new P Q R so h k = absurd h
tell_through (Some old) (Some mid) None P Q R so h k = k
tell_through (Some old) (Some mid) (Some new) P Q R so h k = so old mid new h k

-- ---- the place

-- a request that isn't on a repository is on the base route
abbrev pub IsPlacedBy : Place → Option (List ℕ) → Type 0
IsPlacedBy places.Base name = name ≡ None
IsPlacedBy places.Own name = IsSome name
IsPlacedBy places.Refused name = IsSome name
IsPlacedBy (places.Foreign owner) name = IsSome name

own_or_not : (own hop : Bool) (owner : ℕ) (name : List ℕ) → IsPlacedBy (if own then places.Own else (if hop then places.Refused else places.Foreign owner)) (Some name)
own_or_not true hop owner name = refl
own_or_not false true owner name = refl
own_or_not false false owner name = refl

pub placed_by : (config : RowConfig) (number : ℕ) (name : Option (List ℕ)) (hop : Bool) → IsPlacedBy (place_named config number name hop) name
placed_by config number None hop = refl
placed_by config number (Some name) hop = own_or_not _ hop _ name

-- ---- one answer of a row

some_at : {X : Type 0} (found : Option X) (P : X → Type 0) (x : X) → found ≡ Some x → IfSome found P → P x
some_at found P x is h = subst (λ o. IfSome o P) is h

-- entries that stand for a request and its answer lead from these rows to those
record IsOf (config : RowConfig) (told : Option ℕ) (request : Request) (answer : Reply) (old new : RowStates) : Type 0 where
  pub made : List (ℕ × Entry)
  pub are : AreOf config told request answer made
  pub runs : EachRuns old made new

of_entered : (config : RowConfig) (told : Option ℕ) (moment : ℕ) (name : List ℕ) (request : Request) (answer : Reply) (old new : RowStates) → request.name ≡ Some name → IsAt told moment
    → EntersRow (row_by config name) old (Ask request) moment (answers.Reply answer) new → IsOf config told request answer old new
of_entered config told moment name request answer old new named at e = record {
  made = signed (row_by config name) e.entries;
  are = record {
    moment = moment;
    at = at;
    entries = e.entries;
    stand = e.stand;
    made_is = subst (λ (o : Option (List ℕ)). IsSomeAnd o (λ one. signed (row_by config name) e.entries ≡ signed (row_by config one) e.entries)) (sym named) refl;
  };
  runs = e.runs;
}

named_of : (name : Option (List ℕ)) → IsSome name → (one : List ℕ) × (name ≡ Some one)
named_of None some = cc some
named_of (Some name) some = (name, refl)

some_fact : (name : Option (List ℕ)) (P : List ℕ → Type 0) → ((one : List ℕ) → P one) → IfSome name P
some_fact None P all = tt
some_fact (Some one) P all = all one

-- ---- replies that say that the storage failed

details_none : (head : Bool) (detail : Detail) → AreDetailsAlike head detail details.None → detail ≡ details.None
details_none true details.None h = refl
details_none true (details.Missing digest) h = absurd h
details_none true (details.Differ wanted found) h = absurd h
details_none true (details.Session id size) h = absurd h
details_none true (details.Allow which) h = absurd h
details_none false details.None h = refl
details_none false (details.Missing digest) h = h
details_none false (details.Differ wanted found) h = h
details_none false (details.Session id size) h = h
details_none false (details.Allow which) h = h

-- what is equal up to its spelling to that the storage failed says just that
alike_fault : (head : Bool) (answer : Reply) → AreAlike head answer storage_fault → answer ≡ storage_fault
alike_fault head (replies.Refused status code detail) h = λ i. replies.Refused (h.0 i) (h.1 i) (details_none head detail h.4 i)
alike_fault head answer h = h

none_details : (head : Bool) (detail : Detail) → AreDetailsAlike head details.None detail → detail ≡ details.None
none_details true details.None h = refl
none_details true (details.Missing digest) h = absurd h
none_details true (details.Differ wanted found) h = absurd h
none_details true (details.Session id size) h = absurd h
none_details true (details.Allow which) h = absurd h
none_details false detail h = sym h

fault_alike : (head : Bool) (reply : Reply) → AreAlike head storage_fault reply → reply ≡ storage_fault
fault_alike head (replies.Refused status code detail) h = λ i. replies.Refused (sym h.0 i) (sym h.1 i) (none_details head detail h.4 i)
fault_alike head reply h = sym h

base_apart : replies.Base ≢ storage_fault
base_apart h = cc h

hop_apart : hop_refused ≢ storage_fault
hop_apart h = cc h

memory_apart : no_memory ≢ storage_fault
memory_apart h = cc h

-- ---- counts

-- where no other number has changed, nor this one, none has
counts_stay : (old new : List ℕ) (number : ℕ) → length new ≡ length old → ChangesOnly number old new → slice_index new number ≡ slice_index old number → new ≡ old
counts_stay old new number long beside here =
    ext_get_or 0 new old long (λ i within.
    dite (ℕ_discrete i number)
    (λ (same : i ≡ number). subst (λ k. slice_index new k ≡ slice_index old k) (sym same) here)
    (λ (apart : i ≢ number). sym (unwrap_or-slice_get new i 0) ∙ ap (λ o. unwrap_or o 0) (beside i apart) ∙ unwrap_or-slice_get old i 0))

module _ {S : Type 0} {G : Ghosts S} where
  answered_of : (old new : Rows S G) (told : Option ℕ) (request : Request) (answer : Reply) → IsSome request.name → AreAgreedIn old → AnswersIn old told request answer new → BothTell (states_of old) (states_of new) (IsOf old.config told request answer)
  answered_of old new told request answer some agreed h =
      let named = named_of request.name some in
      tell_so (states_of old) (states_of new) _ (IsOf old.config told request answer)
      (λ a b k. of_entered old.config told h.moment named.0 request answer a b named.1 h.at
      (some_at request.name (λ one. EntersRow (row_for old one) a (Ask request) h.moment (answers.Reply answer) b) named.0 named.1 k))
      (h.enters agreed)

  -- ---- the entries of a request

  carried_made : (old new : Rows S G) (told : Option ℕ) (request : Request) (reply : Reply) (owner : ℕ) → IsSome request.name → AreAgreedIn old → CarriesBack places.Own old told (with_hop request true) reply new
      → BothTell (states_of old) (states_of new) (IsMade (places.Foreign owner) old.config told request reply)
  carried_made old new told request reply owner some agreed h =
      tell_so (states_of old) (states_of new) (IsOf old.config told (with_hop request true) h.answer) (IsMade (places.Foreign owner) old.config told request reply)
      (λ a b k. record { made = k.made; are = inl (record { answer = h.answer; own = k.are; alike = h.alike }); runs = k.runs })
      (answered_of old new told (with_hop request true) h.answer some agreed h.alone)

  lost_made : (old new : Rows S G) (told : Option ℕ) (request : Request) (reply : Reply) (owner : ℕ) → reply ≡ no_memory → IsSome request.name → AreAgreedIn old
      → (new ≡ old) ⊎ ((answer : Reply) × AnswersIn old told (with_hop request true) answer new) → BothTell (states_of old) (states_of new) (IsMade (places.Foreign owner) old.config told request reply)
  lost_made old new told request reply owner lacks some agreed (inl same) =
      subst (λ (rows : Rows S G). BothTell (states_of old) (states_of rows) (IsMade (places.Foreign owner) old.config told request reply)) (sym same)
      (tell_itself (states_of old) (IsMade (places.Foreign owner) old.config told request reply) (λ rows. record { made = []; are = inr (record { reply_is = lacks; lost = inl refl }); runs = each_itself rows }))
  lost_made old new told request reply owner lacks some agreed (inr entered) =
      tell_so (states_of old) (states_of new) (IsOf old.config told (with_hop request true) entered.0) (IsMade (places.Foreign owner) old.config told request reply)
      (λ a b k. record { made = k.made; are = inr (record { reply_is = lacks; lost = inr (entered.0, k.are) }); runs = k.runs })
      (answered_of old new told (with_hop request true) entered.0 some agreed entered.1)

  still_made : (place : Place) (old new : Rows S G) (told : Option ℕ) (request : Request) (reply : Reply) → AreMade place old.config told request reply [] → new ≡ old → BothTell (states_of old) (states_of new) (IsMade place old.config told request reply)
  still_made place old new told request reply none same =
      subst (λ (rows : Rows S G). BothTell (states_of old) (states_of rows) (IsMade place old.config told request reply)) (sym same)
      (tell_itself (states_of old) (IsMade place old.config told request reply) (λ rows. record { made = []; are = none; runs = each_itself rows }))

  -- the entries of a request at a member, where the parts tell
  pub makes_entries : (place : Place) (old new : Rows S G) (told : Option ℕ) (request : Request) (reply : Reply) → IsPlacedBy place request.name → AreAgreedIn old → MakesAt place old told request reply new
      → BothTell (states_of old) (states_of new) (IsMade place old.config told request reply)
  makes_entries places.Base old new told request reply placed agreed h = still_made places.Base old new told request reply (h.0, refl) h.1
  makes_entries places.Own old new told request reply placed agreed h =
      tell_so (states_of old) (states_of new) (IsOf old.config told request reply) (IsMade places.Own old.config told request reply) (λ a b k. record { made = k.made; are = k.are; runs = k.runs })
      (answered_of old new told request reply placed agreed h)
  makes_entries places.Refused old new told request reply placed agreed h = still_made places.Refused old new told request reply (h.0, refl) h.1
  makes_entries (places.Foreign owner) old new told request reply placed agreed (inl carried) = carried_made old new told request reply owner placed agreed carried
  makes_entries (places.Foreign owner) old new told request reply placed agreed (inr lost) = lost_made old new told request reply owner lost.0 placed agreed lost.1.lost

  -- ---- the faults

  parts_beside : (old new : Rows S G) (number : ℕ) → ChangesOnly number old.rows.items new.rows.items → ChangesOnly number (part_faults old) (part_faults new)
  parts_beside old new number beside other apart =
      let count = λ (r : RepoShard S G). G.faults r.core.part in
      slice_get-map count new.rows.items other ∙ ap (option_map count) (beside other apart) ∙ sym (slice_get-map count old.rows.items other)

  parts_long : (old new : Rows S G) → new.config ≡ old.config → length (part_faults new) ≡ length (part_faults old)
  parts_long old new same =
      let count = λ (r : RepoShard S G). G.faults r.core.part in
      length-map new.rows.items count ∙ new.numbered.many ∙ ap (λ (c : RowConfig). 8 * c.members) same ∙ sym old.numbered.many ∙ sym (length-map old.rows.items count)

  module _ (old new : Rows S G) (told : Option ℕ) (request : Request) (answer : Reply) (one : List ℕ) (named : request.name ≡ Some one) (h : AnswersIn old told request answer new) where
    row_fault : HasRowFault (row_for old one) answer (part_faults old) (part_faults new) (pool_faults old) (pool_faults new)
    row_fault = some_at request.name (λ n. HasRowFault (row_for old n) answer (part_faults old) (part_faults new) (pool_faults old) (pool_faults new)) one named h.fault

    others_stay : ChangesOnly (row_for old one) (part_faults old) (part_faults new)
    others_stay = parts_beside old new (row_for old one) (some_at request.name (λ n. ChangesOnly (row_for old n) old.rows.items new.rows.items) one named h.beside)

    -- where the answer isn't that the storage failed, no part's count has changed
    pub parts_stay : answer ≢ storage_fault → part_faults new ≡ part_faults old
    parts_stay unfailed = counts_stay (part_faults old) (part_faults new) (row_for old one) (parts_long old new h.config) others_stay (row_fault.kept unfailed)

    -- the answer of a row has its cause
    pub row_cause : HasReplyCause old.config request.name answer (failures_of old) (failures_of new)
    row_cause = record {
      failed = λ is. subst (λ (o : Option (List ℕ)). IsSomeAnd o (λ n. Rose (slice_index (part_faults old) (row_by old.config n)) (slice_index (part_faults new) (row_by old.config n)) ⊎ Rose (pool_faults old) (pool_faults new))) (sym named) (row_fault.failed is);
      kept = λ unfailed _. parts_stay unfailed;
      beside = subst (λ (o : Option (List ℕ)). IfSome o (λ n. ChangesOnly (row_by old.config n) (part_faults old) (part_faults new))) (sym named) others_stay;
      later = h.cause.later;
    }

  answered_cause : (old new : Rows S G) (told : Option ℕ) (request : Request) (answer : Reply) → IsSome request.name → AnswersIn old told request answer new → HasReplyCause old.config request.name answer (failures_of old) (failures_of new)
  answered_cause old new told request answer some h = let named = named_of request.name some in row_cause old new told request answer named.0 named.1 h

  -- a reply that isn't of a row says nothing of the storage
  still_cause : (old new : Rows S G) (name : Option (List ℕ)) (reply : Reply) → reply ≢ storage_fault → new ≡ old → HasReplyCause old.config name reply (failures_of old) (failures_of new)
  still_cause old new name reply unfailed same =
      subst (λ (rows : Rows S G). HasReplyCause old.config name reply (failures_of old) (failures_of rows)) (sym same)
      (record {
        failed = λ is. absurd (unfailed is);
        kept = λ _ _. refl;
        beside = some_fact name (λ one. ChangesOnly (row_by old.config one) (part_faults old) (part_faults old)) (λ one other apart. refl);
        later = omega arith;
      })

  -- a reply that is alike to an answer has its cause
  carried_cause : (old new : Rows S G) (told : Option ℕ) (request : Request) (reply : Reply) → IsSome request.name → CarriesBack places.Own old told (with_hop request true) reply new
      → HasReplyCause old.config request.name reply (failures_of old) (failures_of new)
  carried_cause old new told request reply some h =
      let head = is_head request.call in
      let named = named_of request.name some in
      let cause = row_cause old new told (with_hop request true) h.answer named.0 named.1 h.alone in
      record {
        failed = λ is. cause.failed (alike_fault head h.answer (subst (AreAlike head h.answer) is h.alike));
        kept = λ unfailed _. parts_stay old new told (with_hop request true) h.answer named.0 named.1 h.alone (λ is. unfailed (fault_alike head reply (subst (λ (r : Reply). AreAlike head r reply) is h.alike)));
        beside = cause.beside;
        later = cause.later;
      }

  lost_cause : (old new : Rows S G) (told : Option ℕ) (request : Request) (reply : Reply) → reply ≡ no_memory → IsSome request.name → (new ≡ old) ⊎ ((answer : Reply) × AnswersIn old told (with_hop request true) answer new)
      → HasReplyCause old.config request.name reply (failures_of old) (failures_of new)
  lost_cause old new told request reply lacks some (inl same) = still_cause old new request.name reply (λ is. memory_apart (sym lacks ∙ is)) same
  lost_cause old new told request reply lacks some (inr entered) =
      let cause = answered_cause old new told (with_hop request true) entered.0 some entered.1 in
      record { failed = λ is. absurd (memory_apart (sym lacks ∙ is)); kept = λ _ had. absurd (had lacks); beside = cause.beside; later = cause.later }

  -- the reply to a request at a member has its cause
  pub makes_cause : (place : Place) (old new : Rows S G) (told : Option ℕ) (request : Request) (reply : Reply) → IsPlacedBy place request.name → MakesAt place old told request reply new
      → HasReplyCause old.config request.name reply (failures_of old) (failures_of new)
  makes_cause places.Base old new told request reply placed h = still_cause old new request.name reply (λ is. base_apart (sym h.0 ∙ is)) h.1
  makes_cause places.Own old new told request reply placed h = answered_cause old new told request reply placed h
  makes_cause places.Refused old new told request reply placed h = still_cause old new request.name reply (λ is. hop_apart (sym h.0 ∙ is)) h.1
  makes_cause (places.Foreign owner) old new told request reply placed (inl carried) = carried_cause old new told request reply placed carried
  makes_cause (places.Foreign owner) old new told request reply placed (inr lost) = lost_cause old new told request reply lost.0 placed lost.1.lost
