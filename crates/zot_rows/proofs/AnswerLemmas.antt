-- What a call on one row is for all of them.
use Rattle.std.proofs.Common.{◌≡◌, ◌≢◌, ◌<◌, ◌≤◌, ◌+◌, ℕ, List, [], ◌∷◌, map, length, get_or, set, Option, Some, None, IfSome, option_map, inl, inr, refl, sym, ap, subst, ◌∙◌}
use Rattle.std.specs.Prelude.{slice_index, unwrap_or}
use Rattle.std.specs.List.{slice_get}
use Rattle.std.proofs.Math.Seq.{map-set_same}
use Rattle.std.proofs.lemmas.List.{get_or-map, get_or-set_same, length-set}
use Rattle.std.proofs.lemmas.Option.{slice_get-get_or}
use mathlib.Core.Logic.{dite}
use native.Mathlib.Decide.{ℕ_discrete}
use Rattle.zot_contents.specs.Pool.{Holders}
use Rattle.zot_repo.proofs.StepLemmas.{other_agrees, other_stays}
use Rattle.zot_repo.specs.RowGoing.{IsOwn, OnName}
use Rattle.zot_repo.specs.Rows.{AgreesRow}
use Rattle.zot_repo.specs.Shards.{HasShardCause, IsCounted, KeepsOtherNames, StepsRow}
use Rattle.zot_repo.specs.declared.row_config.RowConfig.{RowConfig}
use Rattle.zot_repo.specs.declared.shard.RepoShard.{RepoShard}
use Rattle.zot_model.proofs.HistoryLemmas.{same_itself}
use Rattle.zot_model.specs.History.{Run, entry_for}
use Rattle.zot_model.specs.State.{AreSame, RowState, empty_row}
use Rattle.zot_model.specs.declared.reply.Reply.{Reply}
use Rattle.zot_model.specs.declared.request.Request.{Request}
use Rattle.zot_model.specs.declared.row.RowCall.TheVariants.{Ask}
use Rattle.zot_model.specs.declared.row.RowReply.TheVariants as answers
use Rattle.zot_outside.specs.declared.stores.store.Store.{Ghosts}
use Rattle.zot_pool.proofs.PoolLemmas.{set_at, set_beside}
use Rattle.zot_pool.specs.Pools.{BothHold}
use Rattle.zot_rows.proofs.HistoryLemmas.{each_of_row}
use Rattle.zot_rows.specs.Histories.{BothTell, EntersRow, RowStates}
use Rattle.zot_rows.specs.Agreed.{AreAgreed, AreRows, IsRow}
use Rattle.zot_rows.specs.Rows.{HasRowFault, HaveCause, row_by, state_beside, states_beside}

-- ---- options

some_at : {X : Type 0} (found : Option X) (P : X → Type 0) (x : X) → found ≡ Some x → IfSome found P → P x
some_at found P x is h = subst (λ o. IfSome o P) is h

some_so : {X : Type 0} (found : Option X) (P Q : X → Type 0) → ((x : X) → P x → Q x) → IfSome found P → IfSome found Q
some_so None P Q so h = h
some_so (Some x) P Q so h = so x h

-- ---- what the pool holds

both_given : (old new : Option Holders) (A : Holders → Type 0) (P Q : Holders → Holders → Type 0) → ((a b : Holders) → A a → P a b → Q a b) → IfSome old A → BothHold old new P → BothHold old new Q
both_given None new A P Q so given h = h
both_given (Some old) None A P Q so given h = h
both_given (Some old) (Some new) A P Q so given h = so old new given h

both_two : (old new : Option Holders) (P Q : Holders → Holders → Type 0) → BothHold old new P → BothHold old new Q → BothHold old new (λ a b. P a b × Q a b)
both_two None new P Q h k = h
both_two (Some old) None P Q h k = h
both_two (Some old) (Some new) P Q h k = (h, k)

held_after : (old new : Option Holders) (P : Holders → Holders → Type 0) (A B : Holders → Type 0) → ((a b : Holders) → A a → P a b → B b) → IfSome old A → BothHold old new P → IfSome new B
held_after None new P A B so given h = subst (λ o. IfSome o B) (sym h) tt
held_after (Some old) None P A B so given h = tt
held_after (Some old) (Some new) P A B so given h = so old new given h

-- what is told of rows, from what the pool holds
both_tell : (old new : Option Holders) (P : Holders → Holders → Type 0) (before after : Holders → RowStates) (Q : RowStates → RowStates → Type 0) → ((a b : Holders) → P a b → Q (before a) (after b)) → BothHold old new P
    → BothTell (option_map before old) (option_map after new) Q
both_tell None new P before after Q so h = ap (option_map after) h
both_tell (Some old) None P before after Q so h = h
both_tell (Some old) (Some new) P before after Q so h = so old new h

-- ---- one row of all

module _ {S : Type 0} {G : Ghosts S} (config : RowConfig) (rows : List (RepoShard S G)) (number : ℕ) (x y : RepoShard S G) (within : number < length rows) (is : x ≡ get_or rows number x) (numbered : AreRows config rows)
    (same_row : y.core.row ≡ x.core.row) (same_config : y.core.config ≡ x.core.config) where
  at_place : slice_get rows number ≡ Some x
  at_place = slice_get-get_or rows number x within ∙ ap (λ r. Some r) (sym is)

  pub is_row : IsRow config number x
  is_row = some_at (slice_get rows number) (IsRow config number) x at_place (numbered.each number)

  -- a fact of each row, where one has changed
  each_set : (P Q : ℕ → RepoShard S G → Type 0) → ((m : ℕ) (r : RepoShard S G) → m ≢ number → P m r → Q m r) → Q number y → ((m : ℕ) → IfSome (slice_get rows m) (P m)) → (m : ℕ) → IfSome (slice_get (set rows number y) m) (Q m)
  each_set P Q so here all m =
      dite (ℕ_discrete m number)
      (λ (same : m ≡ number). subst (λ k. IfSome (slice_get (set rows number y) k) (Q k)) (sym same) (subst (λ o. IfSome o (Q number)) (sym (set_at rows number y within)) here))
      (λ (apart : m ≢ number). subst (λ o. IfSome o (Q m)) (sym (set_beside rows number y m apart)) (some_so (slice_get rows m) (P m) (Q m) (λ r. so m r apart) (all m)))

  pub still_rows : AreRows config (set rows number y)
  still_rows = record {
    many = length-set rows number y ∙ numbered.many;
    each = each_set (IsRow config) (IsRow config) (λ m r apart h. h) (record { number_is = same_row ∙ is_row.number_is; config_is = same_config ∙ is_row.config_is }) numbered.each;
  }

  -- the row's own repositories are those of its number
  pub own_at : (P : (List ℕ → Type 0) → Type 0) → P (IsOwn config number) → P (IsOwn x.core.config x.core.row)
  own_at P h = subst (λ (c : RowConfig). P (IsOwn c x.core.row)) (sym is_row.config_is) (subst (λ (n : ℕ). P (IsOwn config n)) (sym is_row.number_is) h)

  pub own_by : (P : (List ℕ → Type 0) → Type 0) → P (IsOwn x.core.config x.core.row) → P (IsOwn config number)
  own_by P h = subst (λ (n : ℕ). P (IsOwn config n)) is_row.number_is (subst (λ (c : RowConfig). P (IsOwn c x.core.row)) is_row.config_is h)

  here_before : (held : Holders) → states_beside held rows number ≡ state_beside held x
  here_before held = ap (λ o. unwrap_or (option_map (state_beside held) o) empty_row) at_place

  here_after : (behind : Holders) → states_beside behind (set rows number y) number ≡ state_beside behind y
  here_after behind = ap (λ o. unwrap_or (option_map (state_beside behind) o) empty_row) (set_at rows number y within)

  -- ---- a call on a repository of the row

  module _ (name : List ℕ) (own : IsOwn config number name) (held behind : Holders) (agreed : AreAgreed config rows held) (others : KeepsOtherNames name held behind) where
    not_own : (m : ℕ) → m ≢ number → ¬ IsOwn config m name
    not_own m apart h = apart (sym h.placed ∙ own.placed)

    pub still_agreed : AgreesRow (IsOwn config number) y.core.repos behind → AreAgreed config (set rows number y) behind
    still_agreed here =
        each_set (λ m r. AgreesRow (IsOwn config m) r.core.repos held) (λ m r. AgreesRow (IsOwn config m) r.core.repos behind)
        (λ m r apart h. other_agrees config.key config.members m r.core.repos name held behind (not_own m apart) others h) here agreed

    same_in : (found : Option (RepoShard S G)) → IfSome found (λ r. AreSame (state_beside held r) (state_beside behind r)) → AreSame (unwrap_or (option_map (state_beside held) found) empty_row) (unwrap_or (option_map (state_beside behind) found) empty_row)
    same_in None h = same_itself empty_row
    same_in (Some r) h = h

    others_same : (m : ℕ) → m ≢ number → AreSame (states_beside held rows m) (states_beside behind (set rows number y) m)
    others_same m apart =
        subst (λ o. AreSame (states_beside held rows m) (unwrap_or (option_map (state_beside behind) o) empty_row)) (sym (set_beside rows number y m apart))
        (same_in (slice_get rows m) (some_so (slice_get rows m) (λ r. AgreesRow (IsOwn config m) r.core.repos held) (λ r. AreSame (state_beside held r) (state_beside behind r))
        (λ r h. other_stays config.key config.members m r.core.repos name held behind (not_own m apart) others (G.faults r.core.part + r.failed) h) (agreed m)))

    pub enters : (request : Request) (moment : ℕ) (reply : Reply)
        → StepsRow (IsOwn x.core.config x.core.row) x.core.repos held (G.faults x.core.part + x.failed) (Ask request) moment (answers.Reply reply) y.core.repos behind (G.faults y.core.part + y.failed)
        → EntersRow number (states_beside held rows) (Ask request) moment (answers.Reply reply) (states_beside behind (set rows number y))
    enters request moment reply steps =
        let entries = entry_for (Ask request) (answers.Reply reply) steps.taken moment (G.faults y.core.part + y.failed) ∷ [] in
        record {
          entries = entries;
          stand = (steps.taken, G.faults y.core.part + y.failed, refl);
          runs = each_of_row number (states_beside held rows) (states_beside behind (set rows number y)) entries
              (subst (λ (s : RowState). Run s entries (states_beside behind (set rows number y) number)) (sym (here_before held))
              (subst (λ (s : RowState). Run (state_beside held x) entries s) (sym (here_after behind)) steps.run))
              others_same;
        }

  -- ---- the faults

  failed_same : y.failed ≡ x.failed → map (λ r. r.failed) (set rows number y) ≡ map (λ r. r.failed) rows
  failed_same same = map-set_same (λ r. r.failed) rows number y x (same ∙ ap (λ r. r.failed) is)

  pub opened_same : y.core.opened ≡ x.core.opened → map (λ r. r.core.opened) (set rows number y) ≡ map (λ r. r.core.opened) rows
  opened_same same = map-set_same (λ r. r.core.opened) rows number y x (same ∙ ap (λ r. r.core.opened) is)

  pub counts : (pooled later : ℕ) → pooled ≤ later → IsCounted x.failed y.failed pooled later → HaveCause pooled later (map (λ r. r.failed) rows) (map (λ r. r.failed) (set rows number y))
  counts pooled later grew (inl same) = record { later = grew; quiet = λ none. failed_same same }
  counts pooled later grew (inr rose) = record { later = grew; quiet = λ none. absurd (none rose) }

  count_before : slice_index (map (λ r. G.faults r.core.part) rows) number ≡ G.faults x.core.part
  count_before = get_or-map (λ r. G.faults r.core.part) rows number x 0 within ∙ ap (λ r. G.faults r.core.part) (sym is)

  count_after : slice_index (map (λ r. G.faults r.core.part) (set rows number y)) number ≡ G.faults y.core.part
  count_after =
      get_or-map (λ r. G.faults r.core.part) (set rows number y) number x 0 (subst (λ n. number < n) (sym (length-set rows number y)) within)
      ∙ ap (λ r. G.faults r.core.part) (get_or-set_same rows number y x within)

  -- the fault of a reply is one of the row's part, or of the pool
  pub faulted : (reply : Reply) (pooled later : ℕ) → HasShardCause reply (G.faults x.core.part) (G.faults y.core.part) pooled later
      → HasRowFault number reply (map (λ r. G.faults r.core.part) rows) (map (λ r. G.faults r.core.part) (set rows number y)) pooled later
  faulted reply pooled later h =
      subst (λ n. HasShardCause reply n (slice_index (map (λ r. G.faults r.core.part) (set rows number y)) number) pooled later) (sym count_before)
      (subst (λ n. HasShardCause reply (G.faults x.core.part) n pooled later) (sym count_after) h)

  -- ---- all rows

  module _ (name : List ℕ) (own : IsOwn config number name) (request : Request) (named : request.name ≡ Some name) (moment : ℕ) (reply : Reply) where
    abbrev Steps : Holders → Holders → Type 0
    Steps held behind = AgreesRow (IsOwn x.core.config x.core.row) x.core.repos held
        → StepsRow (IsOwn x.core.config x.core.row) x.core.repos held (G.faults x.core.part + x.failed) (Ask request) moment (answers.Reply reply) y.core.repos behind (G.faults y.core.part + y.failed)

    abbrev Others : Holders → Holders → Type 0
    Others held behind = OnName (Ask request) (λ n. KeepsOtherNames n held behind)

    abbrev Both : Holders → Holders → Type 0
    Both held behind = Steps held behind × Others held behind

    kept : (held behind : Holders) → Others held behind → KeepsOtherNames name held behind
    kept held behind others = some_at request.name (λ n. KeepsOtherNames n held behind) name named others

    agrees_at : (held : Holders) → AreAgreed config rows held → AgreesRow (IsOwn x.core.config x.core.row) x.core.repos held
    agrees_at held agreed = own_at (λ Own. AgreesRow Own x.core.repos held) (some_at (slice_get rows number) (λ r. AgreesRow (IsOwn config number) r.core.repos held) x at_place (agreed number))

    abbrev Enters : RowStates → RowStates → Type 0
    Enters old new = IfSome request.name (λ n. EntersRow (row_by config n) old (Ask request) moment (answers.Reply reply) new)

    entered : (held behind : Holders) → AreAgreed config rows held → Both held behind → Enters (states_beside held rows) (states_beside behind (set rows number y))
    entered held behind agreed both =
        subst (λ o. IfSome o (λ n. EntersRow (row_by config n) (states_beside held rows) (Ask request) moment (answers.Reply reply) (states_beside behind (set rows number y)))) (sym named)
        (subst (λ (r : ℕ). EntersRow r (states_beside held rows) (Ask request) moment (answers.Reply reply) (states_beside behind (set rows number y))) (sym own.placed)
        (enters name own held behind agreed (kept held behind both.1) request moment reply (both.0 (agrees_at held agreed))))

    -- the answer is an entry of the row, where the pool's parts tell
    pub answered : (before after : Option Holders) → BothHold before after Steps → BothHold before after Others → IfSome before (AreAgreed config rows)
        → BothTell (option_map (λ held. states_beside held rows) before) (option_map (λ held. states_beside held (set rows number y)) after) Enters
    answered before after steps others agreed =
        both_tell before after (λ held behind. AreAgreed config rows held × Both held behind) (λ held. states_beside held rows) (λ held. states_beside held (set rows number y)) Enters (λ held behind h. entered held behind h.0 h.1)
        (both_given before after (AreAgreed config rows) Both (λ held behind. AreAgreed config rows held × Both held behind) (λ held behind h k. (h, k)) agreed (both_two before after Steps Others steps others))

    -- what the pool holds fits the rows afterwards
    pub agreed_then : (before after : Option Holders) → BothHold before after Steps → BothHold before after Others → IfSome before (AreAgreed config rows) → IfSome after (AreAgreed config (set rows number y))
    agreed_then before after steps others agreed =
        held_after before after Both (AreAgreed config rows) (AreAgreed config (set rows number y))
        (λ held behind h both. still_agreed name own held behind h (kept held behind both.1) (own_by (λ Own. AgreesRow Own y.core.repos behind) (both.0 (agrees_at held h)).agrees))
        agreed (both_two before after Steps Others steps others)
