-- A connection at a member, request by request.
use Rattle.std.proofs.Common.{◌≡◌, ℕ, List, [], ◌∷◌, Option, inl, inr, true, refl, sym, ap, ◌∙◌, subst, arith}
use Rattle.std.specs.Prelude.{◌⊎◌}
use Rattle.zot_repo.specs.declared.row_config.RowConfig.{RowConfig}
use Rattle.zot_member.specs.Answering.{AnswersIn}
use Rattle.zot_member.specs.Neighbours.{MakesAt}
use Rattle.zot_member.specs.Places.{place_by}
use Rattle.zot_member.specs.declared.place.Place.{Place}
use Rattle.zot_member.specs.declared.place.Place.TheVariants as places
use Rattle.zot_model.specs.declared.reply.Reply.{Reply}
use Rattle.zot_model.specs.declared.request.Request.{Request}
use Rattle.zot_outside.proofs.MomentLemmas.{stays_itself, stays_through}
use Rattle.zot_outside.specs.Moments.{StaysAt}
use Rattle.zot_outside.specs.declared.stores.store.Store.{Ghosts}
use Rattle.zot_rows.specs.Histories.{BothTell}
use Rattle.zot_rows.specs.Rows.{HaveCause, failed_in, pool_faults, states_of}
use Rattle.zot_rows.specs.declared.rows.Rows.{Rows}
use Rattle.zot_session.specs.Exchanges.{Conducts, Exchange, answered, declined}
use Rattle.zot_session.specs.Messages.{Message}
use Rattle.zot_spell.specs.Wire.{with_hop}
use Rattle.zot_cluster.proofs.EntryLemmas.{IsMade, records_none, rose_later, rose_since, with_declined, with_request}
use Rattle.zot_cluster.proofs.RequestLemmas.{makes_entries, makes_cause, placed_by, tell_itself, tell_so, tell_through}
use Rattle.zot_cluster.specs.Connections.{AnswersAt, HaveReplyCauses, IsConducted, KeepsRows, failures_of}
use Rattle.zot_cluster.specs.Entries.{Records}

-- ---- the counts

cause_itself : (pooled : ℕ) (failed : List ℕ) → HaveCause pooled pooled failed failed
cause_itself pooled failed = record { later = omega arith; quiet = λ none. refl }

cause_through : (before mid after : ℕ) (failed between fails : List ℕ) → HaveCause before mid failed between → HaveCause mid after between fails → HaveCause before after failed fails
cause_through before mid after failed between fails h k = record {
  later = omega (arith, h.later, k.later);
  quiet = λ none. k.quiet (λ rose. none (rose_since before mid after h.later rose)) ∙ h.quiet (λ rose. none (rose_later before mid after k.later rose));
}

module _ {S : Type 0} {G : Ghosts S} where
  -- ---- what stays

  keeps_itself : (told : Option ℕ) (rows : Rows S G) → KeepsRows told told rows rows
  keeps_itself told rows = record { clock = stays_itself told; agreed = λ h. h; config = refl; opened = refl; cause = cause_itself (pool_faults rows) (failed_in rows); tight = λ deduped h. h; dedupe = λ h. h }

  keeps_through : (told mid_told later : Option ℕ) (old mid new : Rows S G) → KeepsRows told mid_told old mid → KeepsRows mid_told later mid new → KeepsRows told later old new
  keeps_through told mid_told later old mid new h k = record {
    clock = stays_through told mid_told later h.clock k.clock;
    agreed = λ agreed. k.agreed (h.agreed agreed);
    config = k.config ∙ h.config;
    opened = k.opened ∙ h.opened;
    cause = cause_through (pool_faults old) (pool_faults mid) (pool_faults new) (failed_in old) (failed_in mid) (failed_in new) h.cause k.cause;
    tight = λ deduped tight. k.tight (h.dedupe deduped) (h.tight deduped tight);
    dedupe = λ deduped. k.dedupe (h.dedupe deduped);
  }

  keeps_same : (told later : Option ℕ) (old new : Rows S G) → StaysAt told later → new ≡ old → KeepsRows told later old new
  keeps_same told later old new clock same = subst (λ (rows : Rows S G). KeepsRows told later old rows) (sym same) (record { clock = clock; agreed = λ h. h; config = refl; opened = refl; cause = cause_itself (pool_faults old) (failed_in old); tight = λ deduped h. h; dedupe = λ h. h })

  keeps_answered : (told later moment : Option ℕ) (old new : Rows S G) (request : Request) (answer : Reply) → StaysAt told later → AnswersIn old moment request answer new → KeepsRows told later old new
  keeps_answered told later moment old new request answer clock h = record { clock = clock; agreed = h.agreed; config = h.config; opened = h.opened; cause = h.cause; tight = h.tight; dedupe = h.dedupe }

  keeps_lost : (told later moment : Option ℕ) (old new : Rows S G) (request : Request) → StaysAt told later → (new ≡ old) ⊎ ((answer : Reply) × AnswersIn old moment request answer new) → KeepsRows told later old new
  keeps_lost told later moment old new request clock (inl same) = keeps_same told later old new clock same
  keeps_lost told later moment old new request clock (inr entered) = keeps_answered told later moment old new request entered.0 clock entered.1

  -- what stays, whatever a request at a member makes
  pub makes_keeps : (place : Place) (told later : Option ℕ) (old new : Rows S G) (request : Request) (reply : Reply) → StaysAt told later → MakesAt place old told request reply new → KeepsRows told later old new
  makes_keeps places.Base told later old new request reply clock h = keeps_same told later old new clock h.1
  makes_keeps places.Own told later old new request reply clock h = keeps_answered told later told old new request reply clock h
  makes_keeps places.Refused told later old new request reply clock h = keeps_same told later old new clock h.1
  makes_keeps (places.Foreign owner) told later old new request reply clock (inl carried) = keeps_answered told later told old new (with_hop request true) carried.answer clock carried.alone
  makes_keeps (places.Foreign owner) told later old new request reply clock (inr lost) = keeps_lost told later told old new (with_hop request true) clock lost.1.lost

  -- ---- the exchanges

  conducted_none : (member : ℕ) (told : Option ℕ) (rows : Rows S G) → IsConducted rows member told told [] rows
  conducted_none member told rows = record {
    history = λ agreed. tell_itself (states_of rows) _ (records_none rows.config member told);
    faults = refl;
    kept = keeps_itself told rows;
  }

  conducted_more : (member : ℕ) (told mid_told later : Option ℕ) (old mid new : Rows S G) (message : Message) (request : Request) (reply : Reply) (exchanges : List Exchange) → AnswersAt told mid_told member old request reply mid
      → IsConducted mid member mid_told later exchanges new → IsConducted old member told later (answered message request reply ∷ exchanges) new
  conducted_more member told mid_told later old mid new message request reply exchanges h k =
      let placed = placed_by old.config member request.name request.hop in
      record {
        history = λ agreed. tell_through (states_of old) (states_of mid) (states_of new)
            (IsMade (place_by old.config member request) old.config told request reply)
            (λ a b. Records old.config member mid_told a exchanges b)
            (λ a b. Records old.config member told a (answered message request reply ∷ exchanges) b)
            (λ a b c. with_request old.config member told mid_told a b c message request reply exchanges h.kept.clock)
            (makes_entries (place_by old.config member request) old mid told request reply placed agreed h.makes)
            (subst (λ (config : RowConfig). BothTell (states_of mid) (states_of new) (λ a b. Records config member mid_told a exchanges b)) h.kept.config (k.history (h.kept.agreed agreed)));
        faults = (
          failures_of mid,
          makes_cause (place_by old.config member request) old mid told request reply placed h.makes,
          subst (λ (config : RowConfig). HaveReplyCauses config (failures_of mid) exchanges (failures_of new)) h.kept.config k.faults,
        );
        kept = keeps_through told mid_told later old mid new h.kept k.kept;
      }

  conducted_declined : (member : ℕ) (told later : Option ℕ) (old new : Rows S G) (message : Message) (reply : Reply) (exchanges : List Exchange) → IsConducted old member told later exchanges new
      → IsConducted old member told later (declined message reply ∷ exchanges) new
  conducted_declined member told later old new message reply exchanges h = record {
    history = λ agreed. tell_so (states_of old) (states_of new) (λ a b. Records old.config member told a exchanges b) (λ a b. Records old.config member told a (declined message reply ∷ exchanges) b)
        (λ a b. with_declined old.config member told a b message reply exchanges) (h.history agreed);
    faults = h.faults;
    kept = h.kept;
  }

-- a fact of two values that were lent holds of them when they are given back
pub given_back : {X Y : Type 0} (P : X → Y → Type 0) (x back : X) (y returned : Y) → back ≡ x → returned ≡ y → P x y → P back returned
given_back P x back y returned same alike h = subst (λ one. P one returned) (sym same) (subst (λ other. P x other) (sym alike) h)

-- what answers from rows, a scratch store, an upstream and a clock that it borrows: at which member, what the clock tells, and which of each they are
module _ {S U : Type 0} {G : Ghosts S} {A Named ScratchNamed UpstreamNamed ClockNamed : Type 0} (told : A → Option ℕ) (member : A → ℕ) (rows : A → Rows S G) (scratch : A → S) (upstream : A → U)
    (rows_name : A → Named) (scratch_name : A → ScratchNamed) (upstream_name : A → UpstreamNamed) (clock_name : A → ClockNamed) where
  -- what is borrowed is the same as before, and so is the member
  pub record Borrows (old new : A) : Type 0 where
    pub member_is : member new ≡ member old
    pub scratch_is : scratch new ≡ scratch old
    pub upstream_is : upstream new ≡ upstream old
    pub rows_named : rows_name new ≡ rows_name old
    pub scratch_named : scratch_name new ≡ scratch_name old
    pub upstream_named : upstream_name new ≡ upstream_name old
    pub clock_named : clock_name new ≡ clock_name old

  -- one request was answered
  abbrev pub AnswersOne : A → Request → Reply → A → Type 0
  AnswersOne old request reply new = AnswersAt (told old) (told new) (member old) (rows old) request reply (rows new) × (member new ≡ member old) × (scratch new ≡ scratch old) × (upstream new ≡ upstream old)
      × (rows_name new ≡ rows_name old) × (scratch_name new ≡ scratch_name old) × (upstream_name new ≡ upstream_name old) × (clock_name new ≡ clock_name old)

  -- some exchanges were answered
  abbrev pub Ran : A → List Exchange → A → Type 0
  Ran old exchanges new = IsConducted (rows old) (member old) (told old) (told new) exchanges (rows new) × Borrows old new

  -- the exchanges of a connection are conducted over the rows
  pub conducts_rows : (old new : A) (exchanges : List Exchange) → Conducts AnswersOne old exchanges new → Ran old exchanges new
  conducts_rows old new [] h = (
    subst (λ a. IsConducted (rows old) (member old) (told old) (told a) [] (rows a)) (sym h) (conducted_none (member old) (told old) (rows old)),
    record { member_is = ap member h; scratch_is = ap scratch h; upstream_is = ap upstream h; rows_named = ap rows_name h; scratch_named = ap scratch_name h; upstream_named = ap upstream_name h; clock_named = ap clock_name h },
  )
  conducts_rows old new (answered message request reply ∷ exchanges) h =
      let ran = conducts_rows h.0 new exchanges h.2 in
      let one = h.1 in (
        conducted_more (member old) (told old) (told h.0) (told new) (rows old) (rows h.0) (rows new) message request reply exchanges one.0
            (subst (λ n. IsConducted (rows h.0) n (told h.0) (told new) exchanges (rows new)) one.1 ran.0),
        record {
          member_is = ran.1.member_is ∙ one.1;
          scratch_is = ran.1.scratch_is ∙ one.2;
          upstream_is = ran.1.upstream_is ∙ one.3;
          rows_named = ran.1.rows_named ∙ one.4;
          scratch_named = ran.1.scratch_named ∙ one.5;
          upstream_named = ran.1.upstream_named ∙ one.6;
          clock_named = ran.1.clock_named ∙ one.7;
        },
      )
  conducts_rows old new (declined message reply ∷ exchanges) h =
      let ran = conducts_rows old new exchanges h in
      (conducted_declined (member old) (told old) (told new) (rows old) (rows new) message reply exchanges ran.0, ran.1)
