-- What a change at one digest is for a whole shard.
use Rattle.std.proofs.Common.{◌≡◌, ◌≢◌, ℕ, inl, inr, Bool, List, Option, Some, None, is_some, refl, sym, ap, subst, ◌∙◌}
use Rattle.std.specs.Prelude.{IfOk, IsSome, Result, Ok, Err, OnErr, if◌then◌else◌}
use Rattle.std.specs.FinMap as map
use Rattle.zot_digest.specs.Digest.{IsDigest}
use Rattle.zot_names.specs.Name.{IsName}
use Rattle.zot_outside.specs.Objects.{Objects, Told}
use Rattle.zot_links.proofs.MeaningLemmas.{held_local}
use Rattle.zot_links.proofs.StandLemmas.{decide, eq_false, eq_true}
use Rattle.zot_links.proofs.ToldLemmas.{told_so}
use Rattle.zot_links.specs.Changes.{Keeps, KeepsOthers, Sets, Turns, with_held}
use Rattle.zot_links.specs.Holding.{Releases}
use Rattle.zot_links.specs.Meaning.{IsTight, IsWhole, Links, Stands, held, line_among, line_at, object_at, origin_of, record_at, record_in}
use Rattle.zot_contents.specs.Pool.{AreSame, Gives, plain_attach, plain_detach, with_bytes}
use Rattle.zot_contents.specs.declared.pool_reply.PoolReply.TheVariants.{Done, Removed}
use Rattle.zot_contents.specs.Shards.{AllStand, AreTight, IsOfShard, IsTightTree, IsWholeObject, Kept, links_at}

-- ---- another digest

module _ (old new : Objects) (digest other : List ℕ) (keeps : KeepsOthers old digest new) (is : IsDigest other) (apart : other ≢ digest) where
  object_stays : (name : List ℕ) → object_at new other name ≡ object_at old other name
  object_stays = (keeps other is apart).0

  record_stays : record_at new other ≡ record_at old other
  unfolding record_at
  record_stays = ap record_in (keeps other is apart).1

  line_stays : (name : List ℕ) → line_at new other name ≡ line_at old other name
  line_stays name = ap (λ r. line_among r name) record_stays

  has_object : (name : List ℕ) → IsSome (object_at new other name) → IsSome (object_at old other name)
  has_object name h = subst (λ o. IsSome o) (object_stays name) h

  -- its holders stand as before
  pub stands_elsewhere : (links : Links) → Stands old other links → Stands new other links
  stands_elsewhere links s = record {
    read = subst (λ r. IsSome r) (sym record_stays) s.read;
    there = λ name h. subst (λ o. IsSome o) (sym (object_stays name)) (s.there name h);
    known = λ name named h. s.known name named (has_object name h);
    origins = λ name h. ap origin_of (line_stays name) ∙ s.origins name h;
    whole = s.whole;
    named = λ name origin link. line_stays origin ∙ s.named name origin link;
  }

  -- and are as tight
  pub tight_elsewhere : (links : Links) → IsTight old other links → IsTight new other links
  tight_elsewhere links t name holder bytes one two has also some = t name holder bytes one two (sym (object_stays name) ∙ has) (sym (object_stays holder) ∙ also) some

-- ---- all digests of a shard

module _ (number : ℕ) (kept later : Kept) (digest : List ℕ) (beside : (other : List ℕ) → other ≢ digest → links_at later other ≡ links_at kept other) where
  all_told : (old new : Objects) → Stands new digest (links_at later digest) → KeepsOthers old digest new → AllStand (Some old) number kept → AllStand (Some new) number later
  all_told old new here keeps all other is = elim (decide other digest) [
    | inl same ↦ subst (λ d. Stands new d (links_at later d)) (sym same) here
    | inr apart ↦
        subst (λ l. Stands new other l) (sym (beside other apart)) (stands_elsewhere old new digest other keeps is.0 apart (links_at kept other) (all other is))
  ]

  -- they stand after a change
  pub all_stand : (before after : Option Objects) (P : Objects → Objects → Type 0)
      → ((old new : Objects) → P old new → Stands new digest (links_at later digest) × KeepsOthers old digest new) → Told before after P → AllStand before number kept → AllStand after number later
  all_stand None after P f told all = subst (λ o. AllStand o number later) (sym told) (λ other is. tt)
  all_stand (Some old) None P f told all = absurd told
  all_stand (Some old) (Some new) P f told all = let both = f old new told in all_told old new both.0 both.1 all

  -- and are tight
  pub all_tight : (old new : Objects) → KeepsOthers old digest new → (IsOfShard number digest → IsTight old digest (links_at kept digest) → IsTight new digest (links_at later digest))
      → AreTight old number kept → AreTight new number later
  all_tight old new keeps here tight other is = elim (decide other digest) [
    | inl same ↦
        let own : IsOfShard number digest = subst (λ d. IsOfShard number d) same is in
        subst (λ d. IsTight new d (links_at later d)) (sym same) (here own (tight digest own))
    | inr apart ↦
        subst (λ l. IsTight new other l) (sym (beside other apart)) (tight_elsewhere old new digest other keeps is.0 apart (links_at kept other) (tight other is))
  ]

-- what a shard keeps of other digests doesn't matter
pub stand_alike : (objects : Option Objects) (number : ℕ) (kept later : Kept) → ((other : List ℕ) → links_at later other ≡ links_at kept other) → AllStand objects number kept → AllStand objects number later
stand_alike None number kept later same all other is = tt
stand_alike (Some told) number kept later same all other is = subst (λ l. Stands told other l) (sym (same other)) (all other is)

-- ---- what is held

-- one holder changed
pub sets_bytes : (old new : Objects) (digest name : List ℕ) (bytes : Option (List ℕ)) → ((other : List ℕ) → IsName other → held new digest other ≡ with_held (held old digest) name bytes other)
    → KeepsOthers old digest new → AreSame (with_bytes (held old) digest name bytes) (held new)
sets_bytes old new digest name bytes holds keeps other holder is named = elim (decide other digest) [
  | inl same ↦
      ap (λ d. held new d holder) same ∙ holds holder named
      ∙ sym (ap (λ b. (if b then with_held (held old digest) name bytes else held old other) holder) (eq_true other digest same))
  | inr apart ↦
      held_local old new digest other holder keeps is apart
      ∙ sym (ap (λ b. (if b then with_held (held old digest) name bytes else held old other) holder) (eq_false other digest apart))
]

-- none did
pub keeps_bytes : (old new : Objects) (digest : List ℕ) → ((other : List ℕ) → IsName other → held new digest other ≡ held old digest other) → KeepsOthers old digest new → AreSame (held old) (held new)
keeps_bytes old new digest holds keeps other holder is named = elim (decide other digest) [
  | inl same ↦ ap (λ d. held new d holder) same ∙ holds holder named ∙ ap (λ d. held old d holder) (sym same)
  | inr apart ↦ held_local old new digest other holder keeps is apart
]

-- ---- a call of a shard: a digest is kept, its holders turn into others, and it may be let go

module _ (before after : Option Objects) (number : ℕ) (kept later : Kept) (digest : List ℕ) (links new_links : Links) (fresh : Type 0) (wanted : Objects → List ℕ → Option (List ℕ))
    (first : links_at kept digest ≡ links) (last : links_at later digest ≡ new_links) (beside : (other : List ℕ) → other ≢ digest → links_at later other ≡ links_at kept other)
    (told : Told before after (λ old new. Turns fresh old digest links (wanted old) new new_links)) where
  pub turned_stand : AllStand before number kept → AllStand after number later
  turned_stand =
      all_stand number kept later digest beside before after (λ old new. Turns fresh old digest links (wanted old) new new_links)
      (λ old new t. (subst (λ l. Stands new digest l) (sym last) t.stands, t.elsewhere)) told

  pub turned_tight : fresh → Told before after (λ old new. AreTight old number kept → AreTight new number later)
  turned_tight is =
      told_so before after (λ old new. Turns fresh old digest links (wanted old) new new_links) (λ old new. AreTight old number kept → AreTight new number later)
      (λ old new t. all_tight number kept later digest beside old new t.elsewhere (λ own tight. subst (λ l. IsTight new digest l) (sym last) (t.tight is (subst (λ l. IsTight old digest l) first tight)))) told

-- what is held after it
pub turned_bytes : (before after : Option Objects) (digest name : List ℕ) (bytes : Option (List ℕ)) (links new_links : Links) (fresh : Type 0)
    → Told before after (λ old new. Sets fresh old digest links name bytes new new_links) → Told before after (λ old new. AreSame (with_bytes (held old) digest name bytes) (held new))
turned_bytes before after digest name bytes links new_links fresh told =
    told_so before after (λ old new. Sets fresh old digest links name bytes new new_links) (λ old new. AreSame (with_bytes (held old) digest name bytes) (held new))
    (λ old new t. sets_bytes old new digest name bytes t.holds t.elsewhere) told

pub kept_bytes : (before after : Option Objects) (digest : List ℕ) (links new_links : Links) → Told before after (λ old new. Keeps old digest links new new_links)
    → Told before after (λ old new. AreSame (held old) (held new))
kept_bytes before after digest links new_links told =
    told_so before after (λ old new. Keeps old digest links new new_links) (λ old new. AreSame (held old) (held new)) (λ old new t. keeps_bytes old new digest t.holds t.elsewhere) told

-- the digests beside, over all three
pub beside_all : (kept first second later : Kept) (digest : List ℕ) → ((other : List ℕ) → links_at first other ≡ links_at kept other)
    → ((other : List ℕ) → other ≢ digest → links_at second other ≡ links_at first other) → ((other : List ℕ) → links_at later other ≡ links_at second other)
    → (other : List ℕ) → other ≢ digest → links_at later other ≡ links_at kept other
beside_all kept first second later digest one two three other apart = three other ∙ two other apart ∙ one other

-- ---- answers

-- a fact that follows from either answer, where the first tells something
pub either_ok : {T E : Type 0} (r : Result T E) (P : T → Type 0) (Q R : Type 0) → ((x : T) → P x → R) → (Q → R) → IfOk r P → OnErr r Q → R
either_ok (Ok x) P Q R f g h k = f x h
either_ok (Err e) P Q R f g h k = g k

pub attached : (before after : Option Objects) (digest name bytes : List ℕ) (links new_links : Links) (fresh : Type 0)
    → Told before after (λ old new. Sets fresh old digest links name (Some bytes) new new_links) → Told before after (λ old new. Gives (plain_attach (held old) name digest bytes) Done (held new))
attached before after digest name bytes links new_links fresh told =
    told_so before after (λ old new. AreSame (with_bytes (held old) digest name (Some bytes)) (held new)) (λ old new. Gives (plain_attach (held old) name digest bytes) Done (held new))
    (λ old new same. record { reply_is = refl; held_is = same }) (turned_bytes before after digest name (Some bytes) links new_links fresh told)

module _ (before after : Option Objects) (digest name : List ℕ) (links new_links : Links) (was : Bool) (told : Told before after (λ old new. Releases was old digest links name new new_links)) where
  pub released_sets : Told before after (λ old new. Sets (Unit {0}) old digest links name None new new_links)
  released_sets = told_so before after (λ old new. Releases was old digest links name new new_links) (λ old new. Sets (Unit {0}) old digest links name None new new_links) (λ old new r. r.sets) told

  pub detached : Told before after (λ old new. Gives (plain_detach (held old) name digest) (Removed was) (held new))
  detached =
      told_so before after (λ old new. Releases was old digest links name new new_links) (λ old new. Gives (plain_detach (held old) name digest) (Removed was) (held new))
      (λ old new r. record { reply_is = ap Removed r.was; held_is = sets_bytes old new digest name None r.sets.holds r.sets.elsewhere }) told

-- ---- equal bytes

-- a holder whose line names no origin is whole
whole_of : (holder : Option (Option (List ℕ))) → IsSome holder → origin_of holder ≡ None → holder ≡ Some None
whole_of None some none = cc some
whole_of (Some origin) some none = ap Some none

pub whole_kept : (objects : Objects) (digest : List ℕ) (links : Links) (name bytes : List ℕ) → Stands objects digest links → IsWholeObject objects digest name bytes → IsWhole links name
whole_kept objects digest links name bytes s w =
    let holder = s.known name w.named (ap is_some w.has) in
    whole_of (map.get links name) holder (sym (s.origins name holder) ∙ w.whole)

pub tight_tree : (objects : Objects) (number : ℕ) (kept : Kept) → AllStand (Some objects) number kept → AreTight objects number kept → IsTightTree objects number
tight_tree objects number kept stand tight digest name other bytes own one two some =
    let s = stand digest own in
    tight digest own name other bytes (whole_kept objects digest (links_at kept digest) name bytes s one) (whole_kept objects digest (links_at kept digest) other bytes s two) one.has two.has some
