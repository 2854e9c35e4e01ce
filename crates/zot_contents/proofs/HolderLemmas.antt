-- What follows from the calls on the plain pool.
use Rattle.std.proofs.Common.{◌≡◌, ◌≢◌, ℕ, ◌⊎◌, inl, inr, Bool, true, false, cond, List, [], ◌∷◌, Option, Some, None, IfSome, is_some, refl, sym, ap, subst, ◌∙◌}
use Rattle.std.specs.Prelude.{IsSome, option_map, unwrap_or}
use Rattle.std.specs.Str.{bytes_eq}
use Rattle.std.proofs.lemmas.Bool.{true≢false}
use Rattle.std.proofs.lemmas.Slice.Eq.{bytes_eq-Decides}
use mathlib.Core.Logic.{dite}
use native.Mathlib.Decide.{ℕ_discrete}
use Rattle.zot_digest.specs.Digest.{IsDigest, is_sound}
use Rattle.zot_names.specs.Name.{IsName}
use Rattle.zot_history.specs.History.{entries_of}
use Rattle.zot_history.specs.Run.{IsAlikeFor, RunTo}
use Rattle.zot_history.proofs.Histories.{entries_of_first, entries_of_later}
use Rattle.zot_history.proofs.Runs.{run_from}
use Rattle.zot_links.proofs.StandLemmas.{eq_false, eq_true}
use Rattle.zot_links.specs.Changes.{with_held}
use Rattle.zot_contents.specs.Holders.{Covers, GivesOwn, History, IsOwner, IsRefused, KeepsOtherShards, Moves, MovesOwn, PoolEntry, after_all, after_call, after_entry, carried_by, digest_in, if_taken, is_own, name_in, own_entries, under, unless_refused}
use Rattle.zot_contents.specs.Holdings.{AreAllHeld, Lists}
use Rattle.zot_contents.specs.Pool.{AreSame, Gives, Holders, IsPlain, MayAnswer, content_of, if_sound, mount_of, plain_attach, plain_detach, plain_mount, plain_read, with_bytes}
use Rattle.zot_contents.specs.Shards.{IsCallOf, IsOfShard, shard_of}
use Rattle.zot_contents.specs.declared.holding.Holding.{Holding}
use Rattle.zot_contents.specs.declared.pool_call.PoolCall.{PoolCall}
use Rattle.zot_contents.specs.declared.pool_call.PoolCall.TheVariants as calls
use Rattle.zot_contents.specs.declared.pool_reply.PoolReply.{PoolReply}
use Rattle.zot_contents.specs.declared.pool_reply.PoolReply.TheVariants as replies

abbrev pub Held : Type 0
Held = Option (List ℕ)

-- ---- one place

-- what is held at a place after a change at another one or there
abbrev pub put : List ℕ → List ℕ → Held → List ℕ → List ℕ → Held → Held
put digest name bytes other holder old = cond (bytes_eq other digest) (cond (bytes_eq holder name) bytes old) old

pub with_point : (held : Holders) (digest name : List ℕ) (bytes : Held) (other holder : List ℕ) → with_bytes held digest name bytes other holder ≡ put digest name bytes other holder (held other holder)
with_point held digest name bytes other holder =
    elim (bytes_eq other digest) as (λ b. bytes_eq other digest ≡ b
    → (cond b (with_held (held digest) name bytes) (held other)) holder ≡ cond b (cond (bytes_eq holder name) bytes (held other holder)) (held other holder)) [
      | true ↦ λ is. ap (λ d. cond (bytes_eq holder name) bytes (held d holder)) (sym ((bytes_eq-Decides other digest).0 is))
      | false ↦ λ _. refl
    ] refl

pub cond_same : (b : Bool) (x : Held) → cond b x x ≡ x
cond_same true x = refl
cond_same false x = refl

pub put_here : (digest name : List ℕ) (bytes old : Held) → put digest name bytes digest name old ≡ bytes
put_here digest name bytes old =
    ap (λ b. cond b (cond (bytes_eq name name) bytes old) old) (eq_true digest digest refl) ∙ ap (λ b. cond b bytes old) (eq_true name name refl)

pub put_other_name : (digest name : List ℕ) (bytes : Held) (other holder : List ℕ) (old : Held) → holder ≢ name → put digest name bytes other holder old ≡ old
put_other_name digest name bytes other holder old apart =
    ap (λ b. cond (bytes_eq other digest) (cond b bytes old) old) (eq_false holder name apart) ∙ cond_same (bytes_eq other digest) old

pub put_other_digest : (digest name : List ℕ) (bytes : Held) (other holder : List ℕ) (old : Held) → other ≢ digest → put digest name bytes other holder old ≡ old
put_other_digest digest name bytes other holder old apart = ap (λ b. cond b (cond (bytes_eq holder name) bytes old) old) (eq_false other digest apart)

-- a change at one place is one there and nowhere else
pub with_bytes_here : (held : Holders) (digest name : List ℕ) (bytes : Held) → with_bytes held digest name bytes digest name ≡ bytes
with_bytes_here held digest name bytes = with_point held digest name bytes digest name ∙ put_here digest name bytes (held digest name)

pub with_bytes_beside : (held : Holders) (digest name : List ℕ) (bytes : Held) (other holder : List ℕ) → (other ≢ digest) ⊎ (holder ≢ name) → with_bytes held digest name bytes other holder ≡ held other holder
with_bytes_beside held digest name bytes other holder apart = with_point held digest name bytes other holder ∙ elim apart [
  | inl digests ↦ put_other_digest digest name bytes other holder (held other holder) digests
  | inr names ↦ put_other_name digest name bytes other holder (held other holder) names
]

-- ---- all places

pub same_itself : (held : Holders) → AreSame held held
same_itself held = λ digest name is named. refl

pub same_through : (a m b : Holders) → AreSame a m → AreSame m b → AreSame a b
same_through a m b h k = λ digest name is named. k digest name is named ∙ h digest name is named

pub with_same : (a m : Holders) (digest name : List ℕ) (bytes : Held) → AreSame a m → AreSame (with_bytes a digest name bytes) (with_bytes m digest name bytes)
with_same a m digest name bytes h = λ other holder is named.
    with_point m digest name bytes other holder ∙ ap (put digest name bytes other holder) (h other holder is named) ∙ sym (with_point a digest name bytes other holder)

-- ---- a shard among all

pub sound_bytes : (digest : List ℕ) (held : Held) (bytes : List ℕ) → if_sound digest held ≡ Some bytes → is_sound digest bytes ≡ true
sound_bytes digest None bytes is = cc is
sound_bytes digest (Some other) bytes is =
    elim (is_sound digest other) as (λ b. is_sound digest other ≡ b → cond b (Some other) None ≡ Some bytes → is_sound digest bytes ≡ true) [
      | true ↦ λ sound same. let e : other ≡ bytes = cc same in ap (is_sound digest) (sym e) ∙ sound
      | false ↦ λ _ none. cc none
    ] refl is

-- what is listed of a shard is listed of all
pub listed_of_all : (number : ℕ) (shard all : Holders) → Covers number shard all → (holdings : List Holding) → AreAllHeld number shard holdings → AreAllHeld number all holdings
listed_of_all number shard all covers holdings listing = record {
  listed = λ holding has.
      let held = listing.listed holding has in
      record { digest = held.digest; bytes = held.bytes; holds = ap (λ h. h holding.name) (covers holding.digest held.digest) ∙ held.holds; size = held.size };
  all = λ digest name own named some. listing.all digest name own named (subst (λ (held : List ℕ → Held). IsSome (held name)) (covers digest own) some);
  ordered = listing.ordered;
}

held_of_all : (number : ℕ) (shard all : Holders) → Covers number shard all → (reply : PoolReply) → Lists number shard reply → Lists number all reply
held_of_all number shard all covers reply (holdings, is, listing) = (holdings, is, listed_of_all number shard all covers holdings listing)

module _ (number : ℕ) (shard later all after : Holders) (before : Covers number shard all) (covers : Covers number later after) (others : KeepsOtherShards number all after) where
  -- a place that stays in the shard, or one that changes in it
  module _ (digest name : List ℕ) (is : IsDigest digest) where
    place : (change : Held → Held) → (IsOfShard number digest → later digest name ≡ change (shard digest name)) → (¬ IsOfShard number digest → change (all digest name) ≡ all digest name)
        → after digest name ≡ change (all digest name)
    place change own other = dite (ℕ_discrete (shard_of digest) number)
        (λ (same : shard_of digest ≡ number). ap (λ h. h name) (covers digest (is, same)) ∙ own (is, same) ∙ ap (λ h. change (h name)) (sym (before digest (is, same))))
        (λ (apart : shard_of digest ≢ number). ap (λ h. h name) (others digest is (λ p. apart p.1)) ∙ sym (other (λ p. apart p.1)))

  pub same_of_all : AreSame shard later → AreSame all after
  same_of_all same = λ digest name is named. place digest name is (λ x. x) (λ own. same digest name is named) (λ other. refl)

  pub with_of_all : (digest name : List ℕ) (bytes : Held) → IsOfShard number digest → AreSame (with_bytes shard digest name bytes) later → AreSame (with_bytes all digest name bytes) after
  with_of_all digest name bytes own same = λ other holder is named.
      place other holder is (put digest name bytes other holder)
      (λ _. same other holder is named ∙ with_point shard digest name bytes other holder)
      (λ not. put_other_digest digest name bytes other holder (all other holder) (λ e. not (subst (λ d. IsOfShard number d) (sym e) own)))
      ∙ sym (with_point all digest name bytes other holder)

  pub attach_of_all : (name digest bytes : List ℕ) (reply : PoolReply) → IsOfShard number digest → Gives (plain_attach shard name digest bytes) reply later → Gives (plain_attach all name digest bytes) reply after
  attach_of_all name digest bytes reply own gives = record { reply_is = gives.reply_is; held_is = with_of_all digest name (Some bytes) own gives.held_is }

  mount_found : (name digest : List ℕ) (found : Held) (reply : PoolReply) → IsOfShard number digest → Gives (mount_of shard name digest found) reply later → Gives (mount_of all name digest found) reply after
  mount_found name digest None reply own gives = record { reply_is = gives.reply_is; held_is = same_of_all gives.held_is }
  mount_found name digest (Some bytes) reply own gives = record { reply_is = gives.reply_is; held_is = with_of_all digest name (Some bytes) own gives.held_is }

  pub mount_of_all : (name from digest : List ℕ) (reply : PoolReply) → IsOfShard number digest → Gives (plain_mount shard name from digest) reply later → Gives (plain_mount all name from digest) reply after
  mount_of_all name from digest reply own gives =
      subst (λ (held : List ℕ → Held). Gives (mount_of all name digest (if_sound digest (held from))) reply after) (sym (before digest own))
      (mount_found name digest (if_sound digest (shard digest from)) reply own gives)

  pub read_of_all : (name digest : List ℕ) (reply : PoolReply) → IsOfShard number digest → Gives (plain_read shard name digest) reply later → Gives (plain_read all name digest) reply after
  read_of_all name digest reply own gives = record {
    reply_is = gives.reply_is ∙ ap (λ (held : List ℕ → Held). content_of (held name)) (sym (before digest own));
    held_is = same_of_all gives.held_is;
  }

  pub detach_of_all : (name digest : List ℕ) (reply : PoolReply) → IsOfShard number digest → Gives (plain_detach shard name digest) reply later → Gives (plain_detach all name digest) reply after
  detach_of_all name digest reply own gives = record {
    reply_is = gives.reply_is ∙ ap (λ (held : List ℕ → Held). replies.Removed (is_some (held name))) (sym (before digest own));
    held_is = with_of_all digest name None own gives.held_is;
  }

  plain_of_all : (call : PoolCall) (reply : PoolReply) → IsCallOf number call → IsPlain number shard call reply later → IsPlain number all call reply after
  unfolding IsPlain
  plain_of_all calls.Holdings reply own plain = (held_of_all number shard all before reply plain.0, same_of_all plain.1)
  plain_of_all (calls.Attach name digest bytes) reply own plain = attach_of_all name digest bytes reply own plain
  plain_of_all (calls.Mount name from digest) reply own plain = mount_of_all name from digest reply own plain
  plain_of_all (calls.Read name digest) reply own plain = read_of_all name digest reply own plain
  plain_of_all (calls.Detach name digest) reply own plain = detach_of_all name digest reply own plain

-- how one shard answers is how all are answered
pub answer_of_all : (number : ℕ) (shard later all after : Holders) (before since : ℕ) (call : PoolCall) (reply : PoolReply) → Covers number shard all → Covers number later after → KeepsOtherShards number all after
    → IsCallOf number call → MayAnswer number (record { held = shard; faults = before }) call reply (record { held = later; faults = since })
    → MayAnswer number (record { held = all; faults = before }) call reply (record { held = after; faults = since })
answer_of_all number shard later all after before since call reply covers then_covers others own answer = elim answer [
  | inl done ↦ inl (record { plain = plain_of_all number shard later all after covers then_covers others call reply own done.plain; faults = done.faults })
  | inr (inl lacks) ↦ inr (inl (record { reply_is = lacks.reply_is; held = same_of_all number shard later all after covers then_covers others lacks.held; faults = lacks.faults }))
  | inr (inr fault) ↦ inr (inr (record { reply_is = fault.reply_is; held = same_of_all number shard later all after covers then_covers others fault.held; faults = fault.faults }))
]

-- ---- under one's own names

module _ (mine : List ℕ → Bool) (old new : Holders) where
  abbrev Mine : Holders → Holders
  Mine held = under mine held

  own_same : AreSame old new → AreSame (Mine old) (Mine new)
  own_same same = λ digest name is named. ap (λ h. cond (mine name) h None) (same digest name is named)

  -- what is put under a name of one's own is put, and seen
  own_with : (digest name : List ℕ) (bytes : Held) → mine name ≡ true → AreSame (with_bytes old digest name bytes) new → AreSame (with_bytes (Mine old) digest name bytes) (Mine new)
  own_with digest name bytes own same = λ other holder is named.
      ap (λ h. cond (mine holder) h None) (same other holder is named ∙ with_point old digest name bytes other holder)
      ∙ elim (mine holder) as (λ b. mine holder ≡ b → cond b (put digest name bytes other holder (old other holder)) None ≡ put digest name bytes other holder (cond b (old other holder) None)) [
        | true ↦ λ _. refl
        | false ↦ λ not. sym (put_other_name digest name bytes other holder None (λ e. true≢false (sym own ∙ sym (ap mine e) ∙ not)))
      ] refl
      ∙ sym (with_point (Mine old) digest name bytes other holder)

  -- what is put under another name isn't
  other_with : (digest name : List ℕ) (bytes : Held) → mine name ≡ false → AreSame (with_bytes old digest name bytes) new → AreSame (Mine old) (Mine new)
  other_with digest name bytes not same = λ other holder is named.
      ap (λ h. cond (mine holder) h None) (same other holder is named ∙ with_point old digest name bytes other holder)
      ∙ elim (mine holder) as (λ b. mine holder ≡ b → cond b (put digest name bytes other holder (old other holder)) None ≡ cond b (old other holder) None) [
        | true ↦ λ own. put_other_name digest name bytes other holder (old other holder) (λ e. true≢false (sym own ∙ ap mine e ∙ not))
        | false ↦ λ _. refl
      ] refl

  own_mount : (name digest : List ℕ) (found carried : Held) (reply : PoolReply) → mine name ≡ true → carried ≡ if_taken reply found → ((bytes : List ℕ) → found ≡ Some bytes → is_sound digest bytes ≡ true)
      → Gives (mount_of old name digest found) reply new → IfSome carried (λ bytes. is_sound digest bytes ≡ true) × Gives (mount_of (Mine old) name digest carried) reply (Mine new)
  own_mount name digest None carried reply own carries sound gives =
      let is : None ≡ carried = sym (carries ∙ ap (λ r. if_taken r None) gives.reply_is) in
      subst (λ (c : Held). IfSome c (λ bytes. is_sound digest bytes ≡ true) × Gives (mount_of (Mine old) name digest c) reply (Mine new)) is
      (tt, record { reply_is = gives.reply_is; held_is = own_same gives.held_is })
  own_mount name digest (Some bytes) carried reply own carries sound gives =
      let is : Some bytes ≡ carried = sym (carries ∙ ap (λ r. if_taken r (Some bytes)) gives.reply_is) in
      subst (λ (c : Held). IfSome c (λ bytes. is_sound digest bytes ≡ true) × Gives (mount_of (Mine old) name digest c) reply (Mine new)) is
      (sound bytes refl, record { reply_is = gives.reply_is; held_is = own_with digest name (Some bytes) own gives.held_is })

  other_mount : (name digest : List ℕ) (found : Held) (reply : PoolReply) → mine name ≡ false → Gives (mount_of old name digest found) reply new → AreSame (Mine old) (Mine new)
  other_mount name digest None reply not gives = own_same gives.held_is
  other_mount name digest (Some bytes) reply not gives = other_with digest name (Some bytes) not gives.held_is

  own_held : (digest name : List ℕ) → mine name ≡ true → old digest name ≡ Mine old digest name
  own_held digest name own = ap (λ b. cond b (old digest name) None) (sym own)

  own_plain : (number : ℕ) (call : PoolCall) (reply : PoolReply) (carried : Held) → unwrap_or (option_map mine (name_in call)) false ≡ true → carried ≡ carried_by old call reply
      → IsPlain number old call reply new → GivesOwn (Mine old) call carried reply (Mine new)
  unfolding IsPlain
  own_plain number calls.Holdings reply carried own carries plain = own_same plain.1
  own_plain number (calls.Attach name digest bytes) reply carried own carries plain = record { reply_is = plain.reply_is; held_is = own_with digest name (Some bytes) own plain.held_is }
  own_plain number (calls.Mount name from digest) reply carried own carries plain =
      own_mount name digest (if_sound digest (old digest from)) carried reply own carries (sound_bytes digest (old digest from)) plain
  own_plain number (calls.Read name digest) reply carried own carries plain = record { reply_is = plain.reply_is ∙ ap content_of (own_held digest name own); held_is = own_same plain.held_is }
  own_plain number (calls.Detach name digest) reply carried own carries plain = record {
    reply_is = plain.reply_is ∙ ap (λ h. replies.Removed (is_some h)) (own_held digest name own);
    held_is = own_with digest name None own plain.held_is;
  }

  other_plain : (number : ℕ) (call : PoolCall) (reply : PoolReply) → unwrap_or (option_map mine (name_in call)) false ≡ false → IsPlain number old call reply new → AreSame (Mine old) (Mine new)
  unfolding IsPlain
  other_plain number calls.Holdings reply not plain = own_same plain.1
  other_plain number (calls.Attach name digest bytes) reply not plain = other_with digest name (Some bytes) not plain.held_is
  other_plain number (calls.Mount name from digest) reply not plain = other_mount name digest (if_sound digest (old digest from)) reply not plain
  other_plain number (calls.Read name digest) reply not plain = own_same plain.held_is
  other_plain number (calls.Detach name digest) reply not plain = other_with digest name None not plain.held_is

  -- an entry of one's own, and one of others
  own_moves : (entry : PoolEntry) → is_own mine entry ≡ true → Moves old entry new → MovesOwn (Mine old) entry (Mine new)
  own_moves entry own moves = record {
    named = moves.named;
    digest = moves.digest;
    answers = elim moves.answers [
      | inl done ↦ inl (own_plain moves.number entry.call entry.reply entry.carried own moves.carries done.plain)
      | inr (inl lacks) ↦ inr (inl lacks.reply_is, own_same lacks.held)
      | inr (inr fault) ↦ inr (inr fault.reply_is, own_same fault.held)
    ];
  }

  others_move : (entry : PoolEntry) → is_own mine entry ≡ false → Moves old entry new → AreSame (Mine old) (Mine new)
  others_move entry not moves = elim moves.answers [
    | inl done ↦ other_plain moves.number entry.call entry.reply not done.plain
    | inr (inl lacks) ↦ own_same lacks.held
    | inr (inr fault) ↦ own_same fault.held
  ]

-- ---- entries under one's own names, one after another

-- what the same holders allow, these allow
module _ (a m b : Holders) (alike : AreSame a m) where
  from_with : (digest name : List ℕ) (bytes : Held) → AreSame (with_bytes m digest name bytes) b → AreSame (with_bytes a digest name bytes) b
  from_with digest name bytes same = same_through (with_bytes a digest name bytes) (with_bytes m digest name bytes) b (with_same a m digest name bytes alike) same

  from_mount : (name digest : List ℕ) (found : Held) (reply : PoolReply) → Gives (mount_of m name digest found) reply b → Gives (mount_of a name digest found) reply b
  from_mount name digest None reply gives = record { reply_is = gives.reply_is; held_is = same_through a m b alike gives.held_is }
  from_mount name digest (Some bytes) reply gives = record { reply_is = gives.reply_is; held_is = from_with digest name (Some bytes) gives.held_is }

  from_gives : (call : PoolCall) (found : Held) (reply : PoolReply) → IfSome (name_in call) IsName → IfSome (digest_in call) IsDigest → GivesOwn m call found reply b → GivesOwn a call found reply b
  from_gives calls.Holdings found reply named is same = same_through a m b alike same
  from_gives (calls.Attach name digest bytes) found reply named is gives = record { reply_is = gives.reply_is; held_is = from_with digest name (Some bytes) gives.held_is }
  from_gives (calls.Mount name from digest) found reply named is gives = (gives.0, from_mount name digest found reply gives.1)
  from_gives (calls.Read name digest) found reply named is gives = record { reply_is = gives.reply_is ∙ ap content_of (alike digest name is named); held_is = same_through a m b alike gives.held_is }
  from_gives (calls.Detach name digest) found reply named is gives = record {
    reply_is = gives.reply_is ∙ ap (λ h. replies.Removed (is_some h)) (alike digest name is named);
    held_is = from_with digest name None gives.held_is;
  }

  from_moves : (entry : PoolEntry) → MovesOwn m entry b → MovesOwn a entry b
  from_moves entry moves = record {
    named = moves.named;
    digest = moves.digest;
    answers = elim moves.answers [
      | inl gives ↦ inl (from_gives entry.call entry.carried entry.reply moves.named moves.digest gives)
      | inr refused ↦ inr (refused.0, same_through a m b alike refused.1)
    ];
  }

pub own_alike : IsAlikeFor AreSame MovesOwn
own_alike = record {
  itself = same_itself;
  through = same_through;
  first = λ a m b entry alike moves. from_moves a m b alike entry moves;
}

-- the entries of one's own, taken out of a history
pub own_run : (mine : List ℕ → Bool) (old new : Holders) (entries : List (ℕ × PoolEntry)) → History old entries new → RunTo AreSame MovesOwn (under mine old) (own_entries mine entries) (under mine new)
own_run mine old new [] is = subst (λ (held : Holders). AreSame (under mine old) (under mine held)) is (same_itself (under mine old))
own_run mine old new (e ∷ entries) (m, moves, rest) =
    let later = own_run mine m new entries rest in
    elim (is_own mine e.1) as (λ b. is_own mine e.1 ≡ b → RunTo AreSame MovesOwn (under mine old) (cond b (e.1 ∷ own_entries mine entries) (own_entries mine entries)) (under mine new)) [
      | true ↦ λ own. (under mine m, own_moves mine old m e.1 own moves, later)
      | false ↦ λ not. run_from AreSame MovesOwn own_alike (under mine old) (under mine m) (under mine new) (own_entries mine entries) (others_move mine old m e.1 not moves) later
    ] refl

-- ---- what they lead to

unless_same : (reply : PoolReply) (held : Holders) → unless_refused reply held held ≡ held
unless_same replies.Done held = refl
unless_same (replies.Held holdings) held = refl
unless_same (replies.Size size) held = refl
unless_same (replies.Content bytes) held = refl
unless_same replies.Nothing held = refl
unless_same (replies.Removed was) held = refl
unless_same replies.Failed held = refl
unless_same replies.NoMemory held = refl

module _ (old new : Holders) where
  equal_same : (held : Holders) → held ≡ old → AreSame old new → AreSame held new
  equal_same held is same = subst (λ (h : Holders). AreSame h new) (sym is) same

  after_mount : (name digest : List ℕ) (found : Held) (reply : PoolReply) → Gives (mount_of old name digest found) reply new → AreSame (unless_refused reply old (mount_of old name digest found).held) new
  after_mount name digest None reply gives = equal_same (unless_refused reply old old) (unless_same reply old) gives.held_is
  after_mount name digest (Some bytes) reply gives =
      let all = with_bytes old digest name (Some bytes) in
      subst (λ (h : Holders). AreSame h new) (sym (ap (λ r. unless_refused r old all) gives.reply_is)) gives.held_is

  after_gives : (call : PoolCall) (found : Held) (reply : PoolReply) → GivesOwn old call found reply new → AreSame (unless_refused reply old (after_call old call found)) new
  after_gives calls.Holdings found reply same = equal_same (unless_refused reply old old) (unless_same reply old) same
  after_gives (calls.Attach name digest bytes) found reply gives =
      let all = with_bytes old digest name (Some bytes) in
      subst (λ (h : Holders). AreSame h new) (sym (ap (λ r. unless_refused r old all) gives.reply_is)) gives.held_is
  after_gives (calls.Mount name from digest) found reply gives = after_mount name digest found reply gives.1
  after_gives (calls.Read name digest) found reply gives = equal_same (unless_refused reply old old) (unless_same reply old) gives.held_is
  after_gives (calls.Detach name digest) found reply gives =
      let all = with_bytes old digest name None in
      subst (λ (h : Holders). AreSame h new) (sym (ap (λ r. unless_refused r old all) gives.reply_is)) gives.held_is

  after_refused : (reply : PoolReply) (held : Holders) → IsRefused reply → AreSame old new → AreSame (unless_refused reply old held) new
  after_refused reply held refused same = elim refused [
    | inl lacks ↦ subst (λ (h : Holders). AreSame h new) (sym (ap (λ r. unless_refused r old held) lacks)) same
    | inr fails ↦ subst (λ (h : Holders). AreSame h new) (sym (ap (λ r. unless_refused r old held) fails)) same
  ]

  pub after_moves : (entry : PoolEntry) → MovesOwn old entry new → AreSame (after_entry old entry) new
  after_moves entry moves = elim moves.answers [
    | inl gives ↦ after_gives entry.call entry.carried entry.reply gives
    | inr refused ↦ after_refused entry.reply (after_call old entry.call entry.carried) refused.0 refused.1
  ]

-- a run of one's own entries leads to what follows from them
pub run_leads : (old new : Holders) (entries : List PoolEntry) → RunTo AreSame MovesOwn old entries new → AreSame (after_all old entries) new
run_leads old new [] same = same
run_leads old new (e ∷ entries) (m, moves, rest) =
    run_leads (after_entry old e) new entries (run_from AreSame MovesOwn own_alike (after_entry old e) m new entries (after_moves old m e moves) rest)

-- ---- place by place

-- an entry of another name leaves a place
module _ (digest name : List ℕ) where
  unless_at : (reply : PoolReply) (old held : Holders) → unless_refused reply old held digest name ≡ unless_refused reply (λ _ _. old digest name) (λ _ _. held digest name) digest name
  unless_at replies.Done old held = refl
  unless_at (replies.Held holdings) old held = refl
  unless_at (replies.Size size) old held = refl
  unless_at (replies.Content bytes) old held = refl
  unless_at replies.Nothing old held = refl
  unless_at (replies.Removed was) old held = refl
  unless_at replies.Failed old held = refl
  unless_at replies.NoMemory old held = refl

  module _ (x y : Holders) (same : x digest name ≡ y digest name) where
    mount_at : (owner at : List ℕ) (found : Held) → (mount_of x owner at found).held digest name ≡ (mount_of y owner at found).held digest name
    mount_at owner at None = same
    mount_at owner at (Some bytes) = with_point x at owner (Some bytes) digest name ∙ ap (put at owner (Some bytes) digest name) same ∙ sym (with_point y at owner (Some bytes) digest name)

    call_at : (call : PoolCall) (found : Held) → after_call x call found digest name ≡ after_call y call found digest name
    call_at calls.Holdings found = same
    call_at (calls.Attach owner at bytes) found = mount_at owner at (Some bytes)
    call_at (calls.Mount owner from at) found = mount_at owner at found
    call_at (calls.Read owner at) found = same
    call_at (calls.Detach owner at) found = with_point x at owner None digest name ∙ ap (put at owner None digest name) same ∙ sym (with_point y at owner None digest name)

    pub entry_at : (entry : PoolEntry) → after_entry x entry digest name ≡ after_entry y entry digest name
    entry_at entry =
        unless_at entry.reply x (after_call x entry.call entry.carried)
        ∙ ap (λ (p : Held × Held). unless_refused entry.reply (λ _ _. p.0) (λ _ _. p.1) digest name) (λ i. (same i, call_at entry.call entry.carried i))
        ∙ sym (unless_at entry.reply y (after_call y entry.call entry.carried))

  pub all_at : (x y : Holders) (entries : List PoolEntry) → x digest name ≡ y digest name → after_all x entries digest name ≡ after_all y entries digest name
  all_at x y [] same = same
  all_at x y (e ∷ entries) same = all_at (after_entry x e) (after_entry y e) entries (entry_at x y same e)

  module _ (mine : List ℕ → Bool) (own : mine name ≡ true) where
    apart_from : (owner : List ℕ) → mine owner ≡ false → name ≢ owner
    apart_from owner not is = true≢false (sym own ∙ ap mine is ∙ not)

    mount_skips : (held : Holders) (owner at : List ℕ) (found : Held) → mine owner ≡ false → (mount_of held owner at found).held digest name ≡ held digest name
    mount_skips held owner at None not = refl
    mount_skips held owner at (Some bytes) not = with_bytes_beside held at owner (Some bytes) digest name (inr (apart_from owner not))

    call_skips : (held : Holders) (call : PoolCall) (found : Held) → unwrap_or (option_map mine (name_in call)) false ≡ false → after_call held call found digest name ≡ held digest name
    call_skips held calls.Holdings found not = refl
    call_skips held (calls.Attach owner at bytes) found not = mount_skips held owner at (Some bytes) not
    call_skips held (calls.Mount owner from at) found not = mount_skips held owner at found not
    call_skips held (calls.Read owner at) found not = refl
    call_skips held (calls.Detach owner at) found not = with_bytes_beside held at owner None digest name (inr (apart_from owner not))

    entry_skips : (held : Holders) (entry : PoolEntry) → is_own mine entry ≡ false → after_entry held entry digest name ≡ held digest name
    entry_skips held entry not =
        unless_at entry.reply held (after_call held entry.call entry.carried)
        ∙ ap (λ (h : Held). unless_refused entry.reply (λ _ _. held digest name) (λ _ _. h) digest name) (call_skips held entry.call entry.carried not)
        ∙ ap (λ (h : Holders). h digest name) (unless_same entry.reply (λ _ _. held digest name))

    -- the entries of the owner lead to what its entries of these names lead to
    pub owner_at : (owner : ℕ) (entries : List (ℕ × PoolEntry)) (x y : Holders) → IsOwner owner mine entries → x digest name ≡ y digest name
        → after_all x (own_entries mine entries) digest name ≡ after_all y (entries_of owner entries) digest name
    owner_at owner [] x y owns same = same
    owner_at owner (e ∷ entries) x y owns same = dite (ℕ_discrete e.0 owner)
        (λ (is : e.0 ≡ owner).
        subst (λ l. after_all x (own_entries mine (e ∷ entries)) digest name ≡ after_all y l digest name) (sym (entries_of_first owner e entries is))
        (elim (is_own mine e.1) as (λ b. is_own mine e.1 ≡ b → after_all x (cond b (e.1 ∷ own_entries mine entries) (own_entries mine entries)) digest name ≡ after_all (after_entry y e.1) (entries_of owner entries) digest name) [
          | true ↦ λ _. owner_at owner entries (after_entry x e.1) (after_entry y e.1) owns.1 (entry_at x y same e.1)
          | false ↦ λ not. owner_at owner entries x (after_entry y e.1) owns.1 (same ∙ sym (entry_skips y e.1 not))
        ] refl))
        (λ (apart : e.0 ≢ owner).
        subst (λ l. after_all x (own_entries mine (e ∷ entries)) digest name ≡ after_all y l digest name) (sym (entries_of_later owner e entries apart))
        (elim (is_own mine e.1) as (λ b. is_own mine e.1 ≡ b → after_all x (cond b (e.1 ∷ own_entries mine entries) (own_entries mine entries)) digest name ≡ after_all y (entries_of owner entries) digest name) [
          | true ↦ λ is. absurd (apart (owns.0 is))
          | false ↦ λ _. owner_at owner entries x y owns.1 same
        ] refl))

    -- what is held under one's own names follows from the entries of these names
    pub own_leads : (old new : Holders) (entries : List (ℕ × PoolEntry)) → IsDigest digest → IsName name → History old entries new → new digest name ≡ after_all old (own_entries mine entries) digest name
    own_leads old new entries is named history =
        let seen : (held : Holders) → held digest name ≡ under mine held digest name = λ held. ap (λ b. cond b (held digest name) None) (sym own) in
        seen new
        ∙ run_leads (under mine old) (under mine new) (own_entries mine entries) (own_run mine old new entries history) digest name is named
        ∙ all_at (under mine old) old (own_entries mine entries) (sym (seen old))
