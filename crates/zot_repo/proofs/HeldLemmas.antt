-- What is listed for the repositories of a row is all that is held for them.
use Rattle.std.proofs.Common.{◌≡◌, ◌≢◌, ℕ, zero, suc, Bool, true, false, cond, List, [], ◌∷◌, length, Contains, Option, Some, None, is_some, refl, sym, ap, subst, ◌∙◌, arith}
use Rattle.std.specs.Prelude.{option_map}
use Rattle.std.specs.List.{All}
use Rattle.std.specs.Str.{bytes_eq}
use Rattle.std.proofs.lemmas.Bool.{true≢false}
use Rattle.std.proofs.lemmas.List.Elements.{All-head, All-tail}
use Rattle.std.proofs.lemmas.Slice.Eq.{bytes_eq-Decides}
use Rattle.zot_contents.specs.Pool.{Holders}
use Rattle.zot_contents.specs.declared.holding.Holding.{Holding}
use Rattle.zot_digest.specs.Digest.{IsDigest}
use Rattle.zot_table.proofs.FoundLemmas.{found_more}
use Rattle.zot_table.specs.Opening.{HasFound, with_found}
use Rattle.zot_table.specs.Tables.{RepoTable}
use Rattle.zot_repo.proofs.RowLemmas.{digest_tested, set_table, table_beside, under_digest}
use Rattle.zot_repo.specs.Opening.{AreAllOf, AreOwn, IsHeldBy, with_holding, with_holdings}
use Rattle.zot_repo.specs.Rows.{Tables, is_digest, table_at, under}
use Rattle.zot_repo.proofs.OpenedLemmas.{apart_name, same_name}

-- ---- the sizes that are listed

abbrev pub Sizes : Type 0
Sizes = List ℕ → Option ℕ

abbrev pub with_size : Sizes → List ℕ → ℕ → Sizes
with_size sizes digest size q = cond (bytes_eq q digest) (Some size) (sizes q)

-- the last sizes that are listed for a name, where what came before them was this
abbrev pub sizes_after : List ℕ → Sizes → List Holding → Sizes
sizes_after name sizes [] = sizes
sizes_after name sizes (h ∷ others) = sizes_after name (cond (bytes_eq h.name name) (with_size sizes h.digest h.size) sizes) others

size_here : (sizes : Sizes) (digest : List ℕ) (size : ℕ) → with_size sizes digest size digest ≡ Some size
size_here sizes digest size = ap (λ b. cond b (Some size) (sizes digest)) ((bytes_eq-Decides digest digest).1 refl)

size_elsewhere : (sizes : Sizes) (digest : List ℕ) (size : ℕ) (q : List ℕ) → q ≢ digest → with_size sizes digest size q ≡ sizes q
size_elsewhere sizes digest size q apart = split (bytes_eq q digest) refl where
  split : (b : Bool) → bytes_eq q digest ≡ b → cond b (Some size) (sizes q) ≡ sizes q
  split true tied = absurd (apart (same_name q digest tied))
  split false free = refl

module _ (moment : ℕ) (base : RepoTable) (name : List ℕ) where
  one_found : (tables : Tables) (h : Holding) (sizes : Sizes) → HasFound moment base sizes (table_at tables name)
      → HasFound moment base (cond (bytes_eq h.name name) (with_size sizes h.digest h.size) sizes) (table_at (with_holding moment tables h) name)
  one_found tables h sizes has = split (bytes_eq h.name name) refl where
    split : (b : Bool) → bytes_eq h.name name ≡ b → HasFound moment base (cond b (with_size sizes h.digest h.size) sizes) (table_at (with_holding moment tables h) name)
    split true tied =
        let same = same_name h.name name tied in
        subst (HasFound moment base (with_size sizes h.digest h.size))
        (sym (ap (table_at (with_holding moment tables h)) (sym same) ∙ (set_table tables h.name (with_found moment (table_at tables h.name) h.digest h.size)).here))
        (found_more moment base (table_at tables h.name) sizes (with_size sizes h.digest h.size) h.digest h.size (size_here sizes h.digest h.size) (size_elsewhere sizes h.digest h.size)
        (subst (λ n. HasFound moment base sizes (table_at tables n)) (sym same) has))
    split false free =
        subst (HasFound moment base sizes)
        (sym (table_beside tables h.name (with_found moment (table_at tables h.name) h.digest h.size) (with_holding moment tables h) (set_table tables h.name (with_found moment (table_at tables h.name) h.digest h.size)) name (apart_name h.name name free)))
        has

  pub all_found : (tables : Tables) (hs : List Holding) (sizes : Sizes) → HasFound moment base sizes (table_at tables name) → HasFound moment base (sizes_after name sizes hs) (table_at (with_holdings moment tables hs) name)
  all_found tables [] sizes has = has
  all_found tables (h ∷ others) sizes has = all_found (with_holding moment tables h) others (cond (bytes_eq h.name name) (with_size sizes h.digest h.size) sizes) (one_found tables h sizes has)

-- what is listed for a name is all that is held for it
module _ (Own : List ℕ → Type 0) (held : Holders) (name : List ℕ) where
  abbrev AreHeld : Sizes → Type 0
  AreHeld sizes = (q : List ℕ) (n : ℕ) → sizes q ≡ Some n → IsDigest q × (option_map length (held q name) ≡ Some n)

  held_more : (h : Holding) (sizes : Sizes) → IsDigest h.digest → IsHeldBy held h → h.name ≡ name → AreHeld sizes → AreHeld (with_size sizes h.digest h.size)
  held_more h sizes digest is same so q n has = split (bytes_eq q h.digest) refl has where
    split : (b : Bool) → bytes_eq q h.digest ≡ b → cond b (Some h.size) (sizes q) ≡ Some n → IsDigest q × (option_map length (held q name) ≡ Some n)
    split true tied e =
        let here = same_name q h.digest tied in
        (subst IsDigest (sym here) digest, ap (λ d. option_map length (held d name)) here ∙ ap (λ m. option_map length (held h.digest m)) (sym same) ∙ ap (option_map length) is.holds ∙ ap Some (sym is.size) ∙ e)
    split false free e = so q n e

  all_held : (hs : List Holding) (sizes : Sizes) → AreOwn Own hs → All (IsHeldBy held) hs → AreHeld sizes → AreHeld (sizes_after name sizes hs)
  all_held [] sizes own are so = so
  all_held (h ∷ others) sizes own are so =
      all_held others (cond (bytes_eq h.name name) (with_size sizes h.digest h.size) sizes) (All-tail (λ (x : Holding). Own x.name × IsDigest x.digest) h others own) (All-tail (IsHeldBy held) h others are)
      (split (bytes_eq h.name name) refl) where
        split : (b : Bool) → bytes_eq h.name name ≡ b → AreHeld (cond b (with_size sizes h.digest h.size) sizes)
        split true tied = held_more h sizes (All-head (λ (x : Holding). Own x.name × IsDigest x.digest) h others own).1 (All-head (IsHeldBy held) h others are) (same_name h.name name tied) so
        split false free = so

  -- what is listed once stays so
  stays_listed : (q : List ℕ) (hs : List Holding) (sizes : Sizes) → is_some (sizes q) ≡ true → is_some (sizes_after name sizes hs q) ≡ true
  stays_listed q [] sizes is = is
  stays_listed q (h ∷ others) sizes is = stays_listed q others (cond (bytes_eq h.name name) (with_size sizes h.digest h.size) sizes) (split (bytes_eq h.name name)) where
    sized : (b : Bool) → is_some (cond b (Some h.size) (sizes q)) ≡ true
    sized true = refl
    sized false = is

    split : (b : Bool) → is_some (cond b (with_size sizes h.digest h.size) sizes q) ≡ true
    split true = sized (bytes_eq q h.digest)
    split false = is

  has_listed : (q : List ℕ) (hs : List Holding) (sizes : Sizes) (holding : Holding) → Contains hs holding → holding.digest ≡ q → holding.name ≡ name → is_some (sizes_after name sizes hs q) ≡ true
  has_listed q [] sizes holding (k, within, is) digest same = absurd (omega (arith, within))
  has_listed q (h ∷ others) sizes holding (zero, within, is) digest same =
      stays_listed q others (cond (bytes_eq h.name name) (with_size sizes h.digest h.size) sizes)
      (ap (λ b. is_some (cond b (with_size sizes h.digest h.size) sizes q)) ((bytes_eq-Decides h.name name).1 (ap (λ (x : Holding). x.name) is ∙ same))
      ∙ ap (λ b. is_some (cond b (Some h.size) (sizes q))) ((bytes_eq-Decides q h.digest).1 (sym (ap (λ (x : Holding). x.digest) is ∙ digest))))
  has_listed q (h ∷ others) sizes holding (suc k, within, is) digest same =
      has_listed q others (cond (bytes_eq h.name name) (with_size sizes h.digest h.size) sizes) holding (k, omega (arith, within), is) digest same

  module _ (hs : List Holding) (own_name : Own name) (own : AreOwn Own hs) (are : AreAllOf Own held hs) where
    abbrev listed : Sizes
    listed = sizes_after name (λ _. None) hs

    none_first : AreHeld (λ _. None)
    none_first q n has = cc has

    -- nothing is held under a digest that isn't listed
    not_held : (q : List ℕ) → listed q ≡ None → (found : Option (List ℕ)) → under held name q ≡ found → found ≡ None
    not_held q none None is = refl
    not_held q none (Some bytes) is = absurd (by (is_digest q) refl is) where
      by : (b : Bool) → is_digest q ≡ b → cond b (held q name) None ≡ Some bytes → ⊥
      by true tested e =
          let one = are.all q name (digest_tested q tested) own_name (ap is_some e) in
          true≢false (sym (has_listed q hs (λ _. None) one.holding one.has one.digest_is one.name_is) ∙ ap is_some none)
      by false tested e = cc e

    pub sizes_fit : (q : List ℕ) → option_map length (under held name q) ≡ listed q
    sizes_fit q = by (listed q) refl where
      by : (size : Option ℕ) → listed q ≡ size → option_map length (under held name q) ≡ size
      by None none = ap (option_map length) (not_held q none (under held name q) refl)
      by (Some n) some =
          let so = all_held hs (λ _. None) own are.listed none_first q n some in
          ap (option_map length) (under_digest held name q so.0) ∙ so.1
