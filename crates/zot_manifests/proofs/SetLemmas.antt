-- Sets of values under digests, in a tree's entries, and what a call does to them.
use Rattle.std.proofs.Common.{◌≡◌, ℕ, Bool, true, false, cond, List, Option, Some, None, refl, sym, ap, subst, ◌∙◌}
use Rattle.std.specs.Prelude.{◌&&◌, ◌||◌, IsSome}
use Rattle.std.specs.BTreeMap.{is_at}
use Rattle.std.specs.BTreeSet.{BTreeSet, contains}
use Rattle.std.specs.Map.{lookup}
use Rattle.std.specs.Str.{bytes_eq}
use Rattle.std.specs.declared.cmp.Ordering.{Ordering}
use Rattle.std.proofs.lemmas.Slice.Eq.{bytes_eq-Decides}
use Rattle.zot_digest.specs.ByteMap.{byte_cmp}
use Rattle.zot_manifests.specs.Index.{Adds, Changes, KeepsAll, KeepsJust, Sets, has, is_in}
use Rattle.zot_maps.proofs.Entries.{Writes}
use Rattle.zot_maps.proofs.Maps.{byte_order, same_key, tied_keys}

both_say : (a b : Bool) → (a ≡ true → b ≡ true) → (b ≡ true → a ≡ true) → a ≡ b
both_say true true f g = refl
both_say false false f g = refl
both_say true false f g = sym (f refl)
both_say false true f g = g refl

-- two digests are one in the order of bytes where they are byte by byte
pub same_digest : (d q : List ℕ) → is_at (byte_cmp d) q ≡ bytes_eq d q
same_digest d q = both_say (is_at (byte_cmp d) q) (bytes_eq d q)
    (λ h. (bytes_eq-Decides d q).1 (tied_keys byte_order d q h))
    (λ h. subst (λ k. is_at (byte_cmp d) k ≡ true) ((bytes_eq-Decides d q).0 h) (same_key byte_order d))

module _ {X : Type 0} (cmp : X → X → Ordering) where
  -- the sets of a tree's entries
  abbrev pub Entries : Type 0
  Entries = List (List ℕ × BTreeSet X)

  -- whether a value is listed there
  abbrev pub holds : Entries → List ℕ → X → Bool
  holds es digest value = is_in cmp (lookup (is_at (byte_cmp digest)) es) value

  module _ (es fs : Entries) (key : List ℕ) where
    -- these entries but for one digest, which has this set, or none
    abbrev pub SetsAt : Option (BTreeSet X) → Type 0
    SetsAt written = (q : List ℕ) → lookup (is_at (byte_cmp q)) fs ≡ cond (is_at (byte_cmp key) q) written (lookup (is_at (byte_cmp q)) es)

    -- there the values of that set are listed, and elsewhere what was
    replaced : (written : Option (BTreeSet X)) → SetsAt written → (q : List ℕ) (v : X) → holds fs q v ≡ cond (bytes_eq key q) (is_in cmp written v) (holds es q v)
    replaced written all q v = ap (λ o. is_in cmp o v) (all q) ∙ split (is_at (byte_cmp key) q) ∙ ap (λ b. cond b (is_in cmp written v) (holds es q v)) (same_digest key q) where
      split : (b : Bool) → is_in cmp (cond b written (lookup (is_at (byte_cmp q)) es)) v ≡ cond b (is_in cmp written v) (holds es q v)
      split true = refl
      split false = refl

    -- what is said of the values there
    here : (b : Bool) (q : List ℕ) (v : X) → bytes_eq key q ≡ b → (x : Bool) → (holds es key v ≡ x) → cond b x (holds es q v) ≡ holds es q v
    here true q v same x is = sym is ∙ ap (λ k. holds es k v) ((bytes_eq-Decides key q).0 same)
    here false q v apart x is = refl

    -- a set was written in which one value is there, or isn't
    pub changed : (now : Bool) (value : X) (written : Option (BTreeSet X)) → SetsAt written → ((v : X) → is_in cmp written v ≡ cond (is_at (cmp value) v) now (holds es key v))
        → (q : List ℕ) (v : X) → holds fs q v ≡ cond (bytes_eq key q && is_at (cmp value) v) now (holds es q v)
    changed now value written all one q v = replaced written all q v ∙ ap (λ x. cond (bytes_eq key q) x (holds es q v)) (one v) ∙ split (bytes_eq key q) refl where
      split : (b : Bool) → bytes_eq key q ≡ b → cond b (cond (is_at (cmp value) v) now (holds es key v)) (holds es q v) ≡ cond (b && is_at (cmp value) v) now (holds es q v)
      split true same = ap (λ k. cond (is_at (cmp value) v) now (holds es k v)) ((bytes_eq-Decides key q).0 same)
      split false apart = refl

    -- a set was written in place
    pub written : (now : Bool) (value : X) (found set : BTreeSet X) → Some found ≡ lookup (is_at (byte_cmp key)) es → Writes byte_order es fs key set
        → ((v : X) → contains cmp set v ≡ cond (is_at (cmp value) v) now (contains cmp found v)) → (q : List ℕ) (v : X) → holds fs q v ≡ cond (bytes_eq key q && is_at (cmp value) v) now (holds es q v)
    written now value found set has writes one =
        changed now value (Some set) (writes (subst (λ o. IsSome o) has refl)).0 (λ v. one v ∙ ap (λ o. cond (is_at (cmp value) v) now (is_in cmp o v)) has)

    -- the set that was there was written in place
    pub kept : (found set : BTreeSet X) → Some found ≡ lookup (is_at (byte_cmp key)) es → Writes byte_order es fs key set → set ≡ found → (q : List ℕ) (v : X) → holds fs q v ≡ holds es q v
    kept found set has writes is q v =
        replaced (Some set) (writes (subst (λ o. IsSome o) has refl)).0 q v
        ∙ here (bytes_eq key q) q v refl (contains cmp set v) (sym (ap (λ o. is_in cmp o v) has) ∙ ap (λ s. contains cmp s v) (sym is))

    -- a first set was added that has one value
    pub added : (value : X) (set : BTreeSet X) → lookup (is_at (byte_cmp key)) es ≡ None → SetsAt (Some set) → ((v : X) → contains cmp set v ≡ cond (is_at (cmp value) v) true false)
        → (q : List ℕ) (v : X) → holds fs q v ≡ cond (bytes_eq key q && is_at (cmp value) v) true (holds es q v)
    added value set none all one = changed true value (Some set) all (λ v. one v ∙ ap (λ o. cond (is_at (cmp value) v) true (is_in cmp o v)) (sym none))

    -- the set of a digest was taken off
    pub taken : SetsAt None → (q : List ℕ) (v : X) → holds fs q v ≡ cond (bytes_eq key q) false (holds es q v)
    taken all = replaced None all

    -- or one without values
    pub dropped : SetsAt None → ((v : X) → holds es key v ≡ false) → (q : List ℕ) (v : X) → holds fs q v ≡ holds es q v
    dropped all none q v = taken all q v ∙ here (bytes_eq key q) q v refl false (none v)

  -- ---- several calls

  module _ (now : Bool) (value : X) where
    -- what was done under some digests, and then under others
    pub changed_both : (a b : List ℕ → Bool) (old mid new : Sets X) → Changes cmp now a value old mid → Changes cmp now b value mid new → Changes cmp now (λ q. a q || b q) value old new
    changed_both a b old mid new one other q v = other q v ∙ ap (λ x. cond (b q && is_at (cmp value) v) now x) (one q v) ∙ either (a q) (b q) (is_at (cmp value) v) (has cmp old q v) where
      either : (a b c x : Bool) → cond (b && c) now (cond (a && c) now x) ≡ cond ((a || b) && c) now x
      either true true true x = refl
      either true true false x = refl
      either true false c x = refl
      either false b c x = refl

    -- the same by a test that is equal
    pub changed_alike : (a b : List ℕ → Bool) (old new : Sets X) → ((q : List ℕ) → a q ≡ b q) → Changes cmp now a value old new → Changes cmp now b value old new
    changed_alike a b old new alike all q v = all q v ∙ ap (λ t. cond (t && is_at (cmp value) v) now (has cmp old q v)) (alike q)

  -- adding takes nothing away
  pub adds_keep : (passes : List ℕ → Bool) (value : X) (old new : Sets X) → Adds cmp passes value old new → KeepsAll cmp old new
  adds_keep passes value old new adds q v h = adds q v ∙ either (passes q && is_at (cmp value) v) (has cmp old q v) h where
    either : (b c : Bool) → c ≡ true → cond b true c ≡ true
    either true c k = refl
    either false c k = k

  pub just_keep : (old new : Sets X) → KeepsJust cmp old new → KeepsAll cmp old new
  just_keep old new just q v h = just q v ∙ h
