-- How a repository may come to hold bytes, and what it makes.
use Rattle.std.proofs.Common.{◌≡◌, ◌≢◌, ℕ, inl, inr, Bool, true, false, IsTrue, ◌↔◌, List, [], ◌∷◌, ◌==◌, length, map as each, Option, Some, None, is_some, IsSome, IfSome, refl, sym, ap, subst, ◌∙◌}
use Rattle.std.specs.Prelude.{cond, ⊤}
use Rattle.std.specs.FinMap as map
use Rattle.std.specs.FinMap.{get-from_entries}
use Rattle.std.specs.FinMap.Entries.{find}
use Rattle.std.specs.List.{AllByRecursion}
use Rattle.std.specs.List.Sorted.{IsStrictlySortedBy}
use Rattle.std.specs.Ordering.{eq_by_cmp, is_eq, ordering_reverse}
use Rattle.std.specs.declared.cmp.Ordering.TheVariants.{Less, Greater}
use Rattle.std.proofs.lemmas.Bool.{true≢false}
use Rattle.zot_digest.specs.ByteMap.{byte_cmp, map_of}
use Rattle.zot_maps.proofs.Maps.{byte_order, same_key, tied_keys}
use Rattle.zot_names.specs.Name.{IsName}
use Rattle.zot_outside.specs.Objects.{Objects, Told}
use Rattle.zot_links.proofs.HeldLemmas.{held_source, nothing_there}
use Rattle.zot_links.proofs.LinkLemmas.{apart}
use Rattle.zot_links.proofs.ToldLemmas.{told_with}
use Rattle.zot_links.specs.Aims.{Attains, IsAim, IsAimed, IsFirst, IsSought}
use Rattle.zot_links.specs.Changes.{Sets}
use Rattle.zot_links.specs.Holding.{HasOrigin, source_of}
use Rattle.zot_links.specs.Meaning.{IsFresh, IsWhole, Links, Stands, StandsWhereTold, held, held_by, line_at, object_at, origin_of}
use Rattle.zot_links.specs.declared.aim.Aim.{Aim}
use Rattle.zot_links.specs.declared.aim.Aim.TheVariants.{Whole, Link}

-- ---- what is held already

pub same_held : (objects : Option Objects) (digest : List ℕ) (links : Links) (name source bytes : List ℕ) (same : Bool) → StandsWhereTold objects digest links → IsName name
    → Some source ≡ source_of name (map.get links name) → IfSome objects (λ told. IsTrue same ↔ (object_at told digest source ≡ Some bytes))
    → IfSome objects (λ told. IsTrue same ↔ (held told digest name ≡ Some bytes))
same_held None digest links name source bytes same s is from h = tt
same_held (Some told) digest links name source bytes same s is from h =
    subst (λ (o : Option (List ℕ)). IsTrue same ↔ (o ≡ Some bytes)) (sym (held_source told digest links name source s is from)) h

pub not_held : (objects : Option Objects) (digest : List ℕ) (links : Links) (name bytes : List ℕ) → StandsWhereTold objects digest links → IsName name → None ≡ source_of name (map.get links name)
    → IfSome objects (λ told. IsTrue false ↔ (held told digest name ≡ Some bytes))
not_held None digest links name bytes s is none = tt
not_held (Some told) digest links name bytes s is none =
    (λ t. cc t, λ k. let clash : None ≡ Some bytes = sym (nothing_there told digest links name s is none) ∙ k in cc clash)

-- a whole holder holds its own object
own_held : (objects : Objects) (digest : List ℕ) (links : Links) (name bytes : List ℕ) → Stands objects digest links → IsWhole links name → object_at objects digest name ≡ Some bytes
    → held objects digest name ≡ Some bytes
unfolding held
own_held objects digest links name bytes s whole has =
    ap (λ o. held_by (object_at objects digest) o (origin_of (line_at objects digest name))) has
    ∙ ap (λ o. held_by (object_at objects digest) (Some bytes) o) (s.origins name (ap is_some whole) ∙ ap origin_of whole)

-- ---- what an aim makes

weaker : (fresh wider : Type 0) (old new : Objects) (digest : List ℕ) (links later : Links) (name : List ℕ) (bytes : Option (List ℕ)) → (wider → fresh)
    → Sets fresh old digest links name bytes new later → Sets wider old digest links name bytes new later
weaker fresh wider old new digest links later name bytes f h = record { stands = h.stands; holds = h.holds; elsewhere = h.elsewhere; tight = λ w t. h.tight (f w) t }

pub carried_whole : (before after : Option Objects) (digest : List ℕ) (links later : Links) (name bytes : List ℕ) (aim : Aim) → aim ≡ Whole → StandsWhereTold before digest links
    → Told before after (λ old new. Stands old digest links → Sets (IsFresh old digest links bytes) old digest links name (Some bytes) new later)
    → Told before after (λ old new. (dedupe : Bool) → IsAim dedupe old digest links name bytes aim → Sets (dedupe ≡ true) old digest links name (Some bytes) new later)
carried_whole before after digest links later name bytes aim at stands h =
    told_with before after (λ old. Stands old digest links) (λ old new. Stands old digest links → Sets (IsFresh old digest links bytes) old digest links name (Some bytes) new later)
    (λ old new. (dedupe : Bool) → IsAim dedupe old digest links name bytes aim → Sets (dedupe ≡ true) old digest links name (Some bytes) new later)
    (λ old new s f dedupe is.
    let a : IsAim dedupe old digest links name bytes Whole = subst (λ (w : Aim). IsAim dedupe old digest links name bytes w) at is in
    weaker (IsFresh old digest links bytes) (dedupe ≡ true) old new digest links later name (Some bytes) (λ d some other whole has. a.1 (d, some) other (whole, has)) (f s)) stands h

pub carried_link : (before after : Option Objects) (digest : List ℕ) (links later : Links) (name bytes origin : List ℕ) (aim : Aim) → aim ≡ Link origin → StandsWhereTold before digest links
    → Told before after (λ old new. (wanted : List ℕ) → Stands old digest links → HasOrigin old digest links name origin wanted → Sets ⊤ old digest links name (Some wanted) new later)
    → Told before after (λ old new. (dedupe : Bool) → IsAim dedupe old digest links name bytes aim → Sets (dedupe ≡ true) old digest links name (Some bytes) new later)
carried_link before after digest links later name bytes origin aim at stands h =
    told_with before after (λ old. Stands old digest links)
    (λ old new. (wanted : List ℕ) → Stands old digest links → HasOrigin old digest links name origin wanted → Sets ⊤ old digest links name (Some wanted) new later)
    (λ old new. (dedupe : Bool) → IsAim dedupe old digest links name bytes aim → Sets (dedupe ≡ true) old digest links name (Some bytes) new later)
    (λ old new s f dedupe is.
    let a : IsAim dedupe old digest links name bytes (Link origin) = subst (λ (w : Aim). IsAim dedupe old digest links name bytes w) at is in
    let least = a.2 in
    let from : HasOrigin old digest links name origin bytes = record {
      whole = least.whole.0;
      has = least.whole.1;
      other = λ e. a.0 (own_held old digest links name bytes s (subst (IsWhole links) e least.whole.0) (ap (object_at old digest) (sym e) ∙ least.whole.1));
    } in
    weaker ⊤ (dedupe ≡ true) old new digest links later name (Some bytes) (λ _. tt) (f bytes s from)) stands h

-- ---- the first whole holder that has them is the least

abbrev Entries : Type 0
Entries = List (List ℕ × Option (List ℕ))

-- what holds of each key that is found holds of all
all_found : (P : List ℕ → Type 0) (es : Entries) → ((k : List ℕ) → IsSome (find byte_cmp k es) → P k) → AllByRecursion (λ e. P e.0) es
all_found P [] f = tt
all_found P (e ∷ es) f = (
  f e.0 (ap (λ b. is_some (cond b (Some e.1) (find byte_cmp e.0 es))) (same_key byte_order e.0)),
  all_found P es (λ k some. f k (later (eq_by_cmp byte_cmp k e.0) k some)),
) where
  later : (b : Bool) (k : List ℕ) → IsSome (find byte_cmp k es) → IsSome (cond b (Some e.1) (find byte_cmp k es))
  later true k some = refl
  later false k some = some

pub all_there : (objects : Option Objects) (digest : List ℕ) (links : Links) (es : Entries) → map_of es ≡ links → StandsWhereTold objects digest links
    → IfSome objects (λ told. AllByRecursion (λ e. IsSome (object_at told digest e.0)) es)
all_there None digest links es is s = tt
all_there (Some told) digest links es is s =
    all_found (λ k. IsSome (object_at told digest k)) es (λ k some. s.there k (ap is_some (sym (ap (λ m. map.get m k) is) ∙ get-from_entries byte_order.total es k) ∙ some))

below_found : (low : List ℕ) (es : Entries) → AllByRecursion (λ y. byte_cmp low y ≡ Less) (each (λ e. e.0) es) → (k : List ℕ) (v : Option (List ℕ)) → find byte_cmp k es ≡ Some v → byte_cmp low k ≡ Less
below_found low [] all k v found = cc found
below_found low (e ∷ es) all k v found =
    elim (eq_by_cmp byte_cmp k e.0) as (λ b. eq_by_cmp byte_cmp k e.0 ≡ b → cond b (Some e.1) (find byte_cmp k es) ≡ Some v → byte_cmp low k ≡ Less) [
      | true ↦ λ is hit. subst (λ y. byte_cmp low y ≡ Less) (sym (tied_keys byte_order k e.0 is)) all.0
      | false ↦ λ _ hit. below_found low es all.1 k v hit
    ] refl found

not_less_itself : (k : List ℕ) → byte_cmp k k ≢ Less
not_less_itself k less = true≢false (sym (same_key byte_order k) ∙ ap is_eq less)

not_less_back : (low k : List ℕ) → byte_cmp low k ≡ Less → byte_cmp k low ≢ Less
not_less_back low k less back =
    let greater : byte_cmp k low ≡ Greater = byte_order.total.antisymm k low ∙ ap ordering_reverse less in
    let clash : Greater ≡ Less = sym greater ∙ back in cc clash

module _ (object : List ℕ → Option (List ℕ)) (bytes : List ℕ) where
  abbrev Least : Entries → List ℕ → Type 0
  Least es origin = (find byte_cmp origin es ≡ Some None) × (object origin ≡ Some bytes)
      × ((other : List ℕ) → find byte_cmp other es ≡ Some None → object other ≡ Some bytes → byte_cmp other origin ≢ Less)

  first_least : (es : Entries) (origin : List ℕ) → IsStrictlySortedBy byte_cmp (each (λ e. e.0) es) → IsFirst object bytes es (Some origin) → Least es origin
  unfolding IsStrictlySortedBy
  first_least [] origin sorted h = cc h
  first_least (e ∷ es) origin sorted (inl (has, is)) =
      let same : e.0 ≡ origin = cc is in
      subst (λ o. Least (e ∷ es) o) same (
        ap (λ b. cond b (Some e.1) (find byte_cmp e.0 es)) (same_key byte_order e.0) ∙ ap Some has.0,
        has.1,
        λ other found _.
            elim (eq_by_cmp byte_cmp other e.0) as (λ b. eq_by_cmp byte_cmp other e.0 ≡ b → cond b (Some e.1) (find byte_cmp other es) ≡ Some None → byte_cmp other e.0 ≢ Less) [
              | true ↦ λ one _. subst (λ k. byte_cmp k e.0 ≢ Less) (sym (tied_keys byte_order other e.0 one)) (not_less_itself e.0)
              | false ↦ λ _ hit. not_less_back e.0 other (below_found e.0 es sorted.0 other None hit)
            ] refl found,
      )
  first_least (e ∷ es) origin sorted (inr (hasnt, rest)) =
      let further = first_least es origin sorted.1 rest in (
        ap (λ b. cond b (Some e.1) (find byte_cmp origin es)) (apart e.0 origin (below_found e.0 es sorted.0 origin None further.0)) ∙ further.0,
        further.1,
        λ other found has.
            elim (eq_by_cmp byte_cmp other e.0) as (λ b. eq_by_cmp byte_cmp other e.0 ≡ b → cond b (Some e.1) (find byte_cmp other es) ≡ Some None → byte_cmp other origin ≢ Less) [
              | true ↦ λ one hit.
                  let whole : e.1 ≡ None = cc hit in
                  absurd (hasnt (whole, ap object (sym (tied_keys byte_order other e.0 one)) ∙ has))
              | false ↦ λ _ hit. further.2 other hit has
            ] refl found,
      )

  first_none : (es : Entries) → IsFirst object bytes es None → (other : List ℕ) → find byte_cmp other es ≡ Some None → object other ≡ Some bytes → ⊥
  first_none [] h other found has = cc found
  first_none (e ∷ es) (inl (hers, is)) other found has = cc is
  first_none (e ∷ es) (inr (hasnt, rest)) other found has =
      elim (eq_by_cmp byte_cmp other e.0) as (λ b. eq_by_cmp byte_cmp other e.0 ≡ b → cond b (Some e.1) (find byte_cmp other es) ≡ Some None → ⊥) [
        | true ↦ λ one hit.
            let whole : e.1 ≡ None = cc hit in
            hasnt (whole, ap object (sym (tied_keys byte_order other e.0 one)) ∙ has)
        | false ↦ λ _ hit. first_none es rest other hit has
      ] refl found

-- ---- what is chosen

-- a text with bytes
pub some_bytes : (bytes : List ℕ) (empty : Bool) → empty ≡ (length bytes == 0) → empty ≡ false → bytes ≢ []
some_bytes bytes empty is has none = true≢false (sym (ap (λ (b : List ℕ). length b == 0) none) ∙ sym is ∙ has)

abbrev pub aim_of : Option (List ℕ) → Aim
aim_of None = Whole
aim_of (Some origin) = Link origin

module _ (objects : Objects) (dedupe : Bool) (digest : List ℕ) (links : Links) (name bytes : List ℕ) (es : Entries) (is : map_of es ≡ links) (sorted : IsStrictlySortedBy byte_cmp (each (λ e. e.0) es))
    (unheld : held objects digest name ≢ Some bytes) (sought : IsSought dedupe bytes) where
  entry : (k : List ℕ) → find byte_cmp k es ≡ map.get links k
  entry k = sym (get-from_entries byte_order.total es k) ∙ ap (λ (m : Links). map.get m k) is

  aimed : (found : Option (List ℕ)) → IsFirst (object_at objects digest) bytes es found → IsAim dedupe objects digest links name bytes (aim_of found)
  aimed None h = (unheld, λ _ origin has. first_none (object_at objects digest) bytes es h origin (entry origin ∙ has.0) has.1)
  aimed (Some origin) h =
      let least = first_least (object_at objects digest) bytes es origin sorted h in (
        unheld,
        sought,
        record {
          whole = (sym (entry origin) ∙ least.0, least.1);
          least = λ other has. least.2 other (entry other ∙ has.0) has.1;
        },
      )

pub chosen : (before mid : Option Objects) (dedupe : Bool) (digest : List ℕ) (links : Links) (name bytes : List ℕ) (es : Entries) (same : Bool) (found : Option (List ℕ)) → map_of es ≡ links
    → IsStrictlySortedBy byte_cmp (each (λ e. e.0) es) → mid ≡ before → same ≡ false → IsSought dedupe bytes
    → IfSome before (λ told. IsTrue same ↔ (held told digest name ≡ Some bytes)) → IfSome mid (λ told. IsFirst (object_at told digest) bytes es found)
    → IfSome before (λ told. IsAim dedupe told digest links name bytes (aim_of found))
chosen None mid dedupe digest links name bytes es same found is sorted kept no_more sought h k = tt
chosen (Some told) mid dedupe digest links name bytes es same found is sorted kept no_more sought h k =
    aimed told dedupe digest links name bytes es is sorted (λ e. true≢false (sym (h.1 e) ∙ no_more)) sought found
    (subst (λ (o : Option Objects). IfSome o (λ t. IsFirst (object_at t digest) bytes es found)) kept k)

-- the repository came to hold them
pub attained : (objects : Option Objects) (dedupe : Bool) (digest : List ℕ) (links later : Links) (name bytes : List ℕ) (aim : Aim) → IfSome objects (λ told. IsAim dedupe told digest links name bytes aim)
    → Attains aim links name later → IfSome objects (λ told. IsAimed dedupe told digest links name bytes later)
attained None dedupe digest links later name bytes aim h k = tt
attained (Some told) dedupe digest links later name bytes aim h k = (aim, h, k)

pub set_by_aim : (before mid after : Option Objects) (dedupe : Bool) (digest : List ℕ) (links later : Links) (name bytes : List ℕ) (aim : Aim) → mid ≡ before
    → IfSome before (λ told. IsAim dedupe told digest links name bytes aim)
    → Told mid after (λ old new. (d : Bool) → IsAim d old digest links name bytes aim → Sets (d ≡ true) old digest links name (Some bytes) new later)
    → Told before after (λ old new. Sets (dedupe ≡ true) old digest links name (Some bytes) new later)
set_by_aim before mid after dedupe digest links later name bytes aim kept is h =
    told_with before after (λ old. IsAim dedupe old digest links name bytes aim)
    (λ old new. (d : Bool) → IsAim d old digest links name bytes aim → Sets (d ≡ true) old digest links name (Some bytes) new later)
    (λ old new. Sets (dedupe ≡ true) old digest links name (Some bytes) new later) (λ old new a f. f dedupe a) is
    (subst (λ (o : Option Objects). Told o after (λ old new. (d : Bool) → IsAim d old digest links name bytes aim → Sets (d ≡ true) old digest links name (Some bytes) new later)) kept h)
