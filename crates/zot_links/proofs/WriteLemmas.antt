-- The orders of writes over a store that tells its objects, call by call.
use Rattle.std.proofs.Common.{◌≡◌, ℕ, List, Option, Some, None, is_some, IsSome, IfSome, refl, sym, ap, subst, ◌∙◌}
use Rattle.std.specs.Prelude.{Result, Ok, Err, OnErr, ⊤}
use Rattle.std.specs.FinMap as map
use Rattle.std.proofs.lemmas.Bool.{true≢false}
use Rattle.zot_maps.proofs.Maps.{byte_order, get_here}
use Rattle.zot_outside.specs.Objects.{Objects, Told}
use Rattle.zot_links.proofs.OrderLemmas.{added, copied, kept_self, line_kept, promoted, relinked, removed, tidied, turns_then}
use Rattle.zot_links.proofs.ToldLemmas.{told_keeps, told_so, told_then}
use Rattle.zot_links.specs.Changes.{Keeps, RecordsLinks, Sets, SetsObject}
use Rattle.zot_links.specs.Meaning.{IsFree, IsLink, IsWhole, Links, Stands, object_at}
use Rattle.zot_links.specs.Orders.{Begins, MayRelink, bytes_by, fresh_whole}
use Rattle.zot_links.specs.Promotion.{promote}

-- no object changed
pub kept_still : (before after : Option Objects) (digest : List ℕ) (links : Links) → after ≡ before → Told before after (λ old new. Stands old digest links → Keeps old digest links new links)
kept_still before after digest links kept =
    told_so before after (λ old new. new ≡ old) (λ old new. Stands old digest links → Keeps old digest links new links)
    (λ old new same s. subst (λ n. Keeps old digest links n links) (sym same) (kept_self old digest links s)) (told_keeps before after kept)

pub on_err : {T E : Type 0} {P : Type 0} (r : Result T E) → P → OnErr r P
on_err (Ok x) h = tt
on_err (Err e) h = h

pub kept_if : (before after : Option Objects) (digest : List ℕ) (links : Links) (P : Type 0) → after ≡ before → Told before after (λ old new. Stands old digest links → P → Keeps old digest links new links)
kept_if before after digest links P kept =
    told_so before after (λ old new. Stands old digest links → Keeps old digest links new links) (λ old new. Stands old digest links → P → Keeps old digest links new links)
    (λ old new f s _. f s) (kept_still before after digest links kept)

pub kept_where : (before after : Option Objects) (digest : List ℕ) (links : Links) (P Q : Type 0) → after ≡ before → Told before after (λ old new. Stands old digest links → P → Q → Keeps old digest links new links)
kept_where before after digest links P Q kept =
    told_so before after (λ old new. Stands old digest links → Keeps old digest links new links) (λ old new. Stands old digest links → P → Q → Keeps old digest links new links)
    (λ old new f s _ _. f s) (kept_still before after digest links kept)

-- the line of a new holder is there, and its object isn't yet
pub line_left : (before mid after : Option Objects) (digest : List ℕ) (links wanted : Links) (name : List ℕ) (origin : Option (List ℕ)) → wanted ≡ map.insert links name origin
    → Told before mid (λ old new. RecordsLinks old digest wanted new) → after ≡ mid → Told before after (λ old new. Stands old digest links → map.get links name ≡ None → Keeps old digest links new links)
line_left before mid after digest links wanted name origin is h kept =
    subst (λ o. Told before o (λ old new. Stands old digest links → map.get links name ≡ None → Keeps old digest links new links)) (sym kept)
    (told_so before mid (λ old new. RecordsLinks old digest wanted new) (λ old new. Stands old digest links → map.get links name ≡ None → Keeps old digest links new links)
    (λ old new r s absent. line_kept old new digest links name origin s absent (subst (λ w. RecordsLinks old digest w new) is r)) h)

pub add_done : (before mid after : Option Objects) (digest : List ℕ) (links wanted : Links) (name bytes : List ℕ) (origin : Option (List ℕ)) → wanted ≡ map.insert links name origin
    → Told before mid (λ old new. RecordsLinks old digest wanted new) → Told mid after (λ old new. SetsObject old digest name (Some bytes) new)
    → Told before after (λ old new. Stands old digest links → map.get links name ≡ None → IfSome origin (IsWhole links)
    → Sets (fresh_whole origin old digest links bytes) old digest links name (bytes_by old digest origin bytes) new wanted)
add_done before mid after digest links wanted name bytes origin is h k =
    told_then before mid after (λ old new. RecordsLinks old digest wanted new) (λ old new. SetsObject old digest name (Some bytes) new)
    (λ old new. Stands old digest links → map.get links name ≡ None → IfSome origin (IsWhole links) → Sets (fresh_whole origin old digest links bytes) old digest links name (bytes_by old digest origin bytes) new wanted)
    (λ old x new r sets s absent from.
    subst (λ w. Sets (fresh_whole origin old digest links bytes) old digest links name (bytes_by old digest origin bytes) new w) (sym is)
    (added old x new digest links name bytes s absent origin from (subst (λ w. RecordsLinks old digest w x) is r) sets)) h k

pub relink_done : (before after : Option Objects) (digest : List ℕ) (links wanted : Links) (name : List ℕ) (origin : Option (List ℕ)) → wanted ≡ map.insert links name origin
    → Told before after (λ old new. RecordsLinks old digest wanted new)
    → Told before after (λ old new. (bytes : List ℕ) → Stands old digest links → MayRelink links name origin → Begins old digest name origin bytes
    → Sets (fresh_whole origin old digest links bytes) old digest links name (Some bytes) new wanted)
relink_done before after digest links wanted name origin is h =
    told_so before after (λ old new. RecordsLinks old digest wanted new)
    (λ old new. (bytes : List ℕ) → Stands old digest links → MayRelink links name origin → Begins old digest name origin bytes
    → Sets (fresh_whole origin old digest links bytes) old digest links name (Some bytes) new wanted)
    (λ old new r bytes s may begins.
    subst (λ w. Sets (fresh_whole origin old digest links bytes) old digest links name (Some bytes) new w) (sym is)
    (relinked old new digest links name bytes s origin may begins (subst (λ w. RecordsLinks old digest w new) is r))) h

-- a holder's entry after it was set
pub set_here : (links later : Links) (name : List ℕ) (origin : Option (List ℕ)) → later ≡ map.insert links name origin → map.get later name ≡ Some origin
set_here links later name origin is = ap (λ (m : Links). map.get m name) is ∙ get_here byte_order links name origin

-- the object of a whole holder has bytes
pub its_bytes : (object : Option (List ℕ)) → IsSome object → (bytes : List ℕ) × (object ≡ Some bytes)
its_bytes None some = absurd (true≢false (sym some))
its_bytes (Some bytes) some = (bytes, refl)

pub promote_copied : (before mid after : Option Objects) (digest : List ℕ) (links : Links) (name least : List ℕ)
    → Told before mid (λ old new. SetsObject old digest least (object_at old digest name) new) → after ≡ mid → Told before after (λ old new. Stands old digest links → IsWhole links name → IsLink links least name → Keeps old digest links new links)
promote_copied before mid after digest links name least h kept =
    subst (λ o. Told before o (λ old new. Stands old digest links → IsWhole links name → IsLink links least name → Keeps old digest links new links)) (sym kept)
    (told_so before mid (λ old new. SetsObject old digest least (object_at old digest name) new) (λ old new. Stands old digest links → IsWhole links name → IsLink links least name → Keeps old digest links new links)
    (λ old new sets s whole link.
    let has = its_bytes (object_at old digest name) (s.there name (ap is_some whole)) in
    copied old new digest links name least has.0 s whole link has.1 (subst (λ o. SetsObject old digest least o new) has.1 sets)) h)

pub promote_done : (before mid after : Option Objects) (digest : List ℕ) (links later : Links) (name least : List ℕ)
    → ((other : List ℕ) → map.get later other ≡ promote name least other (map.get links other))
    → Told before mid (λ old new. SetsObject old digest least (object_at old digest name) new) → Told mid after (λ old new. RecordsLinks old digest later new)
    → Told before after (λ old new. Stands old digest links → IsWhole links name → IsLink links least name → Keeps old digest links new later)
promote_done before mid after digest links later name least is h k =
    told_then before mid after (λ old new. SetsObject old digest least (object_at old digest name) new) (λ old new. RecordsLinks old digest later new)
    (λ old new. Stands old digest links → IsWhole links name → IsLink links least name → Keeps old digest links new later)
    (λ old x new sets r s whole link.
    let has = its_bytes (object_at old digest name) (s.there name (ap is_some whole)) in
    promoted old x digest links name least has.0 s whole link has.1 (subst (λ o. SetsObject old digest least o x) has.1 sets) new later is r) h k

pub remove_done : (before mid after : Option Objects) (digest : List ℕ) (links left : Links) (name : List ℕ) → left ≡ map.remove links name
    → Told before mid (λ old new. SetsObject old digest name None new) → Told mid after (λ old new. Stands old digest left → Keeps old digest left new left)
    → Told before after (λ old new. Stands old digest links → IsFree links name → Sets ⊤ old digest links name None new left)
remove_done before mid after digest links left name is h k =
    told_then before mid after (λ old new. SetsObject old digest name None new) (λ old new. Stands old digest left → Keeps old digest left new left)
    (λ old new. Stands old digest links → IsFree links name → Sets ⊤ old digest links name None new left)
    (λ old x new sets kept s free.
    let gone = subst (λ w. Sets ⊤ old digest links name None x w) (sym is) (removed old x digest links name s free sets) in
    turns_then ⊤ old x new digest links left left name None gone (kept gone.stands)) h k

pub tidy_done : (before after : Option Objects) (digest : List ℕ) (links : Links) → Told before after (λ old new. RecordsLinks old digest links new)
    → Told before after (λ old new. Stands old digest links → Keeps old digest links new links)
tidy_done before after digest links h =
    told_so before after (λ old new. RecordsLinks old digest links new) (λ old new. Stands old digest links → Keeps old digest links new links)
    (λ old new r s. tidied old new digest links s r) h
