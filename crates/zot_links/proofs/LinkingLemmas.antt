-- A repository gets a link to another: what each order makes, one after another.
use Rattle.std.proofs.Common.{◌≡◌, ℕ, List, Option, Some, None, is_some, IfSome, sym, ap, subst, ◌∙◌}
use Rattle.std.specs.Prelude.{Result, Ok, Err, ⊤}
use Rattle.std.specs.FinMap as map
use Rattle.zot_maps.proofs.Maps.{byte_order, get_here}
use Rattle.zot_outside.specs.Faults.{HasStoreCause, UnlessFailed}
use Rattle.zot_outside.specs.Objects.{Objects, Told}
use Rattle.zot_outside.specs.declared.stores.store_error.StoreError.{StoreError}
use Rattle.zot_outside.specs.declared.stores.store_error.StoreError.TheVariants.{Missing, Failed, NoMemory}
use Rattle.zot_links.proofs.HoldLemmas.{blanked, kept_sets}
use Rattle.zot_links.proofs.OrderLemmas.{kept_self, turns_then}
use Rattle.zot_links.proofs.StandLemmas.{link_free}
use Rattle.zot_links.proofs.ToldLemmas.{told_keeps, told_so, told_then}
use Rattle.zot_links.specs.Changes.{HasCallsCause, Keeps, Sets, SetsObject, UnlessDone}
use Rattle.zot_links.specs.Holding.{GetsLink, HasOrigin, IsLinked, Prepares}
use Rattle.zot_links.specs.Meaning.{IsFree, IsLink, IsWhole, Links, Stands}
use Rattle.zot_links.specs.Orders.{Begins, MayRelink, bytes_by, fresh_whole}

-- ---- causes

quiet_so : {T : Type 0} (r : Result T StoreError) (P : Type 0) → UnlessFailed r P → UnlessDone r P
quiet_so (Ok x) P h = tt
quiet_so (Err Missing) P h = h
quiet_so (Err Failed) P h = tt
quiet_so (Err NoMemory) P h = h

-- the cause of one call is one of several
pub calls_of : {T : Type 0} (before after : ℕ) (r : Result T StoreError) → HasStoreCause before after r → HasCallsCause before after r
calls_of before after r h = record { later = h.later; failed = h.failed; quiet = quiet_so r (after ≡ before) h.kept }

-- ---- the orders

abbrev pub Relinks : List ℕ → Links → List ℕ → List ℕ → Links → Objects → Objects → Type 0
Relinks digest links name origin later old new =
    (bytes : List ℕ) → Stands old digest links → MayRelink links name (Some origin) → Begins old digest name (Some origin) bytes
    → Sets (fresh_whole (Some origin) old digest links bytes) old digest links name (Some bytes) new later

pub link_added : (before after : Option Objects) (digest : List ℕ) (links later : Links) (name origin bytes : List ℕ) → map.get links name ≡ None
    → Told before after (λ old new. Stands old digest links → map.get links name ≡ None → IfSome (Some origin) (IsWhole links)
    → Sets (fresh_whole (Some origin) old digest links bytes) old digest links name (bytes_by old digest (Some origin) bytes) new later)
    → Told before after (GetsLink digest links name origin later)
link_added before after digest links later name origin bytes absent h =
    told_so before after (λ old new. Stands old digest links → map.get links name ≡ None → IfSome (Some origin) (IsWhole links)
    → Sets (fresh_whole (Some origin) old digest links bytes) old digest links name (bytes_by old digest (Some origin) bytes) new later) (GetsLink digest links name origin later)
    (λ old new f wanted s _ from. subst (λ held. Sets ⊤ old digest links name held new later) from.has (f s absent from.whole)) h

pub link_moved : (before after : Option Objects) (digest : List ℕ) (links later : Links) (name origin : List ℕ) → IsLinked links name → Told before after (Relinks digest links name origin later)
    → Told before after (GetsLink digest links name origin later)
link_moved before after digest links later name origin linked h =
    told_so before after (Relinks digest links name origin later) (GetsLink digest links name origin later)
    (λ old new f wanted s _ from.
    f wanted s (record { holder = ap is_some linked.1; free = link_free old digest links name linked.0 s linked.1; whole = from.whole; other = from.other }) from.has) h

abbrev pub BecomesLink : List ℕ → Links → List ℕ → List ℕ → Links → Objects → Objects → Type 0
BecomesLink digest links name origin later old new =
    (bytes : List ℕ) → Stands old digest links → IsWhole links name → IsFree links name → HasOrigin old digest links name origin bytes → Sets ⊤ old digest links name (Some bytes) new later

pub became_link : (before mid after : Option Objects) (digest : List ℕ) (links later : Links) (name origin : List ℕ) → later ≡ map.insert links name (Some origin)
    → Told before mid (Relinks digest links name origin later)
    → Told mid after (λ old new. (ls : Links) → Stands old digest ls → IsLinked ls name → Keeps old digest ls new ls) → Told before after (BecomesLink digest links name origin later)
became_link before mid after digest links later name origin is h k =
    told_then before mid after (Relinks digest links name origin later) (λ old new. (ls : Links) → Stands old digest ls → IsLinked ls name → Keeps old digest ls new ls)
    (BecomesLink digest links name origin later)
    (λ old x new f g wanted s whole free from.
    let first = f wanted s (record { holder = ap is_some whole; free = free; whole = from.whole; other = from.other }) from.has in
    let linked : IsLink later name origin = ap (λ (m : Links). map.get m name) is ∙ get_here byte_order links name (Some origin) in
    turns_then ⊤ old x new digest links later later name (Some wanted) first (g later first.stands (origin, linked))) h k

pub link_of_whole : (before after : Option Objects) (digest : List ℕ) (links later : Links) (name origin : List ℕ) → IsWhole links name → Told before after (BecomesLink digest links name origin later)
    → Told before after (GetsLink digest links name origin later)
link_of_whole before after digest links later name origin whole h =
    told_so before after (BecomesLink digest links name origin later) (GetsLink digest links name origin later) (λ old new f wanted s free from. f wanted s whole (free whole) from) h

-- an object that nobody reads was set, or wasn't
pub emptied : (before after : Option Objects) (digest name bytes : List ℕ) → Told before after (λ old new. SetsObject old digest name (Some bytes) new)
    → Told before after (λ old new. (ls : Links) → Stands old digest ls → IsLinked ls name → Keeps old digest ls new ls)
emptied before after digest name bytes h =
    told_so before after (λ old new. SetsObject old digest name (Some bytes) new) (λ old new. (ls : Links) → Stands old digest ls → IsLinked ls name → Keeps old digest ls new ls)
    (λ old new sets ls s linked. blanked old new digest ls name linked.0 bytes s linked.1 sets) h

pub not_emptied : (before after : Option Objects) (digest name : List ℕ) → after ≡ before
    → Told before after (λ old new. (ls : Links) → Stands old digest ls → IsLinked ls name → Keeps old digest ls new ls)
not_emptied before after digest name kept =
    told_so before after (λ old new. new ≡ old) (λ old new. (ls : Links) → Stands old digest ls → IsLinked ls name → Keeps old digest ls new ls)
    (λ old new same ls s _. subst (λ n. Keeps old digest ls n ls) (sym same) (kept_self old digest ls s)) (told_keeps before after kept)

-- after it was prepared
pub prepared_link : (before mid after : Option Objects) (digest : List ℕ) (links middle later : Links) (name origin : List ℕ)
    → Told before mid (λ old new. Stands old digest links → Prepares old digest links name new middle) → Told mid after (GetsLink digest middle name origin later)
    → Told before after (λ old new. (bytes : List ℕ) → Stands old digest links → HasOrigin old digest links name origin bytes → Sets ⊤ old digest links name (Some bytes) new later)
prepared_link before mid after digest links middle later name origin h k =
    told_then before mid after (λ old new. Stands old digest links → Prepares old digest links name new middle) (GetsLink digest middle name origin later)
    (λ old new. (bytes : List ℕ) → Stands old digest links → HasOrigin old digest links name origin bytes → Sets ⊤ old digest links name (Some bytes) new later)
    (λ old x new f g wanted s from.
    let first = f s in
    let still = first.spares.whole origin from.whole from.other in
    kept_sets ⊤ ⊤ old x new digest links middle later name (Some wanted) (λ t. t) first.kept
    (g wanted first.kept.stands first.free (record { whole = still.0; has = still.1 ∙ from.has; other = from.other }))) h k
