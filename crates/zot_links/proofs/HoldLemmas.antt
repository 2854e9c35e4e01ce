-- A repository comes to hold bytes: what each order makes, one after another.
use Rattle.std.proofs.Common.{◌≡◌, ◌≢◌, ℕ, inl, inr, List, Option, Some, None, is_some, IfSome, refl, sym, ap, subst, ◌∙◌}
use Rattle.std.specs.Prelude.{Result, Ok, Err, OnErr}
use Rattle.std.specs.FinMap as map
use Rattle.zot_names.specs.Name.{IsName}
use Rattle.zot_outside.specs.Objects.{Objects, Told}
use Rattle.zot_links.proofs.OrderLemmas.{copied, kept_self, kept_then, promoted, with_beside, with_here, with_one}
use Rattle.zot_links.proofs.PathLemmas.{keeps_further}
use Rattle.zot_links.proofs.PromotionLemmas.{at_name, was_whole, whole_rest}
use Rattle.zot_links.proofs.StandLemmas.{decide, link_free, link_held, own_stands, whole_held_beside, whole_held_here, whole_no_link}
use Rattle.zot_links.proofs.TightLemmas.{fresh_same, tight_but_one}
use Rattle.zot_links.proofs.ToldLemmas.{told_so, told_then}
use Rattle.zot_links.proofs.WriteLemmas.{its_bytes}
use Rattle.zot_links.specs.Changes.{Keeps, RecordsLinks, Sets, SetsObject, with_held}
use Rattle.zot_links.specs.Holding.{GetsBytes, IsLinked, MayChange, Prepares, Spares, form_of}
use Rattle.zot_links.specs.Meaning.{IsFree, IsFresh, IsLink, IsWhole, Links, Stands, held, object_at}
use Rattle.zot_links.specs.Orders.{Begins, MayRelink, bytes_by, fresh_whole}
use Rattle.zot_links.specs.Promotion.{promote}
use Rattle.zot_links.specs.declared.form.Form.TheVariants.{Absent, Whole, Link}

-- ---- forms

pub absent_from : (holder : Option (Option (List ℕ))) → form_of holder ≡ Absent → holder ≡ None
absent_from None h = refl
absent_from (Some None) h = cc h
absent_from (Some (Some origin)) h = cc h

pub whole_from : (holder : Option (Option (List ℕ))) → form_of holder ≡ Whole → holder ≡ Some None
whole_from None h = cc h
whole_from (Some None) h = refl
whole_from (Some (Some origin)) h = cc h

pub link_from : (links : Links) (name : List ℕ) (holder : Option (Option (List ℕ))) → map.get links name ≡ holder → form_of holder ≡ Link → IsLinked links name
link_from links name None is h = cc h
link_from links name (Some None) is h = cc h
link_from links name (Some (Some origin)) is h = (origin, is)

-- ---- one after another

pub kept_sets : (fresh between : Type 0) (old mid new : Objects) (digest : List ℕ) (links middle later : Links) (name : List ℕ) (bytes : Option (List ℕ)) → (fresh → between)
    → Keeps old digest links mid middle → Sets between mid digest middle name bytes new later → Sets fresh old digest links name bytes new later
kept_sets fresh between old mid new digest links middle later name bytes f first second = record {
  stands = second.stands;
  holds = λ other is. second.holds other is ∙ moved other is;
  elsewhere = keeps_further old mid new digest first.elsewhere second.elsewhere;
  tight = λ g t. second.tight (f g) (first.tight tt t);
} where
  moved : (other : List ℕ) → IsName other → with_held (held mid digest) name bytes other ≡ with_held (held old digest) name bytes other
  moved other is = elim (decide other name) [
    | inl same ↦ with_here (held mid digest) name bytes other same ∙ sym (with_here (held old digest) name bytes other same)
    | inr apart ↦ with_beside (held mid digest) name bytes other apart ∙ first.holds other is ∙ sym (with_beside (held old digest) name bytes other apart)
  ]

-- ---- the object of a link, which nobody reads

pub blanked : (old new : Objects) (digest : List ℕ) (links : Links) (name origin bytes : List ℕ) → Stands old digest links → IsLink links name origin → SetsObject old digest name (Some bytes) new
    → Keeps old digest links new links
blanked old new digest links name origin bytes s link sets = record {
  stands = own_stands old new digest name bytes links s sets (ap is_some link);
  holds = link_held old new digest name bytes links s sets origin link;
  elsewhere = sets.elsewhere;
  tight = λ _ t. tight_but_one old new digest links links name (λ other apart is. (is, sets.beside other apart)) (λ is _ _. absurd (whole_no_link links name origin is link)) t;
}

fresh_beside : (old new : Objects) (digest : List ℕ) (links : Links) (name origin bytes wanted : List ℕ) → IsLink links name origin → SetsObject old digest name (Some bytes) new
    → IsFresh old digest links wanted → IsFresh new digest links wanted
fresh_beside old new digest links name origin bytes wanted link sets fresh some other whole has =
    fresh some other whole (sym (sets.beside other (λ same. whole_no_link links name origin (subst (IsWhole links) same whole) link)) ∙ has)

-- a link becomes whole
pub became_whole : (old mid new : Objects) (digest : List ℕ) (links later : Links) (name bytes : List ℕ) → Stands old digest links → IsLinked links name → SetsObject old digest name (Some bytes) mid
    → ((wanted : List ℕ) → Stands mid digest links → MayRelink links name None → Begins mid digest name None wanted → Sets (fresh_whole None mid digest links wanted) mid digest links name (Some wanted) new later)
    → Sets (IsFresh old digest links bytes) old digest links name (Some bytes) new later
became_whole old mid new digest links later name bytes s linked sets relinks =
    let kept = blanked old mid digest links name linked.0 bytes s linked.1 sets in
    let may : MayRelink links name None = record { holder = ap is_some linked.1; free = link_free old digest links name linked.0 s linked.1; whole = tt; other = tt } in
    kept_sets (IsFresh old digest links bytes) (IsFresh mid digest links bytes) old mid new digest links links later name (Some bytes)
    (fresh_beside old mid digest links name linked.0 bytes bytes linked.1 sets) kept (relinks bytes kept.stands may sets.here)

-- a whole holder that no link needs gets other bytes
pub replaced : (old new : Objects) (digest : List ℕ) (links : Links) (name bytes : List ℕ) → Stands old digest links → IsWhole links name → IsFree links name → SetsObject old digest name (Some bytes) new
    → Sets (IsFresh old digest links bytes) old digest links name (Some bytes) new links
replaced old new digest links name bytes s whole free sets = record {
  stands = own_stands old new digest name bytes links s sets (ap is_some whole);
  holds = with_one (held old digest) (held new digest) name (Some bytes) (λ is. whole_held_here old new digest name bytes links s sets whole is)
      (λ other is apart. whole_held_beside old new digest name bytes links s sets whole free other is apart);
  elsewhere = sets.elsewhere;
  tight = λ fresh t. tight_but_one old new digest links links name (λ other apart is. (is, sets.beside other apart))
      (λ _ other has. fresh_same old digest links bytes other fresh (sym sets.here ∙ has)) t;
}

-- ---- preparing

pub spares_self : (objects : Objects) (digest : List ℕ) (links : Links) (name : List ℕ) → Spares objects digest links name objects links
spares_self objects digest links name = record { whole = λ other is _. (is, refl); fresh = λ _ f. f }

pub prepared_self : (objects : Objects) (digest : List ℕ) (links : Links) (name : List ℕ) → Stands objects digest links → MayChange links name → Prepares objects digest links name objects links
prepared_self objects digest links name s free = record { kept = kept_self objects digest links s; spares = spares_self objects digest links name; free = free }

-- a promotion
pub promoted_spares : (old mid new : Objects) (digest : List ℕ) (links later : Links) (name least : List ℕ) → Stands old digest links → IsWhole links name → IsLink links least name
    → ((other : List ℕ) → map.get later other ≡ promote name least other (map.get links other)) → SetsObject old digest least (object_at old digest name) mid → RecordsLinks mid digest later new
    → Prepares old digest links name new later
promoted_spares old mid new digest links later name least s whole link is sets h =
    let has = its_bytes (object_at old digest name) (s.there name (ap is_some whole)) in
    let set : SetsObject old digest least (Some has.0) mid = subst (λ o. SetsObject old digest least o mid) has.1 sets in
    let between = (copied old mid digest links name least has.0 s whole link has.1 set).stands in
    let same : object_at mid digest least ≡ object_at mid digest name =
    sets.here ∙ sym (sets.beside name (λ e. whole_no_link links least name (subst (IsWhole links) e whole) link)) in
    let apart : (other : List ℕ) → IsWhole links other → other ≢ least = λ other is_whole e. whole_no_link links least name (subst (IsWhole links) e is_whole) link in
    record {
      kept = promoted old mid digest links name least has.0 s whole link has.1 set new later is h;
      spares = record {
        whole = λ other is_whole second. (
          whole_rest mid new digest h.0 links later between h.2 name least whole link same h.1 is other is_whole second,
          h.2.objects other ∙ sets.beside other (apart other is_whole),
        );
        fresh = λ bytes f some other is_whole found. elim (was_whole mid new digest h.0 links later between h.2 name least whole link same h.1 is other is_whole) [
          | inl e ↦ f some name whole (sym sets.here ∙ sym (ap (object_at mid digest) e) ∙ sym (h.2.objects other) ∙ found)
          | inr was ↦ f some other was.0 (sym (h.2.objects other ∙ sets.beside other (apart other was.0)) ∙ found)
        ];
      };
      free = λ is_whole. absurd (whole_no_link later name least is_whole (at_name mid new digest h.0 links later between h.2 name least whole link same h.1 is));
    }

-- ---- over stores that tell their objects

pub err_so : {T E : Type 0} (r : Result T E) (P Q : Type 0) → (P → Q) → OnErr r P → OnErr r Q
err_so (Ok x) P Q f h = h
err_so (Err e) P Q f h = f h

pub promote_prepares : (before mid after : Option Objects) (digest : List ℕ) (links later : Links) (name least : List ℕ)
    → ((other : List ℕ) → map.get later other ≡ promote name least other (map.get links other))
    → Told before mid (λ old new. SetsObject old digest least (object_at old digest name) new) → Told mid after (λ old new. RecordsLinks old digest later new)
    → Told before after (λ old new. Stands old digest links → IsWhole links name → IsLink links least name → Prepares old digest links name new later)
promote_prepares before mid after digest links later name least is h k =
    told_then before mid after (λ old new. SetsObject old digest least (object_at old digest name) new) (λ old new. RecordsLinks old digest later new)
    (λ old new. Stands old digest links → IsWhole links name → IsLink links least name → Prepares old digest links name new later)
    (λ old x new sets r s whole link. promoted_spares old x new digest links later name least s whole link is sets r) h k

-- with the link that was found
pub with_link : (before after : Option Objects) (Q : Objects → Objects → Type 0) (digest : List ℕ) (links : Links) (name least : List ℕ) → IsLink links least name
    → Told before after (λ old new. Stands old digest links → IsWhole links name → IsLink links least name → Q old new) → Told before after (λ old new. Stands old digest links → IsWhole links name → Q old new)
with_link before after Q digest links name least link h =
    told_so before after (λ old new. Stands old digest links → IsWhole links name → IsLink links least name → Q old new) (λ old new. Stands old digest links → IsWhole links name → Q old new)
    (λ old new f s whole. f s whole link) h

pub with_whole : (before after : Option Objects) (Q : Objects → Objects → Type 0) (digest : List ℕ) (links : Links) (name : List ℕ) → IsWhole links name
    → Told before after (λ old new. Stands old digest links → IsWhole links name → Q old new) → Told before after (λ old new. Stands old digest links → Q old new)
with_whole before after Q digest links name whole h =
    told_so before after (λ old new. Stands old digest links → IsWhole links name → Q old new) (λ old new. Stands old digest links → Q old new) (λ old new f s. f s whole) h

pub with_absent : (before after : Option Objects) (Q : Objects → Objects → Type 0) (digest : List ℕ) (links : Links) (name : List ℕ) → map.get links name ≡ None
    → Told before after (λ old new. Stands old digest links → map.get links name ≡ None → Q old new) → Told before after (λ old new. Stands old digest links → Q old new)
with_absent before after Q digest links name absent h =
    told_so before after (λ old new. Stands old digest links → map.get links name ≡ None → Q old new) (λ old new. Stands old digest links → Q old new) (λ old new f s. f s absent) h

-- a fact of the same objects, where they stand
pub still : (before : Option Objects) (digest : List ℕ) (links : Links) (Q : Objects → Objects → Type 0) → ((objects : Objects) → Stands objects digest links → Q objects objects)
    → Told before before (λ old new. Stands old digest links → Q old new)
still None digest links Q f = refl
still (Some old) digest links Q f = f old

pub prepared_still : (before : Option Objects) (digest : List ℕ) (links : Links) (name : List ℕ) → MayChange links name → Told before before (λ old new. Stands old digest links → Prepares old digest links name new links)
prepared_still before digest links name free = still before digest links (λ old new. Prepares old digest links name new links) (λ old s. prepared_self old digest links name s free)

pub prepared_where : (before : Option Objects) (digest : List ℕ) (links : Links) (name : List ℕ) → IsFree links name
    → Told before before (λ old new. Stands old digest links → IsWhole links name → Prepares old digest links name new links)
prepared_where before digest links name free =
    still before digest links (λ old new. IsWhole links name → Prepares old digest links name new links) (λ old s _. prepared_self old digest links name s (λ _. free))

pub no_whole : (links : Links) (name : List ℕ) → map.get links name ≡ None → MayChange links name
no_whole links name absent whole = let clash : None ≡ Some None = sym absent ∙ whole in cc clash

pub linked_no_whole : (links : Links) (name : List ℕ) → IsLinked links name → MayChange links name
linked_no_whole links name linked whole = absurd (whole_no_link links name linked.0 whole linked.1)

-- ---- the repository gets an object of its own

pub bytes_added : (before after : Option Objects) (digest : List ℕ) (links later : Links) (name bytes : List ℕ) → map.get links name ≡ None
    → Told before after (λ old new. Stands old digest links → map.get links name ≡ None → IfSome None (IsWhole links)
    → Sets (fresh_whole None old digest links bytes) old digest links name (bytes_by old digest None bytes) new later)
    → Told before after (GetsBytes digest links name bytes later)
bytes_added before after digest links later name bytes absent h =
    told_so before after (λ old new. Stands old digest links → map.get links name ≡ None → IfSome None (IsWhole links)
    → Sets (fresh_whole None old digest links bytes) old digest links name (bytes_by old digest None bytes) new later) (GetsBytes digest links name bytes later)
    (λ old new f s _. f s absent tt) h

pub became_whole_done : (before mid after : Option Objects) (digest : List ℕ) (links later : Links) (name bytes : List ℕ)
    → Told before mid (λ old new. SetsObject old digest name (Some bytes) new)
    → Told mid after (λ old new. (wanted : List ℕ) → Stands old digest links → MayRelink links name None → Begins old digest name None wanted
    → Sets (fresh_whole None old digest links wanted) old digest links name (Some wanted) new later)
    → Told before after (λ old new. Stands old digest links → IsLinked links name → Sets (IsFresh old digest links bytes) old digest links name (Some bytes) new later)
became_whole_done before mid after digest links later name bytes h k =
    told_then before mid after (λ old new. SetsObject old digest name (Some bytes) new)
    (λ old new. (wanted : List ℕ) → Stands old digest links → MayRelink links name None → Begins old digest name None wanted
    → Sets (fresh_whole None old digest links wanted) old digest links name (Some wanted) new later)
    (λ old new. Stands old digest links → IsLinked links name → Sets (IsFresh old digest links bytes) old digest links name (Some bytes) new later)
    (λ old x new sets relinks s linked. became_whole old x new digest links later name bytes s linked sets relinks) h k

-- the object is set, and the record isn't yet
pub became_whole_left : (before mid after : Option Objects) (digest : List ℕ) (links later : Links) (name bytes : List ℕ) → Told before mid (λ old new. SetsObject old digest name (Some bytes) new)
    → Told mid after (λ old new. Stands old digest links → Keeps old digest links new later) → Told before after (λ old new. Stands old digest links → IsLinked links name → Keeps old digest links new later)
became_whole_left before mid after digest links later name bytes h k =
    told_then before mid after (λ old new. SetsObject old digest name (Some bytes) new) (λ old new. Stands old digest links → Keeps old digest links new later)
    (λ old new. Stands old digest links → IsLinked links name → Keeps old digest links new later)
    (λ old x new sets f s linked.
    let kept = blanked old x digest links name linked.0 bytes s linked.1 sets in
    kept_then old x new digest links links later kept (f kept.stands)) h k

pub with_linked : (before after : Option Objects) (Q : Objects → Objects → Type 0) (digest : List ℕ) (links : Links) (name : List ℕ) → IsLinked links name
    → Told before after (λ old new. Stands old digest links → IsLinked links name → Q old new) → Told before after (λ old new. Stands old digest links → Q old new)
with_linked before after Q digest links name linked h =
    told_so before after (λ old new. Stands old digest links → IsLinked links name → Q old new) (λ old new. Stands old digest links → Q old new) (λ old new f s. f s linked) h

pub bytes_of_link : (before after : Option Objects) (digest : List ℕ) (links later : Links) (name bytes : List ℕ) → IsLinked links name
    → Told before after (λ old new. Stands old digest links → IsLinked links name → Sets (IsFresh old digest links bytes) old digest links name (Some bytes) new later)
    → Told before after (GetsBytes digest links name bytes later)
bytes_of_link before after digest links later name bytes linked h =
    told_so before after (λ old new. Stands old digest links → IsLinked links name → Sets (IsFresh old digest links bytes) old digest links name (Some bytes) new later)
    (GetsBytes digest links name bytes later) (λ old new f s _. f s linked) h

pub bytes_replaced : (before after : Option Objects) (digest : List ℕ) (links : Links) (name bytes : List ℕ) → IsWhole links name → Told before after (λ old new. SetsObject old digest name (Some bytes) new)
    → Told before after (GetsBytes digest links name bytes links)
bytes_replaced before after digest links name bytes whole h =
    told_so before after (λ old new. SetsObject old digest name (Some bytes) new) (GetsBytes digest links name bytes links)
    (λ old new sets s free. replaced old new digest links name bytes s whole (free whole) sets) h

-- after it was prepared
pub prepared_bytes : (before mid after : Option Objects) (digest : List ℕ) (links middle later : Links) (name bytes : List ℕ) → Told before mid (λ old new. Stands old digest links → Prepares old digest links name new middle)
    → Told mid after (GetsBytes digest middle name bytes later)
    → Told before after (λ old new. Stands old digest links → Sets (IsFresh old digest links bytes) old digest links name (Some bytes) new later)
prepared_bytes before mid after digest links middle later name bytes h k =
    told_then before mid after (λ old new. Stands old digest links → Prepares old digest links name new middle) (GetsBytes digest middle name bytes later)
    (λ old new. Stands old digest links → Sets (IsFresh old digest links bytes) old digest links name (Some bytes) new later)
    (λ old x new f g s.
    let first = f s in
    kept_sets (IsFresh old digest links bytes) (IsFresh x digest middle bytes) old x new digest links middle later name (Some bytes) (first.spares.fresh bytes) first.kept (g first.kept.stands first.free)) h k

pub prepared_left : (before mid after : Option Objects) (digest : List ℕ) (links middle later : Links) (name : List ℕ) → Told before mid (λ old new. Stands old digest links → Prepares old digest links name new middle)
    → Told mid after (λ old new. Stands old digest middle → Keeps old digest middle new later) → Told before after (λ old new. Stands old digest links → Keeps old digest links new later)
prepared_left before mid after digest links middle later name h k =
    told_then before mid after (λ old new. Stands old digest links → Prepares old digest links name new middle) (λ old new. Stands old digest middle → Keeps old digest middle new later)
    (λ old new. Stands old digest links → Keeps old digest links new later)
    (λ old x new f g s. let first = f s in kept_then old x new digest links middle later first.kept (g first.kept.stands)) h k
