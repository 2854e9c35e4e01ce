-- A repository gives up what it holds.
use Rattle.std.proofs.Common.{◌≡◌, ℕ, Bool, true, false, List, Option, Some, None, is_some, refl, sym, ap, ◌∙◌}
use Rattle.std.specs.Prelude.{Result, Ok, Err, IfOk, OnOk, ⊤}
use Rattle.std.specs.FinMap as map
use Rattle.std.proofs.lemmas.Bool.{true≢false}
use Rattle.zot_names.specs.Name.{IsName}
use Rattle.zot_outside.specs.Objects.{Objects, Told}
use Rattle.zot_links.proofs.HoldLemmas.{kept_sets, still}
use Rattle.zot_links.proofs.OrderLemmas.{with_one}
use Rattle.zot_links.proofs.StandLemmas.{held_is, link_free, link_holds, whole_holds}
use Rattle.zot_links.proofs.ToldLemmas.{told_so, told_then}
use Rattle.zot_links.specs.Changes.{Sets}
use Rattle.zot_links.specs.Holding.{IsLinked, MayChange, Prepares, Releases}
use Rattle.zot_links.specs.Meaning.{IsFree, IsWhole, Links, Stands, held, held_by, object_at, origin_of}

-- what is no holder holds nothing
pub absent_held : (objects : Objects) (digest : List ℕ) (links : Links) (name : List ℕ) → Stands objects digest links → IsName name → map.get links name ≡ None → held objects digest name ≡ None
absent_held objects digest links name s is absent =
    held_is objects digest links s name is
    ∙ elim (object_at objects digest name) as (λ o. object_at objects digest name ≡ o → held_by (object_at objects digest) o (origin_of (map.get links name)) ≡ None) [
      | None ↦ λ _. refl
      | Some bytes ↦ λ has. absurd (true≢false (sym (s.known name is (ap is_some has)) ∙ ap is_some absent))
    ] refl

whole_held : (objects : Objects) (digest : List ℕ) (links : Links) (name : List ℕ) → Stands objects digest links → IsName name → IsWhole links name → is_some (held objects digest name) ≡ true
whole_held objects digest links name s is whole =
    ap is_some (held_is objects digest links s name is ∙ whole_holds objects digest links name whole) ∙ s.there name (ap is_some whole)

linked_held : (objects : Objects) (digest : List ℕ) (links : Links) (name : List ℕ) → Stands objects digest links → IsName name → IsLinked links name → is_some (held objects digest name) ≡ true
linked_held objects digest links name s is linked =
    ap is_some (held_is objects digest links s name is ∙ link_holds objects digest links name linked.0 (s.there name (ap is_some linked.1)) linked.1)
    ∙ s.there linked.0 (ap is_some (s.whole name linked.0 linked.1))

-- nothing was held, and nothing changes
nothing_held : (objects : Objects) (digest : List ℕ) (links : Links) (name : List ℕ) → Stands objects digest links → IsName name → map.get links name ≡ None → Releases false objects digest links name objects links
nothing_held objects digest links name s is absent =
    let none = absent_held objects digest links name s is absent in
    record {
      was = sym (ap is_some none);
      sets = record {
        stands = s;
        holds = with_one (held objects digest) (held objects digest) name None (λ _. none) (λ _ _ _. refl);
        elsewhere = λ _ _ _. (λ _. refl, refl);
        tight = λ _ t. t;
      };
    }

pub release_none : (before : Option Objects) (digest : List ℕ) (links : Links) (name : List ℕ) → IsName name → map.get links name ≡ None
    → Told before before (λ old new. Stands old digest links → MayChange links name → Releases false old digest links name new links)
release_none before digest links name is absent =
    still before digest links (λ old new. MayChange links name → Releases false old digest links name new links) (λ old s _. nothing_held old digest links name s is absent)

pub both_ok : {T E : Type 0} (r : Result T E) (P R : T → Type 0) (Q : Type 0) → ((x : T) → P x → Q → R x) → IfOk r P → OnOk r Q → IfOk r R
both_ok (Ok x) P R Q f h k = f x h k
both_ok (Err e) P R Q f h k = h

pub release_whole : (before after : Option Objects) (digest : List ℕ) (links later : Links) (name : List ℕ) (was : Bool) → IsName name → IsWhole links name → was ≡ true
    → Told before after (λ old new. Stands old digest links → IsFree links name → Sets ⊤ old digest links name None new later)
    → Told before after (λ old new. Stands old digest links → MayChange links name → Releases was old digest links name new later)
release_whole before after digest links later name was is whole answer h =
    told_so before after (λ old new. Stands old digest links → IsFree links name → Sets ⊤ old digest links name None new later)
    (λ old new. Stands old digest links → MayChange links name → Releases was old digest links name new later)
    (λ old new f s free. record { was = answer ∙ sym (whole_held old digest links name s is whole); sets = f s (free whole) }) h

pub release_link : (before after : Option Objects) (digest : List ℕ) (links later : Links) (name : List ℕ) (was : Bool) → IsName name → IsLinked links name → was ≡ true
    → Told before after (λ old new. Stands old digest links → IsFree links name → Sets ⊤ old digest links name None new later)
    → Told before after (λ old new. Stands old digest links → MayChange links name → Releases was old digest links name new later)
release_link before after digest links later name was is linked answer h =
    told_so before after (λ old new. Stands old digest links → IsFree links name → Sets ⊤ old digest links name None new later)
    (λ old new. Stands old digest links → MayChange links name → Releases was old digest links name new later)
    (λ old new f s _. record { was = answer ∙ sym (linked_held old digest links name s is linked); sets = f s (link_free old digest links name linked.0 s linked.1) }) h

-- after it was prepared
pub release_done : (before mid after : Option Objects) (digest : List ℕ) (links middle later : Links) (name : List ℕ) (was : Bool) → IsName name
    → Told before mid (λ old new. Stands old digest links → Prepares old digest links name new middle)
    → Told mid after (λ old new. Stands old digest middle → MayChange middle name → Releases was old digest middle name new later)
    → Told before after (λ old new. Stands old digest links → Releases was old digest links name new later)
release_done before mid after digest links middle later name was is h k =
    told_then before mid after (λ old new. Stands old digest links → Prepares old digest links name new middle)
    (λ old new. Stands old digest middle → MayChange middle name → Releases was old digest middle name new later) (λ old new. Stands old digest links → Releases was old digest links name new later)
    (λ old x new f g s.
    let first = f s in
    let second = g first.kept.stands first.free in
    record {
      was = second.was ∙ ap is_some (first.kept.holds name is);
      sets = kept_sets ⊤ ⊤ old x new digest links middle later name None (λ t. t) first.kept second.sets;
    }) h k
