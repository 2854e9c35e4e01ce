-- What each order of writes makes of what is held.
use Rattle.std.proofs.Common.{◌≡◌, ◌≢◌, ℕ, inl, inr, List, Option, Some, None, is_some, IfSome, refl, sym, ap, subst, ◌∙◌}
use Rattle.std.specs.Prelude.{if◌then◌else◌, ⊤}
use Rattle.std.specs.FinMap as map
use Rattle.zot_maps.proofs.Maps.{byte_order, get_elsewhere, get_here, removed_elsewhere, removed_here}
use Rattle.zot_names.specs.Name.{IsName}
use Rattle.zot_outside.specs.Objects.{Objects}
use Rattle.zot_links.proofs.PathLemmas.{keeps_further}
use Rattle.zot_links.proofs.PromotionLemmas.{promoted_held, promoted_stands, promoted_tight}
use Rattle.zot_links.proofs.StandLemmas.{again_held, again_stands, decide, eq_false, eq_true, gone_held_beside, gone_held_here, gone_stands, link_held, more_held, more_line, more_stands, new_held_beside, new_held_link, new_held_whole, new_stands, own_stands, set_held_beside, set_held_link, set_held_whole, set_stands, whole_line_there, whole_no_link}
use Rattle.zot_links.proofs.TightLemmas.{fresh_same, tight_but_one, tight_same}
use Rattle.zot_links.specs.Changes.{Keeps, RecordsLinks, Sets, SetsObject, with_held}
use Rattle.zot_links.specs.Meaning.{IsFree, IsLink, IsWhole, Links, Stands, held, line_at, object_at}
use Rattle.zot_links.specs.Orders.{Begins, MayRelink, bytes_by, fresh_whole}
use Rattle.zot_links.specs.Promotion.{promote}

pub with_here : (holds : List ℕ → Option (List ℕ)) (name : List ℕ) (bytes : Option (List ℕ)) (other : List ℕ) → other ≡ name → with_held holds name bytes other ≡ bytes
with_here holds name bytes other is = ap (λ b. if b then bytes else holds other) (eq_true other name is)

pub with_beside : (holds : List ℕ → Option (List ℕ)) (name : List ℕ) (bytes : Option (List ℕ)) (other : List ℕ) → other ≢ name → with_held holds name bytes other ≡ holds other
with_beside holds name bytes other apart = ap (λ b. if b then bytes else holds other) (eq_false other name apart)

-- what is held where the others hold what they held
pub with_one : (before after : List ℕ → Option (List ℕ)) (name : List ℕ) (bytes : Option (List ℕ)) → (IsName name → after name ≡ bytes)
    → ((other : List ℕ) → IsName other → other ≢ name → after other ≡ before other) → (other : List ℕ) → IsName other → after other ≡ with_held before name bytes other
with_one before after name bytes here beside other is = elim (decide other name) [
  | inl same ↦ ap after same ∙ here (subst IsName same is) ∙ sym (with_here before name bytes other same)
  | inr apart ↦ beside other is apart ∙ sym (with_beside before name bytes other apart)
]

-- ---- nothing changed

pub kept_self : (objects : Objects) (digest : List ℕ) (links : Links) → Stands objects digest links → Keeps objects digest links objects links
kept_self objects digest links s = record { stands = s; holds = λ _ _. refl; elsewhere = λ _ _ _. (λ _. refl, refl); tight = λ _ t. t }

-- what is kept before leaves what is made after
pub turns_then : (fresh : Type 0) (old mid new : Objects) (digest : List ℕ) (links between later : Links) (name : List ℕ) (bytes : Option (List ℕ))
    → Sets fresh old digest links name bytes mid between → Keeps mid digest between new later → Sets fresh old digest links name bytes new later
turns_then fresh old mid new digest links between later name bytes first second = record {
  stands = second.stands;
  holds = λ other is. second.holds other is ∙ first.holds other is;
  elsewhere = keeps_further old mid new digest first.elsewhere second.elsewhere;
  tight = λ f t. second.tight tt (first.tight f t);
}

pub kept_then : (old mid new : Objects) (digest : List ℕ) (links between later : Links) → Keeps old digest links mid between → Keeps mid digest between new later → Keeps old digest links new later
kept_then old mid new digest links between later first second = record {
  stands = second.stands;
  holds = λ other is. second.holds other is ∙ first.holds other is;
  elsewhere = keeps_further old mid new digest first.elsewhere second.elsewhere;
  tight = λ f t. second.tight tt (first.tight tt t);
}

-- ---- a new holder

pub line_kept : (old new : Objects) (digest : List ℕ) (links : Links) (name : List ℕ) (origin : Option (List ℕ)) → Stands old digest links → map.get links name ≡ None
    → RecordsLinks old digest (map.insert links name origin) new → Keeps old digest links new links
line_kept old new digest links name origin s absent h = record {
  stands = more_stands old new digest h.0 links s h.2 name origin absent h.1;
  holds = more_held old new digest h.0 links s h.2 name origin absent h.1;
  elsewhere = h.2.elsewhere;
  tight = λ _ t. tight_same old new digest links h.2.objects t;
}

module _ (old mid new : Objects) (digest : List ℕ) (links : Links) (name bytes : List ℕ) (s : Stands old digest links) (absent : map.get links name ≡ None) where
  pub added : (origin : Option (List ℕ)) → IfSome origin (IsWhole links) → RecordsLinks old digest (map.insert links name origin) mid → SetsObject mid digest name (Some bytes) new
      → Sets (fresh_whole origin old digest links bytes) old digest links name (bytes_by old digest origin bytes) new (map.insert links name origin)
  added None from h sets =
      let between = more_stands old mid digest h.0 links s h.2 name None absent h.1 in
      let mine = more_line old mid digest h.0 links s h.2 name None absent h.1 in
      let origins : (m : List ℕ) → ◌≡◌ {A = Option (List ℕ)} None (Some m) → IsWhole links m × (line_at mid digest m ≡ Some None) = λ m e. cc e in
      record {
        stands = new_stands mid new digest name bytes links between sets None absent mine origins;
        holds = with_one (held old digest) (held new digest) name (Some bytes) (λ is. new_held_whole mid new digest name bytes links between sets None absent mine origins refl is)
            (λ other is apart. new_held_beside mid new digest name bytes links between sets None absent mine origins other is apart ∙ more_held old mid digest h.0 links s h.2 name None absent h.1 other is);
        elsewhere = keeps_further old mid new digest h.2.elsewhere sets.elsewhere;
        tight = λ fresh t. tight_but_one old new digest links (map.insert links name None) name
            (λ other apart whole. (sym (get_elsewhere byte_order links name None other apart) ∙ whole, sets.beside other apart ∙ h.2.objects other))
            (λ _ other has. fresh_same old digest links bytes other fresh (sym sets.here ∙ has)) t;
      }
  added (Some m) from h sets =
      let between = more_stands old mid digest h.0 links s h.2 name (Some m) absent h.1 in
      let mine = more_line old mid digest h.0 links s h.2 name (Some m) absent h.1 in
      let line = whole_line_there old mid digest h.0 links s h.2 name (Some m) absent h.1 m from in
      let origins : (n : List ℕ) → ◌≡◌ {A = Option (List ℕ)} (Some m) (Some n) → IsWhole links n × (line_at mid digest n ≡ Some None) =
      λ n e. let same : m ≡ n = cc e in subst (λ o. IsWhole links o × (line_at mid digest o ≡ Some None)) same (from, line) in
      record {
        stands = new_stands mid new digest name bytes links between sets (Some m) absent mine origins;
        holds = with_one (held old digest) (held new digest) name (object_at old digest m)
            (λ is. new_held_link mid new digest name bytes links between sets (Some m) absent mine origins m refl is ∙ h.2.objects m)
            (λ other is apart. new_held_beside mid new digest name bytes links between sets (Some m) absent mine origins other is apart ∙ more_held old mid digest h.0 links s h.2 name (Some m) absent h.1 other is);
        elsewhere = keeps_further old mid new digest h.2.elsewhere sets.elsewhere;
        tight = λ _ t. tight_but_one old new digest links (map.insert links name (Some m)) name
            (λ other apart whole. (sym (get_elsewhere byte_order links name (Some m) other apart) ∙ whole, sets.beside other apart ∙ h.2.objects other))
            (λ whole _ _. absurd (whole_no_link (map.insert links name (Some m)) name m whole (get_here byte_order links name (Some m)))) t;
      }

-- ---- another origin

module _ (old new : Objects) (digest : List ℕ) (links : Links) (name bytes : List ℕ) (s : Stands old digest links) where
  pub relinked : (origin : Option (List ℕ)) → MayRelink links name origin → Begins old digest name origin bytes → RecordsLinks old digest (map.insert links name origin) new
      → Sets (fresh_whole origin old digest links bytes) old digest links name (Some bytes) new (map.insert links name origin)
  relinked None may begins h =
      let origins : (m : List ℕ) → ◌≡◌ {A = Option (List ℕ)} None (Some m) → IsWhole links m × (m ≢ name) = λ m e. cc e in
      record {
        stands = set_stands old new digest h.0 links s h.2 name None may.holder may.free origins h.1;
        holds = with_one (held old digest) (held new digest) name (Some bytes) (λ is. set_held_whole old new digest h.0 links s h.2 name None may.holder may.free origins h.1 refl is ∙ begins)
            (λ other is apart. set_held_beside old new digest h.0 links s h.2 name None may.holder may.free origins h.1 other is apart);
        elsewhere = h.2.elsewhere;
        tight = λ fresh t. tight_but_one old new digest links (map.insert links name None) name
            (λ other apart whole. (sym (get_elsewhere byte_order links name None other apart) ∙ whole, h.2.objects other))
            (λ _ other has. fresh_same old digest links bytes other fresh (sym begins ∙ sym (h.2.objects name) ∙ has)) t;
      }
  relinked (Some m) may begins h =
      let origins : (n : List ℕ) → ◌≡◌ {A = Option (List ℕ)} (Some m) (Some n) → IsWhole links n × (n ≢ name) =
      λ n e. let same : m ≡ n = cc e in subst (λ o. IsWhole links o × (o ≢ name)) same (may.whole, may.other) in
      record {
        stands = set_stands old new digest h.0 links s h.2 name (Some m) may.holder may.free origins h.1;
        holds = with_one (held old digest) (held new digest) name (Some bytes) (λ is. set_held_link old new digest h.0 links s h.2 name (Some m) may.holder may.free origins h.1 m refl is ∙ begins)
            (λ other is apart. set_held_beside old new digest h.0 links s h.2 name (Some m) may.holder may.free origins h.1 other is apart);
        elsewhere = h.2.elsewhere;
        tight = λ _ t. tight_but_one old new digest links (map.insert links name (Some m)) name
            (λ other apart whole. (sym (get_elsewhere byte_order links name (Some m) other apart) ∙ whole, h.2.objects other))
            (λ whole _ _. absurd (whole_no_link (map.insert links name (Some m)) name m whole (get_here byte_order links name (Some m)))) t;
      }

-- ---- a promotion

module _ (old mid : Objects) (digest : List ℕ) (links : Links) (name least bytes : List ℕ) (s : Stands old digest links) (whole : IsWhole links name) (link : IsLink links least name)
    (has : object_at old digest name ≡ Some bytes) (sets : SetsObject old digest least (Some bytes) mid) where
  pub copied : Keeps old digest links mid links
  copied = record {
    stands = own_stands old mid digest least bytes links s sets (ap is_some link);
    holds = link_held old mid digest least bytes links s sets name link;
    elsewhere = sets.elsewhere;
    tight = λ _ t. tight_but_one old mid digest links links least (λ other apart is. (is, sets.beside other apart)) (λ is _ _. absurd (whole_no_link links least name is link)) t;
  }

  alike : object_at mid digest least ≡ object_at mid digest name
  alike = sets.here ∙ sym (sets.beside name (λ e. whole_no_link links least name (subst (IsWhole links) e whole) link) ∙ has)

  pub promoted : (new : Objects) (later : Links) → ((other : List ℕ) → map.get later other ≡ promote name least other (map.get links other)) → RecordsLinks mid digest later new → Keeps old digest links new later
  promoted new later is h =
      let between = copied.stands in
      kept_then old mid new digest links links later copied (record {
        stands = promoted_stands mid new digest h.0 links later between h.2 name least whole link alike h.1 is;
        holds = promoted_held mid new digest h.0 links later between h.2 name least whole link alike h.1 is;
        elsewhere = h.2.elsewhere;
        tight = λ _ t. promoted_tight mid new digest h.0 links later between h.2 name least whole link alike h.1 is t;
      })

-- ---- a holder goes

pub removed : (old new : Objects) (digest : List ℕ) (links : Links) (name : List ℕ) → Stands old digest links → IsFree links name → SetsObject old digest name None new
    → Sets ⊤ old digest links name None new (map.remove links name)
removed old new digest links name s free sets = record {
  stands = gone_stands old new digest name links s free sets;
  holds = with_one (held old digest) (held new digest) name None (λ _. gone_held_here old new digest name links s free sets)
      (λ other is apart. gone_held_beside old new digest name links s free sets other is apart);
  elsewhere = sets.elsewhere;
  tight = λ _ t. tight_but_one old new digest links (map.remove links name) name
      (λ other apart whole. (sym (removed_elsewhere byte_order links name other apart) ∙ whole, sets.beside other apart))
      (λ whole _ _. let clash : None ≡ Some None = sym (removed_here byte_order links name) ∙ whole in cc clash) t;
}

pub tidied : (old new : Objects) (digest : List ℕ) (links : Links) → Stands old digest links → RecordsLinks old digest links new → Keeps old digest links new links
tidied old new digest links s h = record {
  stands = again_stands old new digest h.0 links s h.2 h.1;
  holds = again_held old new digest h.0 links s h.2 h.1;
  elsewhere = h.2.elsewhere;
  tight = λ _ t. tight_same old new digest links h.2.objects t;
}
