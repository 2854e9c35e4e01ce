-- Where one object changes, the whole holders stay tight if it is fresh.
use Rattle.std.proofs.Common.{◌≡◌, ◌≢◌, ℕ, inl, inr, List, Option, Some, sym, ap, subst, ◌∙◌}
use Rattle.zot_outside.specs.Objects.{Objects}
use Rattle.zot_links.proofs.StandLemmas.{decide}
use Rattle.zot_links.specs.Meaning.{IsFresh, IsTight, IsWhole, Links, object_at}

-- the others that are whole were so, with the same bytes; and this one has fresh bytes where it is whole
pub tight_but_one : (old new : Objects) (digest : List ℕ) (links later : Links) (name : List ℕ)
    → ((other : List ℕ) → other ≢ name → IsWhole later other → IsWhole links other × (object_at new digest other ≡ object_at old digest other))
    → (IsWhole later name → (bytes : List ℕ) → object_at new digest name ≡ Some bytes → IsFresh old digest links bytes) → IsTight old digest links → IsTight new digest later
tight_but_one old new digest links later name others mine tight one other bytes first second has also some = elim (decide one name) [
  | inl e ↦ elim (decide other name) [
    | inl f ↦ e ∙ sym f
    | inr apart ↦
        let was = others other apart second in
        absurd (mine (subst (IsWhole later) e first) bytes (sym (ap (object_at new digest) e) ∙ has) some other was.0 (sym was.1 ∙ also))
  ]
  | inr apart ↦ elim (decide other name) [
    | inl f ↦
        let was = others one apart first in
        absurd (mine (subst (IsWhole later) f second) bytes (sym (ap (object_at new digest) f) ∙ also) some one was.0 (sym was.1 ∙ has))
    | inr too ↦
        let was = others one apart first in
        let is = others other too second in
        tight one other bytes was.0 is.0 (sym was.1 ∙ has) (sym is.1 ∙ also) some
  ]
]

-- bytes that are these are fresh
pub fresh_same : (objects : Objects) (digest : List ℕ) (links : Links) (bytes other : List ℕ) → IsFresh objects digest links bytes → ◌≡◌ {A = Option (List ℕ)} (Some bytes) (Some other) → IsFresh objects digest links other
fresh_same objects digest links bytes other fresh e = let same : bytes ≡ other = cc e in subst (IsFresh objects digest links) same fresh

-- no object changed
pub tight_same : (old new : Objects) (digest : List ℕ) (links : Links) → ((name : List ℕ) → object_at new digest name ≡ object_at old digest name) → IsTight old digest links → IsTight new digest links
tight_same old new digest links same tight one other bytes first second has also some =
    tight one other bytes first second (sym (same one) ∙ has) (sym (same other) ∙ also) some
