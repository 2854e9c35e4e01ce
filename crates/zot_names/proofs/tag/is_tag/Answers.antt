use Rattle.std.proofs.Common.{◌≡◌, ℕ, ◌≤◌, Bool, true, IsTrue, List, ◌∷◌, length, sym, subst, ◌∙◌}
use Rattle.std.specs.Prelude.{◌↔◌}
use Rattle.std.specs.List.{AllPass}
use Rattle.zot_names.specs.Tag.{IsTag, is_tag_byte, is_word_byte}
use Rattle.zot_names.proofs.tag.is_tag.Goals as goal

-- a text that begins with a tag's first byte is a tag where the others may stand after it
tag_test : (r : Bool) (text more : List ℕ) (first : ℕ) → text ≡ first ∷ more → is_word_byte first ≡ true
    → IsTrue r ↔ (AllPass is_tag_byte more × (length more ≤ 127)) → IsTrue r ↔ IsTag text
tag_test r text more first e begins test = (
  λ h. let parts = test.0 h in record { first = first; more = more; spelled = e; begins = begins; bytes = parts.0; short = parts.1 },
  λ is. let same : is.more ≡ more = cc (is.spelled, e) in
      test.1 (subst (AllPass is_tag_byte) same is.bytes, subst (λ (t : List ℕ). length t ≤ 127) same is.short),
)

pub returns-then-is_word_byte : goal.returns-then-is_word_byte
returns-then-is_word_byte c =
    tag_test _ _ c.in-Some.more.now c.in-Some.first.now
    (sym c.as_bytes.ensures.value ∙ c.in-Some.ensures.cases.0) (sym c.is_word_byte.ensures ∙ c.if-is_word_byte.true) c.may_stand_after.ensures
