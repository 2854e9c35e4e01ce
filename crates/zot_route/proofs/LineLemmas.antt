-- What a query and a head's fields say.
use Rattle.std.proofs.Common.{◌≡◌, ℕ, Bool, true, false, Some, None, List, [], ◌∷◌, refl, sym, ap, subst, ◌∙◌}
use Rattle.std.specs.Prelude.{IsUtf8}
use Rattle.std.specs.Str.{bytes_eq, chars, is_utf8}
use lib.Utf8.{encode}
use Rattle.std.proofs.lemmas.Bool.{false_from_ne_true}
use Rattle.std.proofs.lemmas.Slice.Eq.{bytes_eq-Decides}
use Rattle.std.proofs.lemmas.Str.{IsUtf8-from_is_utf8}
use Rattle.zot_media.specs.declared.media.Media.{Media}
use Rattle.zot_media.specs.declared.media.Media.TheVariants.{DockerImage, DockerList, Image, Index}
use Rattle.zot_media.specs.Media.{media_named, media_text}
use Rattle.zot_route.specs.Query.{first_of, text_of, values_in}

-- ---- the first value of a key

module _ (key : List ℕ) (pairs rest : List (List ℕ × List ℕ)) (name value : List ℕ) (all : List (List ℕ)) where
  pub found : (text : List ℕ) (is : Bool) → values_in key pairs ≡ all → pairs ≡ (name, value) ∷ rest → is ≡ bytes_eq (text_of name) key → is ≡ true → text ≡ text_of value
      → Some text ≡ first_of all
  found text is e f g h k =
      let here : bytes_eq (text_of name) key ≡ true = sym g ∙ h in
      let shown : values_in key ((name, value) ∷ rest) ≡ text_of value ∷ values_in key rest = rw here refl in
      ap Some k ∙ ap first_of (sym (sym e ∙ ap (values_in key) f ∙ shown))

  pub passed : (is : Bool) → values_in key pairs ≡ all → pairs ≡ (name, value) ∷ rest → is ≡ bytes_eq (text_of name) key → is ≡ false → values_in key rest ≡ all
  passed is e f g h =
      let other : bytes_eq (text_of name) key ≡ false = sym g ∙ h in
      let shown : values_in key ((name, value) ∷ rest) ≡ values_in key rest = rw other refl in
      sym (sym e ∙ ap (values_in key) f ∙ shown)

pub no_more : (key : List ℕ) (pairs : List (List ℕ × List ℕ)) (all : List (List ℕ)) → values_in key pairs ≡ all → pairs ≡ [] → None ≡ first_of all
no_more key pairs all e f = ap first_of (sym (sym e ∙ ap (values_in key) f))

-- ---- the texts of media are texts

media_is_text : (media : Media) → IsUtf8 (media_text media)
unfolding media_text is_utf8 chars encode
media_is_text Image = IsUtf8-from_is_utf8 (media_text Image) refl
media_is_text Index = IsUtf8-from_is_utf8 (media_text Index) refl
media_is_text DockerImage = IsUtf8-from_is_utf8 (media_text DockerImage) refl
media_is_text DockerList = IsUtf8-from_is_utf8 (media_text DockerList) refl

no_media : (text : List ℕ) (media : Media) → ¬ IsUtf8 text → bytes_eq text (media_text media) ≡ false
no_media text media none =
    false_from_ne_true (bytes_eq text (media_text media)) (λ e. none (subst IsUtf8 (sym ((bytes_eq-Decides text (media_text media)).0 e)) (media_is_text media)))

pub none_named : (text : List ℕ) → ¬ IsUtf8 text → None ≡ media_named text
none_named text none = rw (no_media text Image none, no_media text Index none, no_media text DockerImage none, no_media text DockerList none) refl
