-- The texts of media.
use Rattle.std.proofs.Common.{◌≡◌, ℕ, Bool, true, false, List, Option, Some, refl, if◌then◌else◌}
use Rattle.std.specs.Str.{bytes_eq}
use Rattle.std.proofs.lemmas.Slice.Eq.{bytes_eq-Decides}
use Rattle.zot_media.specs.declared.media.Media.{Media}
use Rattle.zot_media.specs.declared.media.Media.TheVariants.{DockerImage, DockerList, Image, Index}
use Rattle.zot_media.specs.Media.{media_named, media_text}

pub named_text : (media : Media) → media_named (media_text media) ≡ Some media
unfolding media_text
named_text Image = refl
named_text Index = refl
named_text DockerImage = refl
named_text DockerList = refl

-- a text that was tested and is read as media is theirs, or is read by the other tests
tested : (text : List ℕ) (b : Bool) (one media : Media) (others : Option Media) → bytes_eq text (media_text one) ≡ b → (if b then Some one else others) ≡ Some media
    → (others ≡ Some media → text ≡ media_text media) → text ≡ media_text media
tested text true one media others e h next =
    let same : Some one ≡ Some media = h in
    let is : text ≡ media_text one = (bytes_eq-Decides text (media_text one)).0 e in
    cc (is, same)
tested text false one media others e h next = next h

pub text_named : (text : List ℕ) (media : Media) → media_named text ≡ Some media → text ≡ media_text media
text_named text media h =
    tested text (bytes_eq text (media_text Image)) Image media _ refl h (λ h.
    tested text (bytes_eq text (media_text Index)) Index media _ refl h (λ h.
    tested text (bytes_eq text (media_text DockerImage)) DockerImage media _ refl h (λ h.
    tested text (bytes_eq text (media_text DockerList)) DockerList media _ refl h (λ h. cc h))))
