-- Documents and their fields.
use Rattle.std.proofs.Common.{◌≡◌, ℕ, Bool, true, false, List, [], ◌∷◌, map, Option, Some, None, option_map, IsUtf8, refl, ap, if◌then◌else◌}
use Rattle.std.specs.Str.{is_utf8}
use Rattle.std.proofs.lemmas.Str.{IsUtf8-from_is_utf8, is_utf8-from_IsUtf8}
use Rattle.serde_json.specs.Data.{Data, Items}
use Rattle.serde_json.specs.Read.{read}
use Rattle.serde_json.specs.View.{view, items_view}
use Rattle.serde_json.specs.declared.value.Value.{Value}
use Rattle.zot_media.specs.Fields.{document, values_of}

-- a text that is read as a value is a document
pub document_some : (bytes : List ℕ) (value : Data) → IsUtf8 bytes → read bytes ≡ Some value → document bytes ≡ Some value
unfolding document
document_some bytes value text h = rw (is_utf8-from_IsUtf8 bytes text) h

-- bytes that are read as no value, if they are a text at all, are no document
pub document_none : (bytes : List ℕ) → (IsUtf8 bytes → read bytes ≡ None) → document bytes ≡ None
unfolding document
document_none bytes h = none_by (is_utf8 bytes) (read bytes) (λ e. h (IsUtf8-from_is_utf8 bytes e)) where
  none_by : (b : Bool) (found : Option Data) → (b ≡ true → found ≡ None) → (if b then found else None) ≡ None
  none_by true found h = h refl
  none_by false found h = refl

-- the values of an array
pub values_of_view : (items : List Value) → values_of (items_view items) ≡ map view items
values_of_view [] = refl
values_of_view (v ∷ vs) = ap (λ more. view v ∷ more) (values_of_view vs)

pub listed_view : (items slice : List Value) (found : Option Items) → Some (items_view items) ≡ found → slice ≡ items → Some (map view slice) ≡ option_map values_of found
listed_view items slice found h e = rw (← h, e, values_of_view items) refl
