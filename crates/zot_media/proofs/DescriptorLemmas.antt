-- Descriptors read from values.
use Rattle.std.proofs.Common.{◌≡◌, ◌==◌, Bool, true, false, not, List, [], ◌∷◌, length, map, Some, None, is_some, refl, sym, ap}
use Rattle.std.specs.List.{list_all}
use Rattle.std.proofs.Math.Dec.{eqb-suc-zero}
use Rattle.std.proofs.lemmas.List.Folds.{list_all-map}
use Rattle.serde_json.specs.Find.{as_str}
use Rattle.serde_json.specs.View.{view}
use Rattle.serde_json.specs.declared.value.Value.{Value}
use Rattle.zot_media.specs.Descriptors.{external_by, has_element}

with_element : (items : List Value) → has_element (map view items) ≡ not (length items == 0)
with_element [] = refl
with_element (item ∷ items) = sym (ap not (eqb-suc-zero (length items)))

-- whether texts have an element
pub external_some : (items : List Value) → list_all (λ item. is_some (as_str (view item))) items ≡ true → (empty : Bool) → empty ≡ (length items == 0) → Some (not empty) ≡ external_by (map view items)
external_some items h empty e = rw (list_all-map (λ url. is_some (as_str url)) view items, h, with_element items, e) refl

pub external_none : (items : List Value) → list_all (λ item. is_some (as_str (view item))) items ≡ false → None ≡ external_by (map view items)
external_none items h = rw (list_all-map (λ url. is_some (as_str url)) view items, h) refl
