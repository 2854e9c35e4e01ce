-- The marker of an image layout, the file `oci-layout` (OCI Image Specification 1.1, "Image Layout").
use Rattle.std.specs.Prelude.{ℕ, Bool, if◌then◌else◌, List, Result, Ok, Err, codes}
use Rattle.zot_media.specs.Fields.{◌>>=◌, document, text_of}
use Rattle.zot_media.specs.Manifest.{is_text}
use Rattle.zot_layout.specs.declared.layout_error.LayoutError.{LayoutError}
use Rattle.zot_layout.specs.declared.layout_error.LayoutError.TheVariants as errors

-- the text of the marker as it is written
unfoldable pub marker_text : List ℕ
marker_text = codes "{\"imageLayoutVersion\":\"1.0.0\"}"

-- whether the bytes are a marker: an object whose `imageLayoutVersion` is `1.0.0`
unfoldable pub is_marker : List ℕ → Bool
is_marker bytes = is_text (codes "1.0.0") (document bytes >>= text_of (codes "imageLayoutVersion"))

-- the meaning of the bytes under a path
abbrev pub marker_meaning : List ℕ → List ℕ → Result (Unit {0}) LayoutError
marker_meaning path bytes = if is_marker bytes then Ok tt else Err (errors.BadIndex path bytes)
