-- The reading of a manifest (OCI Image Specification 1.1, "Image Manifest" and "Image Index"; Docker's image manifest and
-- manifest list, version 2, schema 2). Fields that aren't named here are ignored.
use Rattle.std.specs.Prelude.{ℕ, ◌==◌, ◌&&◌, Bool, true, false, List, [], ◌∷◌, Option, Some, None, codes, option_map, unwrap_or, if◌then◌else◌}
use Rattle.std.specs.Str.{bytes_eq}
use Rattle.serde_json.specs.Data.{Data}
use Rattle.serde_json.specs.Find.{as_object, as_str, get}
use Rattle.zot_media.specs.Descriptors.{descriptor_of, descriptors_of}
use Rattle.zot_media.specs.Fields.{◌>>=◌, document, each, given, pairs_of, whole_of}
use Rattle.zot_media.specs.Media.{media_text}
use Rattle.zot_media.specs.declared.annotation.Annotation.{Annotation}
use Rattle.zot_media.specs.declared.descriptor.Descriptor.{Descriptor}
use Rattle.zot_media.specs.declared.media.Media.{Media}
use Rattle.zot_media.specs.declared.media.Media.TheVariants.{DockerImage, DockerList, Image, Index}
use Rattle.zot_media.specs.declared.reading.Reading.{Reading}

-- whether the field `schemaVersion` is the whole number 2
abbrev pub is_two : Option ℕ → Bool
is_two None = false
is_two (Some version) = version == 2

-- whether a field is missing or that text
abbrev pub is_text : List ℕ → Option (List ℕ) → Bool
is_text text None = false
is_text text (Some other) = bytes_eq other text

abbrev pub may_be : List ℕ → Option Data → Bool
may_be text None = true
may_be text (Some field) = is_text text (as_str field)

-- the document has the version 2, and its field `mediaType` is missing or the media's text
unfoldable pub is_headed : Media → Data → Bool
is_headed media value = is_two (whole_of (codes "schemaVersion") value) && may_be (media_text media) (get (codes "mediaType") value)

-- an image's manifest, and not an index of several
abbrev pub is_image : Media → Bool
is_image Image = true
is_image Index = false
is_image DockerImage = true
is_image DockerList = false

-- the config and then the layers
unfoldable pub image_references : Data → Option (List Descriptor)
image_references value = do
  config ← get (codes "config") value >>= descriptor_of
  layers ← descriptors_of (codes "layers") value
  Some (config ∷ layers)

-- what the manifest refers to: the config and the layers of an image
unfoldable pub references_of : Media → Data → Option (List Descriptor)
references_of media value = if is_image media then image_references value else Some []

-- the manifests of an index
unfoldable pub children_of : Media → Data → Option (List Descriptor)
children_of media value = if is_image media then Some [] else descriptors_of (codes "manifests") value

-- what is read of a field that may be missing
abbrev pub optional : {A : Type 0} → (Data → Option A) → Option Data → Option (Option A)
optional reads None = Some None
optional reads (Some field) = option_map Some (reads field)

-- the manifest that this one says something of
unfoldable pub subject_of : Data → Option (Option Descriptor)
subject_of value = optional descriptor_of (given (codes "subject") value)

-- the type of an artifact, which may be empty, and missing but not null
unfoldable pub artifact_of : Data → Option (Option (List ℕ))
artifact_of value = optional as_str (get (codes "artifactType") value)

-- ---- annotations ("Annotations")

-- the annotation of this key and this value, which is a text
unfoldable pub annotation_of : List ℕ × Data → Option Annotation
annotation_of pair = option_map (λ text. record { key = pair.0; text = text }) (as_str pair.1)

abbrev pub annotated : Option Data → Option (List Annotation)
annotated None = Some []
annotated (Some field) = as_object field >>= λ members. each annotation_of (pairs_of members)

-- the annotations, in byte order of their keys, each key once
unfoldable pub annotations_of : Data → Option (List Annotation)
annotations_of value = annotated (given (codes "annotations") value)

-- ---- the reading

-- what a document says, if it is a manifest of the media
unfoldable pub reading_of : Media → Data → Option Reading
reading_of media value = do
  references ← references_of media value
  children ← children_of media value
  subject ← subject_of value
  artifact ← artifact_of value
  annotations ← annotations_of value
  Some (record { references = references; children = children; subject = subject; artifact = artifact; annotations = annotations })

-- what the bytes say, if they are a manifest of the media
unfoldable pub reading : Media → List ℕ → Option Reading
reading media bytes = do
  value ← document bytes
  if is_headed media value then reading_of media value else None

-- a manifest that says nothing
abbrev pub empty_reading : Reading
empty_reading = record { references = []; children = []; subject = None; artifact = None; annotations = [] }

-- what a stored manifest says: one without a reading says nothing
abbrev pub stored_reading : Media → List ℕ → Reading
stored_reading media bytes = unwrap_or (reading media bytes) empty_reading
