-- What an index says of a manifest: its descriptor, and the annotations of that (OCI Image Specification 1.1, "Image Index", "Content Descriptors" and "Annotations").
use Rattle.std.specs.Prelude.{ℕ, ◌&&◌, nat_le, Bool, false, if◌then◌else◌, List, [], ◌∷◌, length, Option, Some, None, codes}
use Rattle.std.specs.List.{list_all}
use Rattle.serde_json.specs.Data.{Data}
use Rattle.serde_json.specs.Find.{as_str, get}
use Rattle.zot_media.specs.Descriptors.{descriptor_of}
use Rattle.zot_media.specs.Fields.{◌>>=◌}
use Rattle.zot_media.specs.Media.{media_named}
use Rattle.zot_names.specs.Tag.{is_tag_byte, is_word_byte}
use Rattle.zot_layout.specs.Moments.{moment_of}
use Rattle.zot_layout.specs.declared.listed.Listed.{Listed}

-- the annotation of a key, where the field `annotations` is an object that has it
unfoldable pub note_of : List ℕ → Data → Option Data
note_of key value = get (codes "annotations") value >>= get key

-- whether a text is a tag: a letter, a digit or `_`, and after it at most 127 of these, `.` and `-`
abbrev pub is_tag : List ℕ → Bool
is_tag [] = false
is_tag (first ∷ more) = is_word_byte first && (list_all is_tag_byte more && nat_le (length more) 127)

-- the tag that a text is
abbrev pub tag_named : List ℕ → Option (List ℕ)
tag_named text = if is_tag text then Some text else None

-- the tag that a descriptor names: none where the annotation isn't there, or is no tag
unfoldable pub tag_in : Data → Option (List ℕ)
tag_in value = note_of (codes "org.opencontainers.image.ref.name") value >>= as_str >>= tag_named

-- the manifest that a descriptor lists
unfoldable pub listed_of : Data → Option Listed
listed_of value = do
  descriptor ← descriptor_of value
  Some (record {
    digest = descriptor.digest;
    media = media_named descriptor.media;
    size = descriptor.size;
    tag = tag_in value;
    arrived = moment_of (note_of (codes "zot.cluster.arrived") value);
    pushed = moment_of (note_of (codes "zot.cluster.pushed") value);
  })
