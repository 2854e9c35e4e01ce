-- The text of an index (OCI Image Specification 1.1, "Image Index"): its manifests in the order of their digests, one descriptor per tag in byte order, or one without a tag.
use Rattle.std.specs.Prelude.{ℕ, if◌then◌else◌, List, [], ◌∷◌, map, codes, decimal}
use Rattle.std.specs.List.{filter, flat_map, list_any}
use Rattle.serde_json.specs.Data.{Data, Items, array, no_members, number, object, put, string, unsigned}
use Rattle.serde_json.specs.View.{items_of}
use Rattle.serde_json.specs.Written.{compact_text}
use Rattle.zot_digest.specs.Digest.{digest_text}
use Rattle.zot_media.specs.Media.{media_text}
use Rattle.zot_media.specs.declared.media.Media.TheVariants.{Index}
use Rattle.zot_layout.specs.State.{is_of, written_size}
use Rattle.zot_layout.specs.declared.index_manifest.IndexManifest.{IndexManifest}
use Rattle.zot_layout.specs.declared.index_state.IndexState.{IndexState}
use Rattle.zot_layout.specs.declared.index_tag.IndexTag.{IndexTag}

-- a manifest's descriptor with these annotations
unfoldable pub descriptor_with : Data → IndexManifest → Data
descriptor_with annotations manifest = object (
    put (codes "annotations") annotations (put (codes "digest") (string (digest_text manifest.digest))
    (put (codes "mediaType") (string (media_text manifest.media)) (put (codes "size") (number (unsigned (written_size manifest.size))) no_members))))

-- the annotations of a manifest without a tag
unfoldable pub untagged_notes : IndexManifest → Data
untagged_notes manifest = object (put (codes "zot.cluster.arrived") (string (decimal manifest.arrived)) no_members)

-- the annotations of a manifest under a tag
unfoldable pub tagged_notes : IndexManifest → IndexTag → Data
tagged_notes manifest tag = object (
    put (codes "org.opencontainers.image.ref.name") (string tag.tag) (put (codes "zot.cluster.arrived") (string (decimal manifest.arrived))
    (put (codes "zot.cluster.pushed") (string (decimal tag.pushed)) no_members)))

-- the descriptor of a manifest without a tag, and under a tag
abbrev pub untagged : IndexManifest → Data
untagged manifest = descriptor_with (untagged_notes manifest) manifest

abbrev pub tagged : IndexManifest → IndexTag → Data
tagged manifest tag = descriptor_with (tagged_notes manifest tag) manifest

-- the descriptors of a manifest: one for each of its tags, or one without a tag
abbrev pub descriptors_of : List IndexTag → IndexManifest → List Data
descriptors_of tags manifest = if list_any (is_of manifest.digest) tags then map (tagged manifest) (filter (is_of manifest.digest) tags) else untagged manifest ∷ []

-- the descriptors of all manifests
abbrev pub all_descriptors : IndexState → List Data
all_descriptors state = flat_map (descriptors_of state.tags) state.manifests

-- the index with these descriptors; it has the version 1 of what this project's annotations mean
unfoldable pub index_with : Items → Data
index_with descriptors = object (
    put (codes "annotations") (object (put (codes "zot.cluster.version") (string (codes "1")) no_members)) (put (codes "manifests") (array descriptors)
    (put (codes "mediaType") (string (media_text Index)) (put (codes "schemaVersion") (number (unsigned 2)) no_members))))

-- the index that holds the state, and its text
abbrev pub index_value : IndexState → Data
index_value state = index_with (items_of (all_descriptors state))

unfoldable pub index_text : IndexState → List ℕ
index_text state = compact_text (index_value state)
