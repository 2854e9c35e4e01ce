-- What the bytes of an index mean at a moment, which stands for those that the index doesn't say. Fields and annotations that aren't named here are ignored.
use Rattle.std.specs.Prelude.{◌≡◌, ℕ, ◌&&◌, Bool, true, if◌then◌else◌, List, [], ◌∷◌, map, Option, Some, None, Result, Ok, Err, codes, option_map, ⊤}
use Rattle.std.specs.BTreeMap.{insert_entry}
use Rattle.std.specs.List.{list_all}
use Rattle.serde_json.specs.Data.{Data}
use Rattle.serde_json.specs.Find.{as_array, get}
use Rattle.zot_digest.specs.ByteMap.{byte_cmp}
use Rattle.zot_media.specs.Fields.{◌>>=◌, document, each, values_of, whole_of}
use Rattle.zot_media.specs.Manifest.{is_two, may_be}
use Rattle.zot_media.specs.declared.media.Media.{Media}
use Rattle.zot_layout.specs.Moments.{is_moment, moment_or}
use Rattle.zot_layout.specs.Notes.{listed_of, note_of}
use Rattle.zot_layout.specs.declared.index_manifest.IndexManifest.{IndexManifest}
use Rattle.zot_layout.specs.declared.index_state.IndexState.{IndexState}
use Rattle.zot_layout.specs.declared.index_tag.IndexTag.{IndexTag}
use Rattle.zot_layout.specs.declared.layout_error.LayoutError.{LayoutError}
use Rattle.zot_layout.specs.declared.layout_error.LayoutError.TheVariants as errors
use Rattle.zot_layout.specs.declared.listed.Listed.{Listed}
use Rattle.zot_layout.specs.declared.parts.ManifestPart.{ManifestPart}
use Rattle.zot_layout.specs.declared.parts.TagPart.{TagPart}

-- ---- what has to be there: an object with the version 2 and a list of descriptors

-- the values of the list `manifests`, where it is there
unfoldable pub items_in : Data → Option (List Data)
items_in value = option_map values_of (get (codes "manifests") value >>= as_array)

-- the manifests that an index lists
unfoldable pub listed_in : Data → Option (List Listed)
listed_in value = if is_two (whole_of (codes "schemaVersion") value) then items_in value >>= each listed_of else None

-- ---- whether what this project has written there may stand

-- the version of the annotations is missing or 1
unfoldable pub has_version : Data → Bool
has_version value = may_be (codes "1") (note_of (codes "zot.cluster.version") value)

-- both moments of a descriptor may be missing
abbrev pub has_moments : Listed → Bool
has_moments listed = is_moment listed.arrived && is_moment listed.pushed

-- a descriptor of other media isn't looked at
abbrev pub may_stand_by : Listed → Option Media → Bool
may_stand_by listed None = true
may_stand_by listed (Some media) = has_moments listed

abbrev pub may_stand : Listed → Bool
may_stand listed = may_stand_by listed listed.media

-- ---- the state: of one digest or one tag the last descriptor counts

abbrev pub with_manifest : ℕ → List (List ℕ × ManifestPart) → Listed → Option Media → List (List ℕ × ManifestPart)
with_manifest moment entries listed None = entries
with_manifest moment entries listed (Some media) =
    insert_entry byte_cmp entries listed.digest (record { media = media; size = listed.size; arrived = moment_or moment listed.arrived })

-- the manifests by their digests, with those of these descriptors
abbrev pub with_manifests : ℕ → List (List ℕ × ManifestPart) → List Listed → List (List ℕ × ManifestPart)
with_manifests moment entries [] = entries
with_manifests moment entries (first ∷ others) = with_manifests moment (with_manifest moment entries first first.media) others

abbrev pub with_tag : ℕ → List (List ℕ × TagPart) → Listed → Option (List ℕ) → List (List ℕ × TagPart)
with_tag moment entries listed None = entries
with_tag moment entries listed (Some tag) = insert_entry byte_cmp entries tag (record { digest = listed.digest; pushed = moment_or moment listed.pushed })

-- a descriptor of other media has no tag
abbrev pub tag_by : Option (List ℕ) → Option Media → Option (List ℕ)
tag_by tag None = None
tag_by tag (Some media) = tag

-- the tags by their texts, with those of these descriptors
abbrev pub with_tags : ℕ → List (List ℕ × TagPart) → List Listed → List (List ℕ × TagPart)
with_tags moment entries [] = entries
with_tags moment entries (first ∷ others) = with_tags moment (with_tag moment entries first (tag_by first.tag first.media)) others

abbrev pub manifest_of : List ℕ × ManifestPart → IndexManifest
manifest_of entry = record { digest = entry.0; media = entry.1.media; size = entry.1.size; arrived = entry.1.arrived }

abbrev pub tag_of : List ℕ × TagPart → IndexTag
tag_of entry = record { tag = entry.0; digest = entry.1.digest; pushed = entry.1.pushed }

-- the state that these descriptors make
abbrev pub state_of : ℕ → List Listed → IndexState
state_of moment listed = record { manifests = map manifest_of (with_manifests moment [] listed); tags = map tag_of (with_tags moment [] listed) }

-- ---- the meaning, or why there is none; that names the path and has the bytes

abbrev pub meaning_of : List ℕ → List ℕ → ℕ → Bool → Option (List Listed) → Result IndexState LayoutError
meaning_of path bytes moment version None = Err (errors.BadIndex path bytes)
meaning_of path bytes moment version (Some listed) =
    if version && list_all may_stand listed then Ok (state_of moment listed) else Err (errors.BadMeta path bytes)

abbrev pub meaning_in : List ℕ → List ℕ → ℕ → Option Data → Result IndexState LayoutError
meaning_in path bytes moment None = Err (errors.BadIndex path bytes)
meaning_in path bytes moment (Some value) = meaning_of path bytes moment (has_version value) (listed_in value)

-- what the bytes under a path mean at a moment
abbrev pub meaning : List ℕ → List ℕ → ℕ → Result IndexState LayoutError
meaning path bytes moment = meaning_in path bytes moment (document bytes)

-- ---- what an answer says

-- an error says why there is no meaning. Memory may run out in any case
abbrev pub IsWhy : {A : Type 0} → LayoutError → Result A LayoutError → Type 0
IsWhy (errors.BadIndex path text) wanted = wanted ≡ Err (errors.BadIndex path text)
IsWhy (errors.BadMeta path text) wanted = wanted ≡ Err (errors.BadMeta path text)
IsWhy errors.Failed wanted = wanted ≡ Err errors.Failed
IsWhy errors.NoMemory wanted = ⊤

-- the answer is exactly what is wanted
abbrev pub IsJust : {A : Type 0} → Result A LayoutError → Result A LayoutError → Type 0
IsJust (Ok value) wanted = wanted ≡ Ok value
IsJust (Err error) wanted = IsWhy error wanted
