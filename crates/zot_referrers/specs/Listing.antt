-- Which manifests stand in a list of referrers, and its text.
use Rattle.std.specs.Prelude.{ℕ, Bool, List, [], ◌∷◌, map, Option, Some, None, codes, unwrap_or, if◌then◌else◌}
use Rattle.std.specs.FinMap as finite
use Rattle.serde_json.specs.Data.{Data, Items, array, no_members, number, object, put, string, unsigned}
use Rattle.zot_digest.specs.ByteMap.{ByteMap}
use Rattle.zot_manifests.specs.Index.{ListsNamed, Sets}
use Rattle.zot_manifests.specs.declared.kept.Kept.{Kept}
use Rattle.zot_media.specs.Manifest.{is_text}
use Rattle.zot_media.specs.Media.{media_text}
use Rattle.zot_media.specs.References.{subject_digest}
use Rattle.zot_media.specs.Referrers.{Pushed, Referrer, is_listed, referrer_of}
use Rattle.zot_media.specs.declared.media.Media.TheVariants.{Index}
use Rattle.zot_media.specs.declared.reading.Reading.{Reading}

-- a kept manifest, with its digest and how many bytes it has
abbrev pub pushed_as : List ℕ → ℕ → Kept → Pushed
pushed_as digest size kept = record { digest = digest; size = size; media = kept.media; reading = kept.reading }

-- all manifests, in the order of their digests; one whose bytes aren't there has the size 0
abbrev pub all_pushed : (List ℕ → Option ℕ) → ByteMap Kept → List Pushed
all_pushed sizes manifests = map (λ entry. pushed_as entry.0 (unwrap_or (sizes entry.0) 0) entry.1) (finite.entries manifests)

-- what the list of those that say something of a digest has of a manifest, if it is one of them
abbrev pub listed_as : List ℕ → Option (List ℕ) → Pushed → List Referrer
listed_as subject wanted pushed = if is_listed subject wanted pushed.reading then referrer_of pushed ∷ [] else []

-- the same of a manifest that is kept under a digest
abbrev pub listed_entry : (List ℕ → Option ℕ) → List ℕ → Option (List ℕ) → List ℕ × Kept → List Referrer
listed_entry sizes subject wanted entry = listed_as subject wanted (pushed_as entry.0 (unwrap_or (sizes entry.0) 0) entry.1)

-- the same of what is kept under a digest, if there is something
abbrev pub found_as : (List ℕ → Option ℕ) → List ℕ → Option (List ℕ) → List ℕ → Option Kept → List Referrer
found_as sizes subject wanted digest None = []
found_as sizes subject wanted digest (Some kept) = listed_entry sizes subject wanted (digest, kept)

-- the same of the manifests
abbrev pub found_in : (List ℕ → Option ℕ) → ByteMap Kept → List ℕ → Option (List ℕ) → List ℕ → List Referrer
found_in sizes manifests subject wanted digest = found_as sizes subject wanted digest (finite.get manifests digest)

-- whether a manifest says something of the one of a digest
abbrev pub says_of : Reading → List ℕ → Bool
says_of reading subject = is_text subject (subject_digest reading.subject)

-- each manifest that has a subject is listed under it
abbrev pub ListsSubjects : ByteMap Kept → Sets (List ℕ) → Type 0
ListsSubjects manifests sets = ListsNamed (λ kept. says_of kept.reading) manifests sets

-- the index with these descriptors
unfoldable pub listing_value : Items → Data
listing_value descriptors = object (put (codes "manifests") (array descriptors) (put (codes "mediaType") (string (media_text Index)) (put (codes "schemaVersion") (number (unsigned 2)) no_members)))
