-- What a plain registry answers to a request on a manifest, a tag or the list of tags.
use Rattle.std.specs.Prelude.{ℕ, Bool, true, false, not, List, length, Option, Some, None, unwrap_or, if◌then◌else◌}
use Rattle.std.specs.FinMap as map
use Rattle.sha2.specs.Sha256.{sha256}
use Rattle.std.specs.Str.{bytes_eq}
use Rattle.zot_media.specs.Manifest.{reading}
use Rattle.zot_media.specs.References.{needed, subject_digest}
use Rattle.zot_media.specs.declared.media.Media.{Media}
use Rattle.zot_media.specs.declared.reading.Reading.{Reading}
use Rattle.zot_media.specs.declared.reference.Reference.{Reference}
use Rattle.zot_media.specs.declared.reference.Reference.TheVariants as by
use Rattle.zot_model.specs.declared.code.Code.TheVariants.{DigestInvalid, ManifestBlobUnknown, ManifestInvalid, ManifestUnknown, NameUnknown}
use Rattle.zot_model.specs.declared.detail.Detail.TheVariants.{Missing}
use Rattle.zot_model.specs.declared.reply.Reply.TheVariants.{Deleted, Manifest, ManifestHead, ManifestMade, Tags}
use Rattle.zot_model.specs.Manifests.{Found, after_pull, first_missing, manifest_of, tag_in, with_tag, without_tags_of}
use Rattle.zot_model.specs.Outcomes.{Outcome, stays}
use Rattle.zot_model.specs.Pages.{page}
use Rattle.zot_model.specs.Refusals.{refusal, refusal_with}
use Rattle.zot_model.specs.State.{RepoState}

-- ---- pulling

-- the repository after a pull by a reference: a tag has one pull more, and this moment
abbrev pub pulled : ℕ → RepoState → Reference → RepoState
pulled moment repo reference = record { known = repo.known; blobs = repo.blobs; manifests = repo.manifests; tags = after_pull moment repo.tags reference; sessions = repo.sessions }

-- GET of a manifest: its media and its bytes, or 404 where the repository has no such manifest or tag, or not its bytes (OCI Distribution Specification, "Pulling manifests")
abbrev pub get_found : ℕ → RepoState → Reference → Option Found → Outcome
get_found moment repo reference None = stays repo (refusal ManifestUnknown)
get_found moment repo reference (Some found) = record { reply = Manifest found.digest found.media found.bytes; repo = pulled moment repo reference }

abbrev pub plain_get_manifest : ℕ → RepoState → Reference → Outcome
plain_get_manifest moment repo reference = get_found moment repo reference (manifest_of repo reference)

-- HEAD of a manifest: its media and its size
abbrev pub head_found : RepoState → Option Found → Outcome
head_found repo None = stays repo (refusal ManifestUnknown)
head_found repo (Some found) = stays repo (ManifestHead found.digest found.media (length found.bytes))

abbrev pub plain_head_manifest : RepoState → Reference → Outcome
plain_head_manifest repo reference = head_found repo (manifest_of repo reference)

-- ---- pushing (OCI Distribution Specification, "Pushing Manifests")

-- the repository with a manifest that arrives at the moment: its bytes are a blob, and the tag of the reference is set to it
abbrev pub with_manifest : ℕ → RepoState → Reference → List ℕ → Media → List ℕ → RepoState
with_manifest moment repo reference digest media bytes = record {
  known = true;
  blobs = map.insert repo.blobs digest (record { bytes = bytes; arrived = moment });
  manifests = map.insert repo.manifests digest (record { media = media; arrived = moment });
  tags = with_tag moment repo.tags (tag_in reference) digest;
  sessions = repo.sessions;
}

-- whether a reference is another digest than this one
abbrev pub is_other : Reference → List ℕ → Bool
is_other (by.Tag tag) digest = false
is_other (by.Digest other) digest = not (bytes_eq other digest)

-- a manifest whose references were looked at: 400 with the first missing one, and else 201 and it is stored
abbrev pub put_checked : ℕ → RepoState → Reference → List ℕ → Media → List ℕ → Reading → Option (List ℕ) → Outcome
put_checked moment repo reference digest media bytes reading (Some missing) = stays repo (refusal_with ManifestBlobUnknown (Missing missing))
put_checked moment repo reference digest media bytes reading None =
    record { reply = ManifestMade digest (subject_digest reading.subject); repo = with_manifest moment repo reference digest media bytes }

-- a manifest that was read: 400 where the reference is another digest
abbrev pub put_read : ℕ → RepoState → Reference → Media → List ℕ → Option Reading → Outcome
put_read moment repo reference media bytes None = stays repo (refusal ManifestInvalid)
put_read moment repo reference media bytes (Some reading) =
    if is_other reference (sha256 bytes) then stays repo (refusal DigestInvalid)
    else put_checked moment repo reference (sha256 bytes) media bytes reading (first_missing (map.contains_key repo.blobs) (needed reading))

-- PUT of a manifest: 400 where its media aren't accepted, or the bytes aren't such a manifest
abbrev pub plain_put : ℕ → RepoState → Reference → Option Media → List ℕ → Outcome
plain_put moment repo reference None bytes = stays repo (refusal ManifestInvalid)
plain_put moment repo reference (Some media) bytes = put_read moment repo reference media bytes (reading media bytes)

-- ---- deleting (OCI Distribution Specification, "Deleting tags" and "Deleting Manifests")

-- the repository without a tag
abbrev pub without_tag : RepoState → List ℕ → RepoState
without_tag repo tag = record { known = repo.known; blobs = repo.blobs; manifests = repo.manifests; tags = map.remove repo.tags tag; sessions = repo.sessions }

-- the repository without a manifest and its tags; its bytes stay as a blob
abbrev pub without_manifest : RepoState → List ℕ → RepoState
without_manifest repo digest = record { known = repo.known; blobs = repo.blobs; manifests = map.remove repo.manifests digest; tags = without_tags_of repo.tags digest; sessions = repo.sessions }

-- DELETE by a tag or by a digest: 202, or 404 where there is no such tag or manifest
abbrev pub plain_delete_manifest : RepoState → Reference → Outcome
plain_delete_manifest repo (by.Tag tag) =
    if map.contains_key repo.tags tag then record { reply = Deleted; repo = without_tag repo tag } else stays repo (refusal ManifestUnknown)
plain_delete_manifest repo (by.Digest digest) =
    if map.contains_key repo.manifests digest then record { reply = Deleted; repo = without_manifest repo digest } else stays repo (refusal ManifestUnknown)

-- ---- listing (OCI Distribution Specification, "Listing Tags")

-- GET of the tags: the page of at most n after `last`, or 404 where nobody has stored anything in the repository
abbrev pub plain_tags : RepoState → Option ℕ → Option (List ℕ) → Outcome
plain_tags repo n last =
    if repo.known then (let found = page repo.tags n last in stays repo (Tags found.tags found.next (unwrap_or n 0))) else stays repo (refusal NameUnknown)
