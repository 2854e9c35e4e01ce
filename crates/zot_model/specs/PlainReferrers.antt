-- What a plain registry answers to a request for the referrers of a digest.
use Rattle.std.specs.Prelude.{ℕ, List, length, map, is_some, Option, option_map, unwrap_or}
use Rattle.std.specs.FinMap as finite
use Rattle.zot_media.specs.Referrers.{Pushed, referrers_text}
use Rattle.zot_model.specs.declared.reply.Reply.TheVariants.{Referrers}
use Rattle.zot_model.specs.Manifests.{reading_at}
use Rattle.zot_model.specs.Outcomes.{Outcome, stays}
use Rattle.zot_model.specs.State.{RepoState}

-- how many bytes the blob of a digest has, where there is one
abbrev pub size_at : RepoState → List ℕ → Option ℕ
size_at repo digest = option_map (λ stored. length stored.bytes) (finite.get repo.blobs digest)

-- the manifests of a repository, in the order of their digests; one whose bytes aren't there has the size 0, and says nothing
abbrev pub pushed_in : RepoState → List Pushed
pushed_in repo = map (λ entry. record { digest = entry.0; size = unwrap_or (size_at repo entry.0) 0; media = entry.1.media; reading = reading_at repo entry.0 entry.1 }) (finite.entries repo.manifests)

-- GET of the referrers of a digest: their list, also an empty one, and whether it was filtered (OCI Distribution Specification, "Listing Referrers")
abbrev pub plain_referrers : RepoState → List ℕ → Option (List ℕ) → Outcome
plain_referrers repo digest filter = stays repo (Referrers (referrers_text (pushed_in repo) digest filter) (is_some filter))
