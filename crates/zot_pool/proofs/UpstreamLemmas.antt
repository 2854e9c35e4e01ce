-- An upstream that holds nothing.
use Rattle.std.proofs.Common.{◌≡◌, ℕ, List, Option, None, refl, sym, subst, ap}
use Rattle.std.specs.Prelude.{IsSome, option_map}
use Rattle.std.specs.FinMap as map
use Rattle.zot_digest.specs.ByteMap.{byte_cmp}
use Rattle.zot_media.specs.declared.kind.Kind.{Kind}
use Rattle.zot_media.specs.declared.kind.Kind.TheVariants as kinds
use Rattle.zot_media.specs.declared.reference.Reference.{Reference}
use Rattle.zot_media.specs.declared.reference.Reference.TheVariants as by
use Rattle.zot_pool.specs.Upstreams.{HasNoTagAfter, Opens, UpManifest, content_at, empty_repo, empty_state, found_at, found_under, resolved}
use Rattle.zot_pool.specs.declared.opened.Opened.TheVariants as opens
use Rattle.zot_pool.specs.declared.resolved.Resolved.TheVariants as finds

-- no reference stands for anything
pub nothing_resolved : (what : Reference) → finds.Absent ≡ resolved empty_repo what
nothing_resolved (by.Tag tag) = sym (ap (λ (d : Option (List ℕ)). found_at empty_repo d) (map.get-empty byte_cmp tag))
nothing_resolved (by.Digest digest) = sym (ap (λ (m : Option UpManifest). found_under digest m) (map.get-empty byte_cmp digest))

-- no content is there
pub nothing_there : (kind : Kind) (digest : List ℕ) → content_at empty_repo kind digest ≡ None
nothing_there kinds.Manifest digest = ap (λ (m : Option UpManifest). option_map (λ manifest. manifest.bytes) m) (map.get-empty byte_cmp digest)
nothing_there kinds.Blob digest = map.get-empty byte_cmp digest

pub nothing_opened : (number : ℕ) (kind : Kind) (digest : List ℕ) → Opens empty_state number (content_at empty_repo kind digest) opens.Absent empty_state
nothing_opened number kind digest = subst (λ o. Opens empty_state number o opens.Absent empty_state) (sym (nothing_there kind digest)) (refl, refl)

-- no tag is there
pub no_tags : (before : Option (List ℕ)) → HasNoTagAfter empty_repo before
no_tags before other there above = subst (λ (o : Option (List ℕ)). IsSome o → ⊥) (sym (map.get-empty byte_cmp other)) (λ (h : IsSome {T = List ℕ} None). cc h) there
