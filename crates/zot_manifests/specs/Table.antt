-- A repository's manifests and tags in a table, which knows what each manifest says.
use Rattle.std.specs.Prelude.{ℕ, Bool, false, List, map, Option, Some, None, option_map}
use Rattle.std.specs.FinMap as finite
use Rattle.std.specs.List.{list_any}
use Rattle.zot_digest.specs.ByteMap.{ByteMap, map_of}
use Rattle.zot_manifests.specs.declared.kept.Kept.{Kept}
use Rattle.zot_media.specs.References.{refers}
use Rattle.zot_media.specs.declared.media.Media.{Media}
use Rattle.zot_media.specs.declared.reading.Reading.{Reading}
use Rattle.zot_media.specs.declared.reference.Reference.{Reference}
use Rattle.zot_media.specs.declared.reference.Reference.TheVariants as by
use Rattle.zot_model.specs.Manifests.{after_pull, with_tag, without_tags_of}
use Rattle.zot_model.specs.State.{StoredManifest, StoredTag}

-- the manifests by their digests, and the tags
pub record Table : Type 0 where
  pub manifests : ByteMap Kept
  pub tags : ByteMap StoredTag

-- the table with no manifest
abbrev pub empty_table : Table
empty_table = record { manifests = finite.empty; tags = finite.empty }

-- whether a manifest is there and refers to a digest
abbrev pub says : Option Kept → List ℕ → Bool
says None digest = false
says (Some kept) digest = refers kept.reading digest

-- whether some manifest refers to a digest: by its config, a layer or a child
abbrev pub is_referred : ByteMap Kept → List ℕ → Bool
is_referred manifests digest = list_any (λ entry. refers entry.1.reading digest) (finite.entries manifests)

-- the digest that a reference finds: that of the tag's manifest, or the digest itself where there is such a manifest
abbrev pub found_by : Table → Reference → Option (List ℕ)
found_by table (by.Tag tag) = option_map (λ stored. stored.digest) (finite.get table.tags tag)
found_by table (by.Digest digest) = option_map (λ kept. digest) (finite.get table.manifests digest)

-- the table with a manifest that arrives at the moment, and with the tag, if there is one, set to it
abbrev pub with_manifest : ℕ → Table → List ℕ → Option (List ℕ) → Media → Reading → Table
with_manifest moment table digest tag media reading = record {
  manifests = finite.insert table.manifests digest (record { media = media; arrived = moment; reading = reading });
  tags = with_tag moment table.tags tag digest;
}

-- a map in which what was there before is under a key again
abbrev pub put_back : {X : Type 0} → ByteMap X → List ℕ → Option X → ByteMap X
put_back map key None = finite.remove map key
put_back map key (Some before) = finite.insert map key before

-- the tags in which what was there before is under a text again, where there is one
abbrev pub tag_back : ByteMap StoredTag → Option (List ℕ) → Option StoredTag → ByteMap StoredTag
tag_back tags None before = tags
tag_back tags (Some tag) before = put_back tags tag before

-- the table in which what was there before is under a digest and a tag again
abbrev pub taken_back : Table → List ℕ → Option Kept → Option (List ℕ) → Option StoredTag → Table
taken_back table digest manifest tag entry = record { manifests = put_back table.manifests digest manifest; tags = tag_back table.tags tag entry }

-- what is kept of a tag, where one is given
abbrev pub tag_before : ByteMap StoredTag → Option (List ℕ) → Option StoredTag
tag_before tags None = None
tag_before tags (Some tag) = finite.get tags tag

-- the table after a pull by a reference
abbrev pub pulled : ℕ → Table → Reference → Table
pulled moment table reference = record { manifests = table.manifests; tags = after_pull moment table.tags reference }

-- the table without a tag, and without a manifest and its tags
abbrev pub without_tag : Table → List ℕ → Table
without_tag table tag = record { manifests = table.manifests; tags = finite.remove table.tags tag }

abbrev pub without_manifest : Table → List ℕ → Table
without_manifest table digest = record { manifests = finite.remove table.manifests digest; tags = without_tags_of table.tags digest }

-- ---- what the plain registry has of them

-- a manifest without what it says
abbrev pub plain_manifest : Kept → StoredManifest
plain_manifest kept = record { media = kept.media; arrived = kept.arrived }

-- the manifests without what they say
abbrev pub plain_manifests : ByteMap Kept → ByteMap StoredManifest
plain_manifests manifests = map_of (map (λ entry. (entry.0, plain_manifest entry.1)) (finite.entries manifests))
