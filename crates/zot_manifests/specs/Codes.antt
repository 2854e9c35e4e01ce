-- Tables are coded as their parts.
use Rattle.std.specs.Prelude.{ℕ, Bool, List, Option, refl}
use Rattle.std.specs.Coded.{Coded, code_by, coded×, coded_bool, coded_list, coded_option, coded_ℕ}
use Rattle.std.specs.FinMap as finite
use Rattle.zot_digest.specs.ByteMap.{ByteMap}
use Rattle.zot_manifests.specs.Table.{Table}
use Rattle.zot_manifests.specs.declared.kept.Kept.{Kept}
use Rattle.zot_media.specs.declared.annotation.Annotation.{Annotation}
use Rattle.zot_media.specs.declared.descriptor.Descriptor.{Descriptor}
use Rattle.zot_media.specs.declared.media.Media.{Media}
use Rattle.zot_media.specs.declared.reading.Reading.{Reading}
use Rattle.zot_model.specs.State.{StoredTag, media_code, tag_code}

-- a list of bytes
abbrev pub bytes_code : Coded (List ℕ)
bytes_code = coded_list coded_ℕ

abbrev pub descriptor_code : Coded Descriptor
descriptor_code = code_by (List ℕ × (List ℕ × (ℕ × Bool))) (coded× bytes_code (coded× bytes_code (coded× coded_ℕ coded_bool)))
    (λ d. (d.media, (d.digest, (d.size, d.external)))) (λ p. record { media = p.0; digest = p.1.0; size = p.1.1.0; external = p.1.1.1 }) (λ _. refl)

abbrev pub annotation_code : Coded Annotation
annotation_code = code_by (List ℕ × List ℕ) (coded× bytes_code bytes_code) (λ a. (a.key, a.text)) (λ p. record { key = p.0; text = p.1 }) (λ _. refl)

abbrev pub reading_code : Coded Reading
reading_code = code_by (List Descriptor × (List Descriptor × (Option Descriptor × (Option (List ℕ) × List Annotation))))
    (coded× (coded_list descriptor_code) (coded× (coded_list descriptor_code) (coded× (coded_option descriptor_code) (coded× (coded_option bytes_code) (coded_list annotation_code)))))
    (λ r. (r.references, (r.children, (r.subject, (r.artifact, r.annotations)))))
    (λ p. record { references = p.0; children = p.1.0; subject = p.1.1.0; artifact = p.1.1.1.0; annotations = p.1.1.1.1 }) (λ _. refl)

abbrev pub kept_code : Coded Kept
kept_code = code_by (Media × (ℕ × Reading)) (coded× media_code (coded× coded_ℕ reading_code)) (λ k. (k.media, (k.arrived, k.reading))) (λ p. record { media = p.0; arrived = p.1.0; reading = p.1.1 }) (λ _. refl)

abbrev pub manifests_code : Coded (ByteMap Kept)
manifests_code = finite.code bytes_code kept_code

abbrev pub tags_code : Coded (ByteMap StoredTag)
tags_code = finite.code bytes_code tag_code

abbrev pub table_code : Coded Table
table_code = code_by (ByteMap Kept × ByteMap StoredTag) (coded× manifests_code tags_code) (λ t. (t.manifests, t.tags)) (λ p. record { manifests = p.0; tags = p.1 }) (λ _. refl)
