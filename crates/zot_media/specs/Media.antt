-- The media of manifests.
use Rattle.std.specs.Prelude.{ℕ, List, Option, Some, None, codes, if◌then◌else◌}
use Rattle.std.specs.Str.{bytes_eq}
use Rattle.zot_media.specs.declared.media.Media.{Media}
use Rattle.zot_media.specs.declared.media.Media.TheVariants.{DockerImage, DockerList, Image, Index}

-- the text of the media (OCI Image Specification 1.1, "Media Types"; Docker's image manifest, version 2, schema 2)
unfoldable pub media_text : Media → List ℕ
media_text Image = codes "application/vnd.oci.image.manifest.v1+json"
media_text Index = codes "application/vnd.oci.image.index.v1+json"
media_text DockerImage = codes "application/vnd.docker.distribution.manifest.v2+json"
media_text DockerList = codes "application/vnd.docker.distribution.manifest.list.v2+json"

-- the media of a text, or none where it is that of no accepted media
abbrev pub media_named : List ℕ → Option Media
media_named text =
    if bytes_eq text (media_text Image) then Some Image
    else (if bytes_eq text (media_text Index) then Some Index
    else (if bytes_eq text (media_text DockerImage) then Some DockerImage
    else (if bytes_eq text (media_text DockerList) then Some DockerList else None)))
