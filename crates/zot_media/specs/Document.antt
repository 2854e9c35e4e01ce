-- The media that a manifest's bytes name, by the value that `serde_json` reads in them (OCI Image Specification 1.1, "Image Manifest", the field `mediaType`).
use Rattle.std.specs.Prelude.{ℕ, List, Option, codes}
use Rattle.zot_media.specs.declared.media.Media.{Media}
use Rattle.zot_media.specs.Fields.{◌>>=◌, document, text_of}
use Rattle.zot_media.specs.Media.{media_named}

-- the media whose text is the field `mediaType` of the object that the bytes are, if they are one that has it
unfoldable pub media_in : List ℕ → Option Media
media_in bytes = document bytes >>= text_of (codes "mediaType") >>= media_named
