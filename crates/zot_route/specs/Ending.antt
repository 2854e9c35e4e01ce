-- What a reader makes of a path's last segments. The contracts for other crates say `IsPath`.
use Rattle.std.specs.Prelude.{ℕ, ◌&&◌, if◌then◌else◌, List, [], ◌∷◌, Option, Some, None, codes, reverse}
use Rattle.std.specs.Str.{bytes_eq}
use Rattle.zot_route.specs.declared.form.Form.{Form}
use Rattle.zot_route.specs.declared.form.Form.TheVariants as forms

-- a path's form, the segments of its name, and the text of its last segment
abbrev pub Read : Type 0
Read = Form × List (List ℕ) × List ℕ

-- the forms whose last two segments these are, after the segments of a name
unfoldable pub ends_in_two : List (List ℕ) → List ℕ → List ℕ → Option Read
ends_in_two name kind text =
    if bytes_eq kind (codes "manifests") then Some (forms.Manifest, name, text)
    else if bytes_eq kind (codes "referrers") then Some (forms.Referrers, name, text)
    else if bytes_eq kind (codes "blobs") then (if bytes_eq text (codes "uploads") then Some (forms.Uploads, name, []) else Some (forms.Blob, name, text))
    else if bytes_eq kind (codes "tags") && bytes_eq text (codes "list") then Some (forms.Tags, name, [])
    else None

-- the forms of an upload, whose last three segments these are
unfoldable pub ends_in_three : List (List ℕ) → List ℕ → List ℕ → List ℕ → Option Read
ends_in_three name kind middle text =
    if bytes_eq kind (codes "blobs") && bytes_eq middle (codes "uploads") then (if bytes_eq text [] then Some (forms.Uploads, name, []) else Some (forms.Upload, name, text))
    else None

-- where the last two segments are those of no form, the last three may be
abbrev pub or_three : Option Read → List (List ℕ) → List ℕ → List ℕ → Option Read
or_three (Some read) more middle text = Some read
or_three None [] middle text = None
or_three None (kind ∷ more) middle text = ends_in_three (reverse more) kind middle text

-- what the segments after `/v2/` are read as, the last one first
abbrev pub read_back : List (List ℕ) → Option Read
read_back [] = Some (forms.Base, [], [])
read_back (text ∷ []) = if bytes_eq text [] then Some (forms.Base, [], []) else None
read_back (text ∷ kind ∷ more) = or_three (ends_in_two (reverse more) kind text) more kind text
