-- The texts by which tags are kept.
use Rattle.std.specs.Prelude.{ℕ, Bool, not, ◌&&◌, if◌then◌else◌, List, Option, Some, None, IsSome}
use Rattle.std.specs.declared.ops.Bound.{Bound}
use Rattle.std.specs.declared.ops.Bound.TheVariants.{Excluded, Unbounded}
use Rattle.std.specs.FinMap as finite
use Rattle.std.specs.Str.{bytes_eq}
use Rattle.zot_digest.specs.ByteMap.{ByteMap}
use Rattle.zot_manifests.specs.Index.{ListsNamed, Sets}
use Rattle.zot_model.specs.Manifests.{is_tag_of}
use Rattle.zot_model.specs.State.{StoredTag}
use Rattle.zot_names.specs.Tag.{IsTag}

-- each text that something is kept under is a tag
abbrev pub AreTags : ByteMap StoredTag → Type 0
AreTags tags = (tag : List ℕ) → IsSome (finite.get tags tag) → IsTag tag

-- where a range begins that has what comes after a text
abbrev pub after : Option (List ℕ) → Bound (List ℕ)
after None = Unbounded
after (Some last) = Excluded last

-- each tag is listed under the digest of the manifest that it is set to
abbrev pub ListsTags : ByteMap StoredTag → Sets (List ℕ) → Type 0
ListsTags tags sets = ListsNamed (λ stored digest. bytes_eq stored.digest digest) tags sets

-- whether a tag is one of a digest's manifest, and isn't one of another digest's
abbrev pub is_moved_from : List ℕ → Option StoredTag → List ℕ → Bool
is_moved_from to found digest = not (is_tag_of to found) && is_tag_of digest found

-- what is kept of a tag, if it isn't both one of these and one of the digest's manifest
abbrev pub kept_unless : Bool → List ℕ → Option StoredTag → Option StoredTag
kept_unless is_one digest found = if is_one && is_tag_of digest found then None else found
