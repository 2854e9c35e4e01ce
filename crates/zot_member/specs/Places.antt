-- Where a request that came to a member is answered.
use Rattle.std.specs.Prelude.{ℕ, ◌==◌, Bool, true, false, List, Option, Some, None, if◌then◌else◌}
use Rattle.zot_repo.specs.declared.row_config.RowConfig.{RowConfig}
use Rattle.zot_model.specs.declared.request.Request.{Request}
use Rattle.zot_siphash.specs.Owners as owners
use Rattle.zot_siphash.specs.SipHash.{siphash}
use Rattle.zot_member.specs.declared.place.Place.{Place}
use Rattle.zot_member.specs.declared.place.Place.TheVariants as places

-- the member that owns the repository of a name
abbrev pub owner_by : RowConfig → List ℕ → ℕ
owner_by config name = owners.owner (siphash config.key name) config.members

-- where a request on a repository of this owner is answered, by the number of the member that it came to, and whether it was handed on already
abbrev pub place_of : ℕ → ℕ → Bool → Place
place_of owner number hop = if owner == number then places.Own else (if hop then places.Refused else places.Foreign owner)

-- where a request on the repository of a name is answered, or one on none
abbrev pub place_named : RowConfig → ℕ → Option (List ℕ) → Bool → Place
place_named config number None hop = places.Base
place_named config number (Some name) hop = place_of (owner_by config name) number hop

-- where a request is answered that came to the member with this number
abbrev pub place_by : RowConfig → ℕ → Request → Place
place_by config number request = place_named config number request.name request.hop

-- whether another member is to be asked
abbrev pub is_foreign : Place → Bool
is_foreign places.Base = false
is_foreign places.Own = false
is_foreign places.Refused = false
is_foreign (places.Foreign owner) = true
