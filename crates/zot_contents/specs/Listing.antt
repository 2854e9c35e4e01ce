-- The list of what is held, from what a shard keeps in memory.
use Rattle.std.specs.Prelude.{ℕ, List, length, map, option_map, unwrap_or}
use Rattle.std.specs.FinMap as finite
use Rattle.std.specs.List.{flat_map}
use Rattle.zot_outside.specs.Objects.{Objects}
use Rattle.zot_links.specs.Meaning.{Links, held}
use Rattle.zot_contents.specs.Shards.{Kept}
use Rattle.zot_contents.specs.declared.holding.Holding.{Holding}

-- what one repository holds under a digest: how many bytes
abbrev pub holding_of : Objects → List ℕ → List ℕ → Holding
holding_of objects digest name = record { name = name; digest = digest; size = unwrap_or (option_map length (held objects digest name)) 0 }

-- what the holders of a digest hold, in the order of their names
abbrev pub holdings_under : Objects → List ℕ → Links → List Holding
holdings_under objects digest links = map (λ e. holding_of objects digest e.0) (finite.entries links)

-- what the holders of all digests hold, in the order of the digests
abbrev pub holdings_of : Objects → Kept → List Holding
holdings_of objects kept = flat_map (λ e. holdings_under objects e.0 e.1) (finite.entries kept)

-- ---- whose sizes are listed, which doesn't depend on what the store tells

-- the digest and the repository of a holding
abbrev pub place_of : Holding → List ℕ × List ℕ
place_of holding = (holding.digest, holding.name)

-- those of the holders of a digest, in the order of their names
abbrev pub places_under : List ℕ → Links → List (List ℕ × List ℕ)
places_under digest links = map (λ e. (digest, e.0)) (finite.entries links)

-- those of the holders of all digests, in the order of the digests
abbrev pub places_of : Kept → List (List ℕ × List ℕ)
places_of kept = flat_map (λ e. places_under e.0 e.1) (finite.entries kept)
