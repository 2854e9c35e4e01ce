-- What manifests lack, by a test of digests: the code asks a set of digests. The contract for other crates says `findings`.
use Rattle.std.specs.Prelude.{ℕ, Bool, not, List, [], ◌∷◌, map, if◌then◌else◌}
use Rattle.std.specs.List.{filter}
use Rattle.zot_media.specs.References.{needed}
use Rattle.zot_model.specs.Findings.{in_order}
use Rattle.zot_model.specs.declared.finding.Finding.{Finding}
use Rattle.zot_model.specs.declared.finding.Finding.TheVariants.{Missing}
use Rattle.zot_model.specs.declared.manifest_row.ManifestRow.{ManifestRow}

-- of what a manifest needs, the digests that fail the test, in their order
abbrev pub lacking : (List ℕ → Bool) → ManifestRow → List (List ℕ)
lacking is_there row = filter (λ digest. not (is_there digest)) (needed row.reading)

-- what a manifest lacks: its own bytes, or of what it needs what isn't there
abbrev pub missing_by : (List ℕ → Bool) → ManifestRow → List Finding
missing_by is_there row =
    if is_there row.digest
    then map (λ digest. Missing row.digest digest) (in_order (lacking is_there row))
    else Missing row.digest row.digest ∷ []
