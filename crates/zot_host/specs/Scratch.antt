-- Where a scratch store lies.
use Rattle.std.specs.Prelude.{ℕ, List, ◌++◌, codes}
use Rattle.std.specs.Int.{to_be_bytes, w64}
use Rattle.hex.specs.Hex.{encode_lower}

-- the folder of the scratch store with a number: below `_scratch` of the root, the number in sixteen hexadecimal digits
unfoldable pub scratch_path : List ℕ → ℕ → List ℕ
scratch_path root number = (root ++ codes "/_scratch/") ++ encode_lower (to_be_bytes w64 number)
