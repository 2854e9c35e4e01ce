-- The objects of a repository's image layout in a store (OCI Image Specification 1.1, "Image Layout"): each repository has a folder of its name.
use Rattle.std.specs.Prelude.{◌≡◌, ◌⊎◌, ℕ, List, ◌++◌, codes}

-- what stands behind the name in the path of a repository's marker, and of its index
unfoldable pub marker_end : List ℕ
marker_end = codes "/oci-layout"

unfoldable pub index_end : List ℕ
index_end = codes "/index.json"

-- the path of a repository's marker, and of its index
abbrev pub marker_path : List ℕ → List ℕ
marker_path name = name ++ marker_end

abbrev pub index_path : List ℕ → List ℕ
index_path name = name ++ index_end

-- a path of a repository's marker or index
abbrev pub IsPathOf : List ℕ → List ℕ → Type 0
IsPathOf name path = (path ≡ marker_path name) ⊎ (path ≡ index_path name)
