-- Tags (OCI Distribution Specification 1.1, "Pulling manifests"), on lists of bytes.
use Rattle.std.specs.Prelude.{◌≡◌, ℕ, ◌≤◌, ◌&&◌, ◌||◌, nat_le, ◌==◌, Bool, true, List, ◌∷◌, length}
use Rattle.std.specs.List.{AllPass}

-- a letter, a digit or `_`
abbrev pub is_word_byte : ℕ → Bool
is_word_byte c = (nat_le 97 c && nat_le c 122) || ((nat_le 65 c && nat_le c 90) || ((nat_le 48 c && nat_le c 57) || (c == 95)))

-- one of these, `.` or `-`
abbrev pub is_tag_byte : ℕ → Bool
is_tag_byte c = is_word_byte c || ((c == 46) || (c == 45))

-- a tag: a letter, a digit or `_`, and after it at most 127 of these, `.` and `-`
pub record IsTag (text : List ℕ) : Type 0 where
  pub first : ℕ
  pub more : List ℕ
  pub spelled : text ≡ first ∷ more
  pub begins : is_word_byte first ≡ true
  pub bytes : AllPass is_tag_byte more
  pub short : length more ≤ 127
