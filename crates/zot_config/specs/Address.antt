-- A member's address `host:port`, on lists of bytes.
use Rattle.std.specs.Prelude.{ℕ, ◌==◌, ◌&&◌, ◌||◌, nat_lt, nat_le, Bool, List, length}
use Rattle.std.specs.Char.{is_ascii_digit}
use Rattle.std.specs.List.{after_first, before_first, list_all}
use Rattle.std.specs.Str.Parse.{digits_value}

-- an ASCII letter, a digit, `.` or `-`
abbrev pub is_host_byte : ℕ → Bool
is_host_byte c = (nat_le 97 c && nat_le c 122) || ((nat_le 65 c && nat_le c 90) || ((nat_le 48 c && nat_le c 57) || ((c == 46) || (c == 45))))

-- one or more of these
unfoldable pub is_host : List ℕ → Bool
is_host host = nat_lt 0 (length host) && list_all is_host_byte host

-- one or more digits that write a number from 1 to 65,535
unfoldable pub writes_port : List ℕ → Bool
writes_port digits = nat_lt 0 (length digits) && (nat_lt 0 (digits_value 10 digits) && nat_lt (digits_value 10 digits) 65536)

-- 1 to 5 decimal digits of such a number
unfoldable pub is_port : List ℕ → Bool
is_port port = nat_le (length port) 5 && (list_all is_ascii_digit port && writes_port port)

-- a colon
abbrev pub is_colon : ℕ → Bool
is_colon c = c == 58

-- a host before the first colon, and a port after it
unfoldable pub is_address : List ℕ → Bool
is_address text = is_host (before_first is_colon text) && is_port (after_first is_colon text)
