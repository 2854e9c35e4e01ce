-- Which errors of a socket that listens pass by themselves.
use Rattle.std.specs.Prelude.{ℤ, pos, Bool, false, List, [], ◌∷◌, Option, Some, None}
use Rattle.std.specs.List.{list_any}
use Rattle.std.specs.Ordering.{int_eq}

-- the numbers of Linux for the errors of accept(2) that are none of the socket's own:
-- EINTR, EAGAIN, ENOMEM, ENFILE, EMFILE, ENONET, EPROTO, ENOPROTOOPT, EOPNOTSUPP, ENETDOWN, ENETUNREACH, ECONNABORTED, ENOBUFS, EHOSTDOWN, EHOSTUNREACH
abbrev pub passing_numbers : List ℤ
passing_numbers = pos 4 ∷ pos 11 ∷ pos 12 ∷ pos 23 ∷ pos 24 ∷ pos 64 ∷ pos 71 ∷ pos 92 ∷ pos 95 ∷ pos 100 ∷ pos 101 ∷ pos 103 ∷ pos 105 ∷ pos 112 ∷ pos 113 ∷ []

-- an error passes that has one of these numbers
abbrev pub is_passing : Option ℤ → Bool
is_passing None = false
is_passing (Some number) = list_any (λ passing. int_eq passing number) passing_numbers
