-- A clock that tells its moment, call after call.
use Rattle.std.proofs.Common.{ℕ, Option, Some, None, refl, subst}
use Rattle.zot_outside.specs.Moments.{IsAt, StaysAt}

pub stays_itself : (told : Option ℕ) → StaysAt told told
stays_itself None = tt
stays_itself (Some moment) = refl

pub stays_through : (told mid later : Option ℕ) → StaysAt told mid → StaysAt mid later → StaysAt told later
stays_through None mid later h k = tt
stays_through (Some moment) mid later h k = subst (λ t. StaysAt t later) h k

-- a moment of the clock later on is one of the clock now
pub at_before : (told later : Option ℕ) (moment : ℕ) → StaysAt told later → IsAt later moment → IsAt told moment
at_before None later moment h k = tt
at_before (Some m) later moment h k = subst (λ t. IsAt t moment) h k
