-- The number that holds a fit, or none yet, in the table of a lookup.
use Rattle.std.specs.Prelude.{◌≡◌, refl, ℕ, zero, suc, Option, Some, None}

-- 0 where none is stored, 1 for None, n + 2 for Some n.
abbrev pub settled_by : ℕ → Option (Option ℕ)
settled_by zero = None
settled_by (suc zero) = Some None
settled_by (suc (suc n)) = Some (Some n)

abbrev pub number_of : Option (Option ℕ) → ℕ
number_of None = 0
number_of (Some None) = 1
number_of (Some (Some n)) = suc (suc n)

pub number_back : (k : ℕ) → number_of (settled_by k) ≡ k
number_back zero = refl
number_back (suc zero) = refl
number_back (suc (suc n)) = refl
