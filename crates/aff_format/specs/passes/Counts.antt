-- What loops over the bytes of a path or of strings count.
use Rattle.std.specs.Prelude.{cond, List, [], ◌∷◌, ℕ, ◌+◌, eqb}

-- How many bytes are before the first slash.
unfoldable pub until_slash : List ℕ → ℕ
until_slash [] = 0
until_slash (x ∷ l) = cond (eqb x 47) 0 (until_slash l + 1)

-- How many bytes are zero.
unfoldable pub zeros_in : List ℕ → ℕ
zeros_in [] = 0
zeros_in (x ∷ l) = cond (eqb x 0) (zeros_in l + 1) (zeros_in l)
