-- How often a number occurs in a list: for the theorem that listing order has each node exactly once (proofs/OnceLaws).
use Rattle.std.specs.Prelude.{cond, List, [], ◌∷◌, ℕ, ◌+◌, eqb}

-- 1 where k is x, else 0.
unfoldable pub hit : ℕ → ℕ → ℕ
hit k x = cond (eqb k x) 1 0

unfoldable pub occurrences : ℕ → List ℕ → ℕ
occurrences k [] = 0
occurrences k (x ∷ l) = hit k x + occurrences k l
