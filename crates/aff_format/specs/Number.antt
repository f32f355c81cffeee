-- Numbers in a file: document 01, 'Layout of a file' and 'Reading keys'.
use Rattle.std.specs.Prelude.{cond, List, [], ◌∷◌, ◌++◌, ℕ, zero, suc, ◌+◌, ◌-◌, ◌*◌, ◌/◌, ◌%◌, ◌^◌, ltb, ℤ, pos, negsuc, Float}
use Rattle.std.specs.Float.{binary64}
use Rattle.std.specs.Float.Ieee.{of_bits}

-- The number that goes on from acc with the bytes l.
abbrev pub be_from : ℕ → List ℕ → ℕ
be_from acc [] = acc
be_from acc (x ∷ l) = be_from (acc * 256 + x) l

-- The number whose bytes, the high one first, are l.
unfoldable pub be_of : List ℕ → ℕ
be_of l = be_from 0 l

-- The w low bytes of n, the high one first.
unfoldable pub be_bytes : ℕ → ℕ → List ℕ
be_bytes zero n = []
be_bytes (suc w) n = be_bytes w (n / 256) ++ (n % 256 ∷ [])

-- The signed number that 32 bits encode: `negsuc k` is -(k + 1).
unfoldable pub twos_complement : ℕ → ℤ
twos_complement n = cond (ltb n (2 ^ 31)) (pos n) (negsuc (4294967295 - n))

-- The double of 64 stored bits, by IEEE 754 binary64: signed zeros, subnormals and infinities exactly. The logic has one NaN, `nan`, so
-- of a NaN pattern it says that the double is a NaN, and nothing of its sign and payload (docs/DECISIONS.md, 'NaN').
abbrev pub real_of : ℕ → Float
real_of n = of_bits binary64 n
