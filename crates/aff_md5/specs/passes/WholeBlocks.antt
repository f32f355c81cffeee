-- The whole blocks of a list of bytes.
use Rattle.std.specs.Prelude.{ℕ, ◌*◌, ◌/◌, List, length, take}

-- The bytes of m that are in whole blocks: all but the last length m % 64.
abbrev pub whole : List ℕ → List ℕ
whole m = take (64 * (length m / 64)) m
