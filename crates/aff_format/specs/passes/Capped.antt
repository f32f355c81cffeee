-- A length that stops counting at a limit. The passes that measure a path return an `Option` instead, by `within` (`aff_spelling`).
use Rattle.std.specs.Prelude.{cond, ℕ, ◌+◌, leb}

-- The length n, or one more than the limit where n is above it.
abbrev pub capped : ℕ → ℕ → ℕ
capped limit n = cond (leb n limit) n (limit + 1)
