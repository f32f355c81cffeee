-- A length where it is within a limit: what the passes that measure a name or a path return.
use Rattle.std.specs.Prelude.{cond, Option, Some, None, ℕ, leb}

-- The length n, or nothing where it is above the limit.
abbrev pub within : ℕ → ℕ → Option ℕ
within limit n = cond (leb n limit) (Some n) None
