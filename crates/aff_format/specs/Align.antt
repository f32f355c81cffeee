-- Data at multiples of 8, counted from the start of the file: request C-22.
use Rattle.std.specs.Prelude.{ℕ, ◌+◌, ◌-◌, ◌%◌}

-- How many bytes there are from a place to the lowest multiple of 8 at or above it: 0 to 7.
unfoldable pub padding : ℕ → ℕ
padding n = (8 - n % 8) % 8

-- That multiple.
abbrev pub aligned : ℕ → ℕ
aligned n = n + padding n
