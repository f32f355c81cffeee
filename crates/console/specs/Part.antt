-- What a failed write and a failed read leave.
use Rattle.std.specs.Prelude.{List, ℕ, ◌<◌, ◌≤◌, length, take}
use Rattle.std.specs.declared.option.Option.{Option}
use Rattle.std.specs.Io.KnownBytes.{Appends, Consumes}

-- A text has been written in part: known bytes grow by its first n bytes, fewer than all of them, and by nothing else.
abbrev pub AppendsPart : Option (List ℕ) → Option (List ℕ) → List ℕ → Type 0
AppendsPart old new text = (n : ℕ) × (n < length text) × Appends old new (take n text)

-- A read has failed in an area: known bytes have lost the first n bytes of it, and nothing else.
abbrev pub ConsumesPart : Option (List ℕ) → Option (List ℕ) → List ℕ → Type 0
ConsumesPart old new area = (n : ℕ) × (n ≤ length area) × Consumes old new (take n area)

-- Known bytes have lost some bytes from their front, at most so many, and nothing else.
abbrev pub ConsumesAtMost : Option (List ℕ) → Option (List ℕ) → ℕ → Type 0
ConsumesAtMost old new most = (bs : List ℕ) × (length bs ≤ most) × Consumes old new bs
