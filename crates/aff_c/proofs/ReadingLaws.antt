-- What an answer hands back and leaves. Assumes nothing.
use mathlib.Core.Path.{◌≡◌}
use mathlib.Core.List.{List}
use Prim.Native.Nat.{ℕ}
use Rattle.aff_format.specs.Answer.{Answer}
use Rattle.aff_read.specs.Paths.{front_written}

-- An output by the answer and the text that are reported of another record that is the same.
pub front_by_lem : {a b : Answer ℕ} {s t : List ℕ} → a ≡ b → s ≡ t → (out : List ℕ) → front_written a s out ≡ front_written b t out
front_by_lem e f out = rw (e, f)
