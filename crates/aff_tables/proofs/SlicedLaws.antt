-- The `size` bytes from `from` on, as the code cuts them out of an image: from one place to another. Assumes nothing.
use mathlib.Core.Path.{◌≡◌}
use mathlib.Core.List.{List}
use Prim.Native.Nat.{ℕ, ◌+◌, ◌-◌}
use native.Mathlib.Omega.{arith}
use Rattle.aff_format.specs.Bytes.{part}

module _ (image : List ℕ) (from size : ℕ) where
  abbrev pub sliced : List ℕ
  sliced = part from (from + size - from) image

  pub sliced_part : sliced ≡ part from size image
  sliced_part = let n : from + size - from ≡ size = omega arith in rw n
