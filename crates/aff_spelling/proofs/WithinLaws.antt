-- Lengths within a limit. Assumes nothing.
use mathlib.Core.Path.{◌≡◌, refl, sym, ◌∙◌}
use mathlib.Core.Bool.{Bool, true, false, cond}
use Prim.Native.Nat.{ℕ, ◌+◌, ◌-◌, ◌≤◌, ◌<◌}
use native.Mathlib.Omega.{arith}
use lib.Dec.{leb}
use borrow.Author.Tests.{leb-true, leb-false, le-leb, lt-leb}
use Rattle.std.specs.Prelude.{Option, Some, None}
use Rattle.aff_spelling.specs.Within.{within}

pub within_some : (limit n : ℕ) → n ≤ limit → Some n ≡ within limit n
within_some limit n h = rw (le-leb n limit h)

pub within_none : (limit n : ℕ) → limit < n → None ≡ within limit n
within_none limit n h = rw (lt-leb n limit h)

-- What the answer says of the length.
pub within_past : (limit n : ℕ) → None ≡ within limit n → limit < n
within_past limit n e = go (leb n limit) refl e
  where
    go : (b : Bool) → leb n limit ≡ b → None ≡ cond b (Some n) None → limit < n
    go true l h = cc
    go false l h = leb-false n limit l

pub within_exact : (limit n : ℕ) {r : ℕ} → Some r ≡ within limit n → (r ≡ n) × (n ≤ limit)
within_exact limit n {r} e = go (leb n limit) refl e
  where
    go : (b : Bool) → leb n limit ≡ b → Some r ≡ cond b (Some n) None → (r ≡ n) × (n ≤ limit)
    go true l h = (cc, leb-true n limit l)
    go false l h = cc
