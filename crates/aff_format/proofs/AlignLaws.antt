-- The lowest multiple of 8 at or above a place. Each law by arithmetic. Assumes nothing.
use mathlib.Core.Path.{◌≡◌}
use Prim.Native.Nat.{ℕ, ◌+◌, ◌%◌, ◌≤◌, ◌<◌}
use native.Mathlib.Omega.{arith}
use Rattle.aff_format.specs.Align.{padding, aligned}

pub aligned_multiple : (n : ℕ) → aligned n % 8 ≡ 0
unfolding padding
aligned_multiple n = omega arith

pub aligned_above : (n : ℕ) → n ≤ aligned n
aligned_above n = omega arith

pub aligned_lowest : (n m : ℕ) → n ≤ m → m % 8 ≡ 0 → aligned n ≤ m
unfolding padding
aligned_lowest n m h e = omega arith

pub padding_few : (n : ℕ) → padding n < 8
unfolding padding
padding_few n = omega arith

pub aligned_near : (n : ℕ) → aligned n < n + 8
aligned_near n = omega (arith, padding_few n)

-- A multiple of 8 is its own.
pub padding_none : (n : ℕ) → n % 8 ≡ 0 → padding n ≡ 0
unfolding padding
padding_none n h = omega arith

pub aligned_same : (n : ℕ) → n % 8 ≡ 0 → aligned n ≡ n
aligned_same n h = omega (arith, padding_none n h)

-- The padding after l bytes is the same at every multiple of 8 where they begin.
pub padding_shift : (a l : ℕ) → a % 8 ≡ 0 → padding (a + l) ≡ padding l
unfolding padding
padding_shift a l h = let e : (a + l) % 8 ≡ l % 8 = omega arith in rw e

pub aligned_shift : (a l : ℕ) → a % 8 ≡ 0 → aligned (a + l) ≡ a + aligned l
aligned_shift a l h = omega (arith, padding_shift a l h)

-- Lengths that agree modulo 8 need the same padding after them, and only those.
pub padding_agrees : (l m : ℕ) → l % 8 ≡ m % 8 → padding l ≡ padding m
unfolding padding
padding_agrees l m h = rw h

pub agrees_padding : (l m : ℕ) → padding l ≡ padding m → l % 8 ≡ m % 8
unfolding padding
agrees_padding l m h = omega arith

-- Places before the same multiple of 8 differ by at most 7.
pub next_near : (n m : ℕ) → aligned n ≡ aligned m → n ≤ m + 7
next_near n m h = omega (arith, aligned_near m)
