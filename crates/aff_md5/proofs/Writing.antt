-- The bytes of a number, the low byte first, and a list written over a part of another. Assumes nothing.
use Rattle.std.proofs.Common.{◌≡◌, ℕ, zero, suc, ◌+◌, ◌/◌, ◌≤◌, List, ◌++◌, length, take, drop, refl, ap, append_assoc, arith, length-append, length-take}
use Rattle.std.specs.Int.{w32, w64, to_le_bytes}
use lib.Seq.{take_at}
use native.Mathlib.Nat.{div-div-eq-div-mul}
use Rattle.aff_md5.specs.Md5.{le}

pub le_length : (n x : ℕ) → length (le n x) ≡ n
unfolding le
le_length zero x = refl
le_length (suc n) x = ap suc (le_length n (x / 256))

-- std's bytes of a number of four, and of eight
pub le_bytes_four : (x : ℕ) → to_le_bytes w32 x ≡ le 4 x
unfolding le
le_bytes_four x = simp div-div-eq-div-mul

pub le_bytes_eight : (x : ℕ) → to_le_bytes w64 x ≡ le 8 x
unfolding le
le_bytes_eight x = simp div-div-eq-div-mul

-- the front of a list that is written over in the middle
pub put_front : (at n : ℕ) (s b p : List ℕ) → at + length s ≤ length b → length s ≡ n → p ≡ take at b ++ (s ++ drop (at + length s) b)
    → take (at + n) p ≡ take at b ++ s
put_front at n s b p h l e =
    let m : length (take at b ++ s) ≡ at + n = simp (length-append, length-take) (omega arith) in
    rw (e, ← append_assoc (take at b) s (drop (at + length s) b)) (take_at (take at b ++ s) (drop (at + length s) b) (at + n) m)
