-- The blocks of a list, one after the other, and those of two lists joined: the whole blocks of p and then q. Assumes nothing.
use Rattle.std.proofs.Common.{◌≡◌, ℕ, ◌+◌, ◌-◌, ◌*◌, ◌/◌, ◌<◌, ◌≤◌, List, ◌++◌, length, take, drop, sym, ap, ◌∙◌, arith, length-drop, take-append-drop, length-take-le}
use lib.Seq.{take-append-le, drop-append-le, drop-append-add}
use Rattle.aff_md5.specs.passes.WholeBlocks.{whole}

-- the length of the whole blocks
length_whole : (m : List ℕ) → length (whole m) ≡ 64 * (length m / 64)
length_whole m = length-take-le (64 * (length m / 64)) m (omega arith)

-- a block below the number of p's is in the whole blocks of p, whatever q is
inside : (p q : List ℕ) (n : ℕ) → n < length p / 64 → take 64 (drop (64 * n) (whole p ++ q)) ≡ take 64 (drop (64 * n) (whole p))
inside p q n h =
    let l : 64 * n ≤ length (whole p) = rw (length_whole p) (omega arith) in
    let g : 64 ≤ length (drop (64 * n) (whole p)) = rw (length-drop, length_whole p) (omega arith) in
    rw (drop-append-le (64 * n) (whole p) q l, take-append-le 64 (drop (64 * n) (whole p)) q g)

-- so it is that block of p
pub whole_front : (p q : List ℕ) (n : ℕ) → n < length p / 64 → take 64 (drop (64 * n) p) ≡ take 64 (drop (64 * n) (whole p ++ q))
whole_front p q n h =
    let k = 64 * (length p / 64) in
    ap (λ l. take 64 (drop (64 * n) l)) (sym (take-append-drop k p)) ∙ inside p (drop k p) n h ∙ sym (inside p q n h)

-- any later block is one of q
pub whole_back : (p q : List ℕ) (n : ℕ) → length p / 64 ≤ n
    → take 64 (drop (64 * (n - length p / 64)) q) ≡ take 64 (drop (64 * n) (whole p ++ q))
whole_back p q n h =
    let s : 64 * n ≡ length (whole p) + 64 * (n - length p / 64) = rw (length_whole p) (omega arith) in
    rw (s, drop-append-add (whole p) q (64 * (n - length p / 64)))
