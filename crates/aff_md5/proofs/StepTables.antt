-- Rules of the tables of the 64 steps, each proved by one computed test over the table. Assumes nothing.
use Rattle.std.proofs.Common.{◌≡◌, ℕ, ◌<◌, Bool, true, ltb, List, length, get_or, refl}
use Rattle.std.specs.List.{list_all}
use Rattle.std.proofs.lemmas.List.Sums.{AllPass-from_list_all}
use borrow.Author.Tests.{ltb-true}
use Rattle.aff_md5.specs.Md5.{word_order, shifts}

-- a test that passes at each entry of a table passes at entry i
at : (test : ℕ → Bool) (table : List ℕ) → list_all test table ≡ true → (i : ℕ) → i < length table → test (get_or table i 0) ≡ true
at test table t i h = AllPass-from_list_all test table t i 0 h

-- a rotation is by more than 0 and less than 32 bits
pub shift_positive : (i : ℕ) → i < 64 → 0 < get_or shifts i 0
unfolding shifts
shift_positive i h = ltb-true 0 (get_or shifts i 0) (at (λ x. ltb 0 x) shifts refl i h)

pub shift_below : (i : ℕ) → i < 64 → get_or shifts i 0 < 32
unfolding shifts
shift_below i h = ltb-true (get_or shifts i 0) 32 (at (λ x. ltb x 32) shifts refl i h)

-- a block has sixteen words
pub word_below : (i : ℕ) → i < 64 → get_or word_order i 0 < 16
unfolding word_order
word_below i h = ltb-true (get_or word_order i 0) 16 (at (λ x. ltb x 16) word_order refl i h)
