-- MD5, in the order of RFC 1321. A word is a number below 2 ^ 32, a byte one below 256. Steps, rounds and blocks are counted from 0.
use Rattle.std.specs.Prelude.{ℕ, zero, suc, ◌+◌, ◌-◌, ◌*◌, ◌/◌, ◌%◌, ◌^◌, List, [], ◌∷◌, ◌++◌, length, take, drop, replicate, bit_and, bit_or, bit_xor, slice_index}
use Rattle.aff_md5.specs.declared.State.{State}

-- ---- Section 2: the sum of two words, the complement of a word, and a word rotated left by s bits.
abbrev pub add : ℕ → ℕ → ℕ
add x y = (x + y) % 2 ^ 32

abbrev pub inv : ℕ → ℕ
inv x = 2 ^ 32 - 1 - x

abbrev pub rotl : ℕ → ℕ → ℕ
rotl x s = bit_or (x * 2 ^ s % 2 ^ 32) (x / 2 ^ (32 - s))

-- The n low bytes of x, the low byte first.
unfoldable pub le : ℕ → ℕ → List ℕ
le zero x = []
le (suc n) x = x % 256 ∷ le n (x / 256)

-- ---- Sections 3.1 and 3.2: one bit 1, zeros up to 56 modulo 64 bytes, then the length in bits modulo 2 ^ 64, its low byte first.
abbrev pub zeros : ℕ → ℕ
zeros n = (119 - n % 64) % 64

unfoldable pub padding : ℕ → ℕ → List ℕ
padding n bits = 128 ∷ (replicate (zeros n) 0 ++ le 8 bits)

unfoldable pub pad : List ℕ → ℕ → List ℕ
pad m bits = m ++ padding (length m) bits

-- ---- Section 3.3: the words A, B, C and D at the start.
abbrev pub start : State
start = record { a = 0x67452301; b = 0xefcdab89; c = 0x98badcfe; d = 0x10325476 }

-- ---- Section 3.4: the four functions, and the one of a round.
abbrev pub f_f : ℕ → ℕ → ℕ → ℕ
f_f x y z = bit_or (bit_and x y) (bit_and (inv x) z)

abbrev pub f_g : ℕ → ℕ → ℕ → ℕ
f_g x y z = bit_or (bit_and x z) (bit_and y (inv z))

abbrev pub f_h : ℕ → ℕ → ℕ → ℕ
f_h x y z = bit_xor (bit_xor x y) z

abbrev pub f_i : ℕ → ℕ → ℕ → ℕ
f_i x y z = bit_xor y (bit_or x (inv z))

abbrev pub mix : ℕ → ℕ → ℕ → ℕ → ℕ
mix zero = f_f
mix (suc zero) = f_g
mix (suc (suc zero)) = f_h
mix (suc (suc (suc r))) = f_i

-- The word k, the shift s and the constant T[i] of each of the 64 steps [abcd k s i], in the order in which the RFC lists them.
unfoldable pub word_order : List ℕ
word_order =
    0 ∷ 1 ∷ 2 ∷ 3 ∷ 4 ∷ 5 ∷ 6 ∷ 7 ∷ 8 ∷ 9 ∷ 10 ∷ 11 ∷ 12 ∷ 13 ∷ 14 ∷ 15 ∷
    1 ∷ 6 ∷ 11 ∷ 0 ∷ 5 ∷ 10 ∷ 15 ∷ 4 ∷ 9 ∷ 14 ∷ 3 ∷ 8 ∷ 13 ∷ 2 ∷ 7 ∷ 12 ∷
    5 ∷ 8 ∷ 11 ∷ 14 ∷ 1 ∷ 4 ∷ 7 ∷ 10 ∷ 13 ∷ 0 ∷ 3 ∷ 6 ∷ 9 ∷ 12 ∷ 15 ∷ 2 ∷
    0 ∷ 7 ∷ 14 ∷ 5 ∷ 12 ∷ 3 ∷ 10 ∷ 1 ∷ 8 ∷ 15 ∷ 6 ∷ 13 ∷ 4 ∷ 11 ∷ 2 ∷ 9 ∷ []

unfoldable pub shifts : List ℕ
shifts =
    7 ∷ 12 ∷ 17 ∷ 22 ∷ 7 ∷ 12 ∷ 17 ∷ 22 ∷ 7 ∷ 12 ∷ 17 ∷ 22 ∷ 7 ∷ 12 ∷ 17 ∷ 22 ∷
    5 ∷ 9 ∷ 14 ∷ 20 ∷ 5 ∷ 9 ∷ 14 ∷ 20 ∷ 5 ∷ 9 ∷ 14 ∷ 20 ∷ 5 ∷ 9 ∷ 14 ∷ 20 ∷
    4 ∷ 11 ∷ 16 ∷ 23 ∷ 4 ∷ 11 ∷ 16 ∷ 23 ∷ 4 ∷ 11 ∷ 16 ∷ 23 ∷ 4 ∷ 11 ∷ 16 ∷ 23 ∷
    6 ∷ 10 ∷ 15 ∷ 21 ∷ 6 ∷ 10 ∷ 15 ∷ 21 ∷ 6 ∷ 10 ∷ 15 ∷ 21 ∷ 6 ∷ 10 ∷ 15 ∷ 21 ∷ []

unfoldable pub additive : List ℕ
additive =
    3614090360 ∷ 3905402710 ∷ 606105819 ∷ 3250441966 ∷
    4118548399 ∷ 1200080426 ∷ 2821735955 ∷ 4249261313 ∷
    1770035416 ∷ 2336552879 ∷ 4294925233 ∷ 2304563134 ∷
    1804603682 ∷ 4254626195 ∷ 2792965006 ∷ 1236535329 ∷
    4129170786 ∷ 3225465664 ∷ 643717713 ∷ 3921069994 ∷
    3593408605 ∷ 38016083 ∷ 3634488961 ∷ 3889429448 ∷
    568446438 ∷ 3275163606 ∷ 4107603335 ∷ 1163531501 ∷
    2850285829 ∷ 4243563512 ∷ 1735328473 ∷ 2368359562 ∷
    4294588738 ∷ 2272392833 ∷ 1839030562 ∷ 4259657740 ∷
    2763975236 ∷ 1272893353 ∷ 4139469664 ∷ 3200236656 ∷
    681279174 ∷ 3936430074 ∷ 3572445317 ∷ 76029189 ∷
    3654602809 ∷ 3873151461 ∷ 530742520 ∷ 3299628645 ∷
    4096336452 ∷ 1126891415 ∷ 2878612391 ∷ 4237533241 ∷
    1700485571 ∷ 2399980690 ∷ 4293915773 ∷ 2240044497 ∷
    1873313359 ∷ 4264355552 ∷ 2734768916 ∷ 1309151649 ∷
    4149444226 ∷ 3174756917 ∷ 718787259 ∷ 3951481745 ∷ []

-- X[k]: word k of a block, the low byte first.
abbrev pub word : List ℕ → ℕ → ℕ
word m k = slice_index m (4 * k) + slice_index m (4 * k + 1) * 256 + slice_index m (4 * k + 2) * 65536 + slice_index m (4 * k + 3) * 16777216

-- a = b + ((a + f + x + t) <<< s). The RFC's next step names the words d a b c, so the words move on by one place.
unfoldable pub turn : State → ℕ → ℕ → ℕ → ℕ → State
turn v f x s t = record { a = v.d; b = add v.b (rotl (add (add (add v.a f) x) t) s); c = v.b; d = v.c }

-- Step i of the 64 steps on a block m.
unfoldable pub step : List ℕ → ℕ → State → State
step m i v =
    turn v (mix (i / 16) v.b v.c v.d) (word m (slice_index word_order i)) (slice_index shifts i) (slice_index additive i)

-- After the first n steps on a block m.
unfoldable pub steps : List ℕ → State → ℕ → State
steps m v zero = v
steps m v (suc n) = step m n (steps m v n)

abbrev pub sum : State → State → State
sum u v = record { a = add u.a v.a; b = add u.b v.b; c = add u.c v.c; d = add u.d v.d }

-- After a block m: what the 64 steps make of v is added to v.
unfoldable pub compress : State → List ℕ → State
compress v m = sum v (steps m v 64)

-- From v on, after the first n blocks of m; and after all of them.
unfoldable pub blocks : State → List ℕ → ℕ → State
blocks v m zero = v
blocks v m (suc n) = compress (blocks v m n) (take 64 (drop (64 * n) m))

abbrev pub all_blocks : State → List ℕ → State
all_blocks v m = blocks v m (length m / 64)

-- ---- Section 3.5: A, B, C and D, the low byte of each first.
unfoldable pub output : State → List ℕ
output v = le 4 v.a ++ le 4 v.b ++ le 4 v.c ++ le 4 v.d

-- The digest of a message.
unfoldable pub md5 : List ℕ → List ℕ
md5 m = output (all_blocks start (pad m (length m * 8 % 2 ^ 64)))
