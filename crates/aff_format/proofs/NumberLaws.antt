-- Big-endian numbers: reading and writing undo each other, and a number is read byte by byte or part by part. Assumes nothing.
use mathlib.Core.Path.{◌≡◌, refl, sym, ap, ◌∙◌, subst}
use mathlib.Core.List.{List, [], ◌∷◌, ◌++◌, append_assoc, append-nil}
use Prim.Native.Nat.{ℕ, zero, suc, ◌+◌, ◌-◌, ◌*◌, ◌/◌, ◌%◌, ◌^◌, ◌≤◌, ◌<◌}
use native.Mathlib.Nat.{div-add-mod', pow-suc, pow-zero, mul_assoc}
use native.Mathlib.Numerals.{sub-one}
use native.Mathlib.Omega.{arith}
use lib.ListN.{length, get_or, set, take, length-append}
use lib.Seq.{take-suc, take-length}
use Rattle.aff_format.specs.Bytes.{Octets, part, spliced}
use Rattle.aff_format.specs.Number.{be_from, be_of, be_bytes}
use Rattle.aff_format.proofs.BytesLaws.{length_part, part_add, octets_part, spliced_nil, spliced_set}

be_from_snoc : (acc : ℕ) (l : List ℕ) (x : ℕ) → be_from acc (l ++ (x ∷ [])) ≡ be_from acc l * 256 + x
be_from_snoc acc [] x = refl
be_from_snoc acc (y ∷ l) x = be_from_snoc (acc * 256 + y) l x

-- One byte more at the low end.
pub be_of_snoc : (l : List ℕ) (x : ℕ) → be_of (l ++ (x ∷ [])) ≡ be_of l * 256 + x
unfolding be_of
be_of_snoc l x = be_from_snoc 0 l x

be_of_take : (l : List ℕ) (n : ℕ) → n < length l → be_of (take (suc n) l) ≡ be_of (take n l) * 256 + get_or l n 0
be_of_take l n h = ap be_of (take-suc l n 0 h) ∙ be_of_snoc (take n l) (get_or l n 0)

pub be_of_nil : be_of [] ≡ 0
unfolding be_of
be_of_nil = refl

append_front : (s t : List ℕ) (n : ℕ) → n ≤ length t → be_of (s ++ take n t) ≡ be_of s * 256 ^ n + be_of (take n t)
append_front s t zero h = rw append-nil (omega (arith, be_of_nil, pow-zero 256))
append_front s t (suc n) h =
    ap (λ (r : List ℕ). be_of (s ++ r)) (take-suc t n 0 h)
    ∙ ap be_of (sym (append_assoc s (take n t) (get_or t n 0 ∷ [])))
    ∙ be_of_snoc (s ++ take n t) (get_or t n 0)
    ∙ rw (append_front s t n (omega arith), be_of_take t n h, pow-suc 256 n, ← mul_assoc (be_of s) (256 ^ n) 256) (omega arith)

-- A number in two parts.
pub be_of_append : (s t : List ℕ) → be_of (s ++ t) ≡ be_of s * 256 ^ length t + be_of t
be_of_append s t =
    subst (λ (r : List ℕ). be_of (s ++ r) ≡ be_of s * 256 ^ length t + be_of r) (take-length t) (append_front s t (length t) (omega arith))

pub be_of_parts : (at m n : ℕ) (l : List ℕ) → at + m + n ≤ length l
    → be_of (part at (m + n) l) ≡ be_of (part at m l) * 256 ^ n + be_of (part (at + m) n l)
be_of_parts at m n l h =
    ap be_of (part_add at m n l)
    ∙ be_of_append (part at m l) (part (at + m) n l)
    ∙ ap (λ (k : ℕ). be_of (part at m l) * 256 ^ k + be_of (part (at + m) n l)) (length_part (at + m) n l h)

bound_front : (l : List ℕ) → Octets l → (n : ℕ) → n ≤ length l → be_of (take n l) < 256 ^ n
bound_front l o zero h = omega (arith, be_of_nil, pow-zero 256)
bound_front l o (suc n) h = omega (arith, be_of_take l n h, bound_front l o n (omega arith), o n, pow-suc 256 n)

pub be_of_bound : (l : List ℕ) → Octets l → be_of l < 256 ^ length l
be_of_bound l o = subst (λ (r : List ℕ). be_of r < 256 ^ length l) (take-length l) (bound_front l o (length l) (omega arith))

pub length_be_bytes : (w n : ℕ) → length (be_bytes w n) ≡ w
unfolding be_bytes
length_be_bytes zero n = refl
length_be_bytes (suc w) n = length-append (be_bytes w (n / 256)) (n % 256 ∷ []) ∙ omega (arith, length_be_bytes w (n / 256))

-- What is written is read.
pub be_of_be_bytes : (w n : ℕ) → n < 256 ^ w → be_of (be_bytes w n) ≡ n
unfolding be_bytes
be_of_be_bytes zero n h = omega (arith, be_of_nil, pow-zero 256)
be_of_be_bytes (suc w) n h =
    be_of_snoc (be_bytes w (n / 256)) (n % 256)
    ∙ ap (λ (x : ℕ). x * 256 + n % 256) (be_of_be_bytes w (n / 256) (omega (arith, pow-suc 256 w)))
    ∙ div-add-mod' n 256

back_front : (l : List ℕ) → Octets l → (n : ℕ) → n ≤ length l → be_bytes n (be_of (take n l)) ≡ take n l
unfolding be_bytes
back_front l o zero h = refl
back_front l o (suc n) h =
    let b = be_of (take n l) in
    let x = get_or l n 0 in
    let q : (b * 256 + x) / 256 ≡ b = omega (arith, o n) in
    let r : (b * 256 + x) % 256 ≡ x = omega (arith, o n) in
    rw (be_of_take l n h, q, r, back_front l o n (omega arith)) (sym (take-suc l n 0 h))

-- What is read is written.
pub be_bytes_be_of : (l : List ℕ) → Octets l → be_bytes (length l) (be_of l) ≡ l
be_bytes_be_of l o = subst (λ (r : List ℕ). be_bytes (length l) (be_of r) ≡ r) (take-length l) (back_front l o (length l) (omega arith))

-- A number in a run of bytes fits its width, and its bytes are the part it was read from.
pub be_of_part_bound : (at w : ℕ) (l : List ℕ) → Octets l → at + w ≤ length l → be_of (part at w l) < 256 ^ w
be_of_part_bound at w l o h = rw (length_part at w l h) at (be_of_bound (part at w l) (octets_part at w l o))

pub be_bytes_part : (at w : ℕ) (l : List ℕ) → Octets l → at + w ≤ length l → be_bytes w (be_of (part at w l)) ≡ part at w l
be_bytes_part at w l o h = rw (length_part at w l h) at (be_bytes_be_of (part at w l) (octets_part at w l o))

-- An iteration of the loop that writes a number: the low byte of the rest comes after the bytes still to be written.
pub put_next : (at left rest : ℕ) (l : List ℕ) → 0 < left → at + left ≤ length l
    → spliced at (be_bytes (left - 1) (rest / 256)) (set l (at + (left - 1)) (rest % 256)) ≡ spliced at (be_bytes left rest) l
unfolding be_bytes
put_next at zero rest l h f = absurd (omega arith)
put_next at (suc w) rest l h f =
    let e = length_be_bytes w (rest / 256) in
    rw (sub-one (suc w)) (rw e at (spliced_set at (rest % 256) (be_bytes w (rest / 256)) l (omega arith)))

-- Nothing is left to be written.
pub put_done : (at left rest : ℕ) (l : List ℕ) → left ≤ 0 → spliced at (be_bytes left rest) l ≡ l
unfolding be_bytes
put_done at zero rest l h = spliced_nil at l
put_done at (suc w) rest l h = absurd (omega arith)
