-- Decimal digits, and the line of a refusal: how many digits are enough, that these are the library's, and the parts of the line one after the other.
-- Assumes nothing.
use mathlib.Core.Path.{◌≡◌, sym, ap, ◌∙◌}
use mathlib.Core.Bool.{Bool, true, false, cond}
use mathlib.Core.List.{List, [], ◌∷◌, ◌++◌, append_assoc}
use Prim.Native.Nat.{ℕ, zero, suc, ◌+◌, ◌/◌, ◌%◌, ◌^◌, ◌≤◌, ◌<◌}
use native.Mathlib.Nat.{pow-suc}
use native.Mathlib.Numerals.{add-one}
use native.Mathlib.Omega.{arith}
use borrow.Author.Tests.{lt-ltb, le-ltb}
use lib.Dec.{ltb}
use lib.ListN.{length, length-append}
use Rattle.aff_format.specs.passes.Written.{Written}
use Rattle.aff_format.proofs.WrittenLaws.{written_same, written_more}
use Rattle.std.specs.Fmt.{decimal as decimal_text}
use Rattle.std.proofs.lemmas.Fmt.{AppendsLastDigit, decimal_from_appends, length-decimal-le, length-decimal-le_succ}
use Rattle.aff_list.specs.Line.{decimal}
use Rattle.aff_list.specs.Lister.{in_decimal, refused_word, refusal_line}

pub length_decimal : (most n : ℕ) → length (decimal most n) ≤ most
unfolding decimal
length_decimal zero n = omega arith
length_decimal (suc most) n = go (ltb n 10) (length_decimal most (n / 10))
  where
    go : (b : Bool) → length (decimal most (n / 10)) ≤ most → length (cond b ((48 + n) ∷ []) (decimal most (n / 10) ++ ((48 + n % 10) ∷ []))) ≤ suc most
    go true h = omega arith
    go false h = simp length-append (omega arith)

-- ---- How many digits are enough.

tenth : (a n : ℕ) → n < 10 ^ suc (suc a) → n / 10 < 10 ^ suc a
tenth a n h = let e = pow-suc 10 (suc a) in omega arith

-- A number below 10 to the power of a has no digit more.
pub decimal_whole : (a b n : ℕ) → a ≤ b → n < 10 ^ suc a → decimal (suc b) n ≡ decimal (suc a) n
unfolding decimal
decimal_whole zero b n l h = rw (lt-ltb n 10 h)
decimal_whole (suc a) zero n l h = absurd (omega arith)
decimal_whole (suc a) (suc b) n l h = rw (decimal_whole a b (n / 10) (omega arith) (tenth a n h))

power_above : (n : ℕ) → n < 10 ^ suc n
power_above zero = omega (arith, pow-suc 10 0)
power_above (suc n) = omega (arith, pow-suc 10 (suc n), power_above n)

-- Digits that are enough for n give what any larger number of digits gives.
pub digits_enough : (n most : ℕ) → n < most → decimal most n ≡ in_decimal n
unfolding in_decimal
digits_enough n zero h = absurd (omega arith)
digits_enough n (suc most) h = rw add-one (decimal_whole n most n (omega arith) (power_above n))

-- ---- The digits that the library prints.

appends : AppendsLastDigit decimal
unfolding decimal
appends =
    record {
      one = λ k n h. rw (lt-ltb n 10 h);
      more = λ k n h. rw (le-ltb n 10 h);
    }

-- As many digits as the library prints of a number are enough for it.
pub decimal_is : (most n : ℕ) → n < 2 ^ 64 → length (decimal_text n) ≤ most → decimal most n ≡ decimal_text n
decimal_is most n = decimal_from_appends decimal appends most n

-- A number below 2 to the power of 32 has at most ten.
pub count_is : (n : ℕ) → n < 2 ^ 32 → decimal 10 n ≡ decimal_text n
count_is n h = decimal_is 10 n (omega arith) (length-decimal-le 10 n (omega arith) (omega arith) (omega arith))

in_decimal_is : (n : ℕ) → n < 2 ^ 64 → in_decimal n ≡ decimal_text n
unfolding in_decimal
in_decimal_is n h = decimal_is (n + 1) n h (length-decimal-le_succ n h)

-- ---- The line of a refusal.

-- The word, the number and the place of a refusal, one after the other.
pub line_written : (number place : ℕ) {digits more o p q r : List ℕ} {word mid end : ℕ} → number < 2 ^ 64 → place < 2 ^ 64
    → digits ≡ decimal_text number → more ≡ decimal_text place → 50 ≤ length o
    → Written 0 refused_word o p word → Written word (digits ++ (32 ∷ [])) p q mid → Written mid (more ++ (10 ∷ [])) q r end
    → Written 0 (refusal_line number place) o r end
unfolding refusal_line
line_written number place {digits} {more} h k is js fits v w u =
    let few : length digits ≤ 20 = omega (arith, ap length is, length-decimal-le 20 number (omega arith) (omega arith) h) in
    let both = written_more v (omega arith) w in
    let both_fit : 0 + length (refused_word ++ (digits ++ (32 ∷ []))) ≤ 29 =
    omega (arith, length-append refused_word (digits ++ (32 ∷ [])), length-append digits (32 ∷ []), few) in
    written_same
    (append_assoc refused_word (digits ++ (32 ∷ [])) (more ++ (10 ∷ []))
    ∙ ap (λ (l : List ℕ). refused_word ++ l) (append_assoc digits (32 ∷ []) (more ++ (10 ∷ [])))
    ∙ rw (in_decimal_is number h, in_decimal_is place k, sym is, sym js))
    (written_more both (omega (arith, both_fit)) u)
