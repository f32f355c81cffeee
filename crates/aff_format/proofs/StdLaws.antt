-- Our recursions are std's words.
use Rattle.std.proofs.Common.{◌≡◌, ℕ, ◌+◌, ◌-◌, ◌^◌, ◌<◌, ◌≤◌, Bool, true, false, not, cond, List, [], ◌∷◌, ◌++◌, length, take, drop, replicate, refl, ◌∙◌, sym, ap, arith, unwrap_or, Some, None, eqb, zero, suc}
use Rattle.std.proofs.lemmas.List.{drop-drop, take-replicate}
use lib.ListN.{length-append, length-replicate, drop_of_length-le}
use mathlib.Core.List.{append-nil}
use Rattle.std.proofs.lemmas.List.Recursion.{is_position_or_len, is_count_by}
use Rattle.std.proofs.lemmas.List.Sums.{prefix_len-le-length}
use Rattle.std.specs.List.{position, position_or_len, count_by}
use Rattle.std.specs.Cmp.Lexicographic.{pointwise}
use borrow.Rule.Slice.PartMut.{put_mid}
use borrow.Author.Tests.{ltb-false}
use lib.Dec.{ltb}
use Rattle.aff_format.specs.Lowest.{lowest_from}
use Rattle.aff_format.specs.Bytes.{same_bytes, spliced}
use Rattle.std.specs.Int.{w32, w64, cast_signed, from_be_bytes}
use Rattle.std.specs.Prelude.{pos, negsuc}
use Rattle.aff_format.specs.Number.{be_of, twos_complement}
use Rattle.aff_format.specs.Strings.{up_to_zero}
use Rattle.aff_format.specs.passes.Counts.{until_slash, zeros_in}

pub same_bytes_is : (xs ys : List ℕ) → pointwise eqb xs ys ≡ same_bytes xs ys
unfolding same_bytes
same_bytes_is [] [] = refl
same_bytes_is [] (y ∷ ys) = refl
same_bytes_is (x ∷ xs) [] = refl
same_bytes_is (x ∷ xs) (y ∷ ys) = rw (same_bytes_is xs ys) refl

pub zeros_in_is : (xs : List ℕ) → count_by (λ x. eqb x 0) xs ≡ zeros_in xs
unfolding zeros_in
zeros_in_is xs = sym (is_count_by zeros_in (λ x. eqb x 0) refl (λ x ys. ap (λ (n : ℕ). cond (eqb x 0) n (zeros_in ys)) (omega arith)) xs)

pub until_slash_is : (xs : List ℕ) → position_or_len (λ x. eqb x 47) xs ≡ until_slash xs
unfolding until_slash
until_slash_is xs = sym (is_position_or_len until_slash (λ x. eqb x 47) refl (λ x ys. ap (cond (eqb x 47) 0) (omega arith)) xs)

pub up_to_zero_is : (xs : List ℕ) → position_or_len (λ x. eqb x 0) xs ≡ length (up_to_zero xs)
unfolding up_to_zero
up_to_zero_is [] = refl
up_to_zero_is (x ∷ xs) = go (eqb x 0) (up_to_zero_is xs)
  where
    go : (b : Bool) → position_or_len (λ y. eqb y 0) xs ≡ length (up_to_zero xs)
        → cond (not b) (1 + position_or_len (λ y. eqb y 0) xs) 0 ≡ length (cond b [] (x ∷ up_to_zero xs))
    go true h = refl
    go false h = omega (arith, h)

-- `position` and the length where it finds none.
pub position_or : (p : ℕ → Bool) (xs : List ℕ) → unwrap_or (position p xs) (length xs) ≡ position_or_len p xs
position_or p xs = go (ltb (position_or_len p xs) (length xs)) refl
  where
    go : (b : Bool) → ltb (position_or_len p xs) (length xs) ≡ b → unwrap_or (cond b (Some (position_or_len p xs)) None) (length xs) ≡ position_or_len p xs
    go true e = refl
    go false e = omega (arith, ltb-false (position_or_len p xs) (length xs) e, prefix_len-le-length (λ x. not (p x)) xs)

pub cast_signed_is : (n : ℕ) → cast_signed w32 n ≡ twos_complement n
unfolding twos_complement
cast_signed_is n = let e : 2 ^ 32 - suc n ≡ 4294967295 - n = omega arith in ap (λ (k : ℕ). cond (ltb n (2 ^ 31)) (pos n) (negsuc k)) e

-- The number of eight bytes, and zeros before a number.
be_eight : (l : List ℕ) → length l ≡ 8 → from_be_bytes w64 l ≡ be_of l
unfolding be_of
be_eight [] q = absurd (omega arith)
be_eight (a ∷ []) q = absurd (omega arith)
be_eight (a ∷ b ∷ []) q = absurd (omega arith)
be_eight (a ∷ b ∷ c ∷ []) q = absurd (omega arith)
be_eight (a ∷ b ∷ c ∷ d ∷ []) q = absurd (omega arith)
be_eight (a ∷ b ∷ c ∷ d ∷ e ∷ []) q = absurd (omega arith)
be_eight (a ∷ b ∷ c ∷ d ∷ e ∷ f ∷ []) q = absurd (omega arith)
be_eight (a ∷ b ∷ c ∷ d ∷ e ∷ f ∷ g ∷ []) q = absurd (omega arith)
be_eight (a ∷ b ∷ c ∷ d ∷ e ∷ f ∷ g ∷ h ∷ []) q = omega arith
be_eight (a ∷ b ∷ c ∷ d ∷ e ∷ f ∷ g ∷ h ∷ i ∷ l) q = absurd (omega arith)

zeros_before : (k : ℕ) (l : List ℕ) → be_of (replicate k 0 ++ l) ≡ be_of l
unfolding be_of
zeros_before zero l = refl
zeros_before (suc k) l = zeros_before k l

pub be_padded : (n : ℕ) (run padded : List ℕ) → n ≤ 8 → length run ≡ n → padded ≡ spliced (8 - n) run (replicate 8 0) → from_be_bytes w64 padded ≡ be_of run
unfolding spliced
be_padded n run padded h k e =
    let zeros : List ℕ = replicate 8 0 in
    let d : drop (8 - n + length run) zeros ≡ [] = drop_of_length-le zeros {i = 8 - n + length run} (omega arith) in
    let q : padded ≡ replicate (8 - n) 0 ++ run = e ∙ rw (take-replicate {X = ℕ} (8 - n) 8 0 (omega arith), d, append-nil) in
    be_eight padded (rw q (simp (length-append, length-replicate) (omega arith))) ∙ ap be_of q ∙ zeros_before (8 - n) run

pub put_mid_spliced : (at k : ℕ) (run out : List ℕ) → k ≡ length run → put_mid at k out run ≡ spliced at run out
unfolding spliced
put_mid_spliced at k run out e = rw e (ap (λ z. take at out ++ (run ++ z)) (drop-drop (length run) at out))

-- The lowest by a `for` that has come to k.
pub lowest_met : (test : ℕ → Bool) (left k : ℕ) → 0 < left → test k ≡ true → lowest_from test left k ≡ Some k
unfolding lowest_from
lowest_met test zero k h e = absurd (omega arith)
lowest_met test (suc left) k h e = rw e refl

pub lowest_past : (test : ℕ → Bool) (left more k : ℕ) → left ≡ more + 1 → test k ≡ false → lowest_from test left k ≡ lowest_from test more (k + 1)
unfolding lowest_from
lowest_past test left more k h e = let z : left ≡ suc more = omega arith in rw (z, e) refl

pub lowest_none : (test : ℕ → Bool) (left k : ℕ) → left ≡ 0 → lowest_from test left k ≡ None
unfolding lowest_from
lowest_none test left k h = rw h refl
