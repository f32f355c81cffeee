-- Laws of the lowest number of which a test holds, in the terms of a loop that has passed the first k of n numbers. Assumes nothing.
use mathlib.Core.Path.{◌≡◌, refl, sym, ap}
use mathlib.Core.Bool.{Bool, true, false, true≢false}
use mathlib.Core.List.{List, ◌∷◌}
use mathlib.Core.Logic.{⊎_elim}
use Prim.Native.Nat.{ℕ, zero, suc, ◌+◌, ◌-◌, ◌≤◌, ◌<◌}
use native.Mathlib.Nat.{eq-or-lt_of_le}
use native.Mathlib.Omega.{arith}
use Rattle.aff_format.specs.Answer.{Check, Clear}
use Rattle.aff_format.specs.Lowest.{lowest_from, is_at, check_lowest}
use Rattle.std.specs.Prelude.{Option, Some, None}
use Rattle.aff_format.specs.declared.refusal.RefusalCode.{RefusalCode}
use Rattle.aff_format.proofs.AnswerLaws.{numbers_reported}

module _ (test : ℕ → Bool) where
  -- One iteration of a loop: the number after the first k is it, or the rest decides, or there is no rest.
  pub lowest_here : (n k first : ℕ) → k < n → test (k + first) ≡ true → Some (k + first) ≡ lowest_from test (n - k) (k + first)
  unfolding lowest_from
  lowest_here n k first h e = let z : n - k ≡ suc (n - (k + 1)) = omega arith in rw (z, e)

  pub lowest_on : (n k first : ℕ) → k < n → test (k + first) ≡ false
      → lowest_from test (n - (k + 1)) (k + 1 + first) ≡ lowest_from test (n - k) (k + first)
  unfolding lowest_from
  lowest_on n k first h e =
      let z : n - k ≡ suc (n - (k + 1)) = omega arith in
      let w : k + 1 + first ≡ k + first + 1 = omega arith in
      rw (z, e, w)

  pub lowest_end : (n k first : ℕ) → n ≤ k → None ≡ lowest_from test (n - k) (k + first)
  unfolding lowest_from
  lowest_end n k first h = let z : n - k ≡ 0 = omega arith in rw z

  -- None: the test holds of no number in the range. And back.
  pub none_holds : (left k : ℕ) → lowest_from test left k ≡ None → (j : ℕ) → k ≤ j → j < k + left → test j ≡ false
  unfolding lowest_from
  none_holds zero k e j lo hi = absurd (omega arith)
  none_holds (suc left) k e j lo hi = go (test k) refl (λ f. none_holds left (k + 1) f)
    where
      go : (b : Bool) → test k ≡ b → (lowest_from test left (k + 1) ≡ None → (i : ℕ) → k + 1 ≤ i → i < k + 1 + left → test i ≡ false) → test j ≡ false
      go true t ih = let x : Some k ≡ None = rw t at e in absurd cc
      go false t ih =
          ⊎_elim (λ (q : k ≡ j). rw (sym q) t) (λ (q : k < j). ih (rw t at e) j (omega arith) (omega arith)) (eq-or-lt_of_le lo)

  pub holds_none : (left k : ℕ) → ((j : ℕ) → k ≤ j → j < k + left → test j ≡ false) → lowest_from test left k ≡ None
  unfolding lowest_from
  holds_none zero k h = refl
  holds_none (suc left) k h = rw (h k (omega arith) (omega arith)) (holds_none left (k + 1) (λ j lo hi. h j (omega arith) (omega arith)))

  -- The lowest: the test holds of it, it is in the range, and holds of none before it.
  pub record LowestIs (left k j : ℕ) : Type 0 where
    pub holds : test j ≡ true
    pub least : k ≤ j
    pub most : j < k + left
    pub before : (i : ℕ) → k ≤ i → i < j → test i ≡ false

  pub lowest_is : (left k j : ℕ) → lowest_from test left k ≡ Some j → LowestIs left k j
  unfolding lowest_from
  lowest_is zero k j e = absurd cc
  lowest_is (suc left) k j e = go (test k) refl (λ f. lowest_is left (k + 1) j f)
    where
      go : (b : Bool) → test k ≡ b → (lowest_from test left (k + 1) ≡ Some j → LowestIs left (k + 1) j) → LowestIs (suc left) k j
      go true t ih =
          let x : Some k ≡ Some j = rw t at e in
          let q : k ≡ j = cc in
          record { holds = rw (sym q) t; least = omega arith; most = omega arith; before = λ i lo hi. absurd (omega arith) }
      go false t ih =
          let r = ih (rw t at e) in
          record {
            holds = r.holds;
            least = omega (arith, r.least);
            most = omega (arith, r.most);
            before = λ i lo hi. ⊎_elim (λ (q : k ≡ i). rw (sym q) t) (λ (q : k < i). r.before i (omega arith) hi) (eq-or-lt_of_le lo);
          }

-- Tests that agree in the range have the same lowest.
pub lowest_same : (test other : ℕ → Bool) (left k : ℕ) → ((j : ℕ) → k ≤ j → j < k + left → test j ≡ other j)
    → lowest_from test left k ≡ lowest_from other left k
unfolding lowest_from
lowest_same test other zero k h = refl
lowest_same test other (suc left) k h =
    rw (h k (omega arith) (omega arith), lowest_same test other left (k + 1) (λ j lo hi. h j (omega arith) (omega arith)))

-- `is_at` is false of none alone.
pub none_at : (l : Option ℕ) → is_at l ≡ false → l ≡ None
none_at None h = refl
none_at (Some k) h = absurd (true≢false h)

-- A check that reports the lowest finds nothing wrong where there is none.
pub clear_lowest : (report : ℕ → RefusalCode) (l : Option ℕ) (checks : List Check) → Clear (check_lowest report l ∷ checks) → (l ≡ None) × Clear checks
clear_lowest report None checks c = (refl, c.1)
clear_lowest report (Some k) checks c = absurd (true≢false c.0)

-- A check for the lowest reports its own number, whether there is one or not.
pub numbers_lowest : (number : ℕ) (report : ℕ → RefusalCode) → ((k : ℕ) → (report k).number ≡ number) → (l : Option ℕ) (checks : List Check)
    → numbers_reported (check_lowest report l ∷ checks) ≡ number ∷ numbers_reported checks
numbers_lowest number report is None checks = ap (λ (n : ℕ). n ∷ numbers_reported checks) (is 0)
numbers_lowest number report is (Some k) checks = ap (λ (n : ℕ). n ∷ numbers_reported checks) (is k)
