-- What a call hands back: document 01, 'Numbers handed back'.
use Rattle.std.specs.Prelude.{◌≡◌, Bool, true, false, List, [], ◌∷◌, ℕ}
use Rattle.aff_format.specs.declared.refusal.RefusalCode.{RefusalCode}

-- A refusal that reports its number; its number and a place; and its number, a place and a second number (10, by request C-18).
abbrev pub refusal : ℕ → RefusalCode
refusal n = record { number = n; place = 0; second = 0 }

abbrev pub refusal_at : ℕ → ℕ → RefusalCode
refusal_at n p = record { number = n; place = p; second = 0 }

abbrev pub refusal_with : ℕ → ℕ → ℕ → RefusalCode
refusal_with n p q = record { number = n; place = p; second = q }

-- A second number is reported with 10 alone: with any other number it is 0.
abbrev pub SecondOf10 : RefusalCode → Type 0
SecondOf10 t = (t.number ≡ 10 → ⊥) → t.second ≡ 0

-- An accepted call's value, or a refusal.
pub data Answer (A : Type 0) : Type 0 where
  accepted : A → Answer A
  refused : RefusalCode → Answer A

-- A check: whether something is wrong, and what is then reported.
pub data Check : Type 0 where
  check : Bool → RefusalCode → Check

abbrev pub unless : {A : Type 0} → Bool → RefusalCode → Answer A → Answer A
unless true r next = refused r
unless false r next = next

-- Document 01, 'Order': the first check that finds something wrong refuses; where none does, the call's value.
abbrev pub first_wrong : {A : Type 0} → List Check → A → Answer A
first_wrong [] v = accepted v
first_wrong (check wrong r ∷ checks) v = unless wrong r (first_wrong checks v)

-- None of the checks finds anything wrong.
abbrev pub Clear : List Check → Type 0
Clear [] = Unit {0}
Clear (check wrong r ∷ checks) = (wrong ≡ false) × Clear checks
