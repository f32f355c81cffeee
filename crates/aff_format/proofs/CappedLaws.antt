-- Lengths that stop counting at a limit. Assumes nothing.
use mathlib.Core.Path.{◌≡◌, refl, sym, ap, ◌∙◌}
use mathlib.Core.Bool.{Bool, true, false}
use Prim.Native.Nat.{ℕ, ◌+◌, ◌-◌, ◌≤◌, ◌<◌}
use native.Mathlib.Omega.{arith}
use lib.Dec.{leb}
use borrow.Author.Tests.{leb-true, leb-false, le-leb, lt-leb}
use Rattle.aff_format.specs.passes.Capped.{capped}

pub capped_within : (limit n : ℕ) → n ≤ limit → capped limit n ≡ n
capped_within limit n h = rw (le-leb n limit h)

pub capped_past : (limit n : ℕ) → limit < n → capped limit n ≡ limit + 1
capped_past limit n h = rw (lt-leb n limit h)

-- The length counted is the length, or it passes the limit.
pub capped_by : {A : Type 0} (limit n : ℕ) → (n ≤ limit → capped limit n ≡ n → A) → (limit < n → capped limit n ≡ limit + 1 → A) → A
capped_by {A} limit n f g = go (leb n limit) refl
  where
    go : (b : Bool) → leb n limit ≡ b → A
    go true e = let h = leb-true n limit e in f h (capped_within limit n h)
    go false e = let h = leb-false n limit e in g h (capped_past limit n h)

-- What the count says of the length.
module _ (limit n : ℕ) {r : ℕ} (is : r ≡ capped limit n) where
  pub capped_over : limit < r → limit < n
  capped_over l = capped_by limit n (λ h e. omega arith) (λ h e. omega arith)

  pub capped_exact : r ≤ limit → r ≡ n
  capped_exact l = capped_by limit n (λ h e. omega arith) (λ h e. omega arith)

-- One more of both.
pub capped_more : (limit n : ℕ) → capped limit n + 1 ≡ capped (limit + 1) (n + 1)
capped_more limit n =
    capped_by limit n (λ h e. rw e (sym (capped_within (limit + 1) (n + 1) (omega arith)))) (λ h e. rw e (sym (capped_past (limit + 1) (n + 1) (omega arith))))

pub capped_next : (limit n r : ℕ) → (limit ≡ 0 → ⊥) → r ≡ capped (limit - 1) n → r + 1 ≡ capped limit (n + 1)
capped_next limit n r h e =
    let l : limit - 1 + 1 ≡ limit = omega arith in
    ap (λ (k : ℕ). k + 1) e ∙ capped_more (limit - 1) n ∙ ap (λ (k : ℕ). capped k (n + 1)) l
