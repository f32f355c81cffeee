-- `same_bytes` decides equality. By induction on the runs.
use mathlib.Core.Path.{◌≡◌, refl, sym, ap, ap₂, ◌∙◌}
use mathlib.Core.Bool.{Bool, true, false, true≢false}
use mathlib.Core.List.{List, [], ◌∷◌}
use Prim.Native.Nat.{ℕ}
use lib.Dec.{eqb}
use lib.ListN.{length}
use borrow.Author.Tests.{eq-eqb, eqb-true}
use Rattle.aff_format.specs.Bytes.{same_bytes}
use Rattle.aff_format.proofs.TestLaws.{both}

pub same_refl : (a : List ℕ) → same_bytes a a ≡ true
unfolding same_bytes
same_refl [] = refl
same_refl (x ∷ a) = rw (eq-eqb x x refl) (same_refl a)

pub same_eq : (a b : List ℕ) → same_bytes a b ≡ true → a ≡ b
unfolding same_bytes
same_eq [] [] h = refl
same_eq [] (y ∷ b) h = absurd (true≢false (sym h))
same_eq (x ∷ a) [] h = absurd (true≢false (sym h))
same_eq (x ∷ a) (y ∷ b) h =
    let (e, t) = both (eqb x y) (same_bytes a b) h in
    ap₂ (λ (z : ℕ) (l : List ℕ). z ∷ l) (eqb-true x y e) (same_eq a b t)

pub same_ne : (a b : List ℕ) → same_bytes a b ≡ false → a ≡ b → ⊥
same_ne a b h e = true≢false (sym (same_refl a) ∙ ap (same_bytes a) e ∙ h)

pub ne_same : (a b : List ℕ) → (a ≡ b → ⊥) → same_bytes a b ≡ false
ne_same a b n = go (same_bytes a b) refl
  where
    go : (t : Bool) → same_bytes a b ≡ t → t ≡ false
    go true h = absurd (n (same_eq a b h))
    go false h = refl

pub same_lengths : (a b : List ℕ) → (length a ≡ length b → ⊥) → same_bytes a b ≡ false
same_lengths a b n = ne_same a b (λ e. n (ap length e))
