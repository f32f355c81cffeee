-- Kinds: code and kind belong to each other, and the sizes of elements and entries. By cases. Assumes nothing.
use borrow.Author.Tests.{eqb-true}
use mathlib.Core.Path.{◌≡◌, refl, sym, ap, ◌∙◌}
use mathlib.Core.Bool.{Bool, true, false, cond, true≢false}
use mathlib.Core.List.{List}
use Prim.Native.Nat.{ℕ, ◌/◌, ◌≤◌}
use native.Mathlib.Nat.{div-one}
use native.Mathlib.Omega.{arith}
use lib.Dec.{eqb}
use lib.ListN.{length}
use Rattle.aff_format.specs.Kind.{kind_code, kind_of, element_size, is_void, entry_size}
use Rattle.aff_format.specs.Element.{count_in}
use Rattle.aff_format.specs.declared.kind.Kind.{Kind}
use Rattle.aff_format.specs.declared.kind.Kind.TheVariants.{Void, Char, Int, Double, Complex}
use Rattle.std.specs.Prelude.{Option, Some}

pub kind_of_code : (k : Kind) → kind_of (kind_code k) ≡ Some k
kind_of_code Void = refl
kind_of_code Char = refl
kind_of_code Int = refl
kind_of_code Double = refl
kind_of_code Complex = refl

-- A row of the table: where the code is that of j the kind is j, else the rows below decide.
code_row : (n : ℕ) (k j : Kind) (rest : Option Kind) (b : Bool) → eqb n (kind_code j) ≡ b
    → (rest ≡ Some k → kind_code k ≡ n) → cond b (Some j) rest ≡ Some k → kind_code k ≡ n
code_row n k j rest true t below h =
    let e : j ≡ k = cc in
    ap kind_code (sym e) ∙ sym (eqb-true n (kind_code j) t)
code_row n k j rest false t below h = below h

pub code_of_kind : (n : ℕ) (k : Kind) → kind_of n ≡ Some k → kind_code k ≡ n
code_of_kind n k =
    code_row n k Void _ (eqb n 1) refl
    (code_row n k Char _ (eqb n 2) refl
    (code_row n k Int _ (eqb n 3) refl
    (code_row n k Double _ (eqb n 4) refl
    (code_row n k Complex _ (eqb n 5) refl
    (λ h. absurd cc)))))

pub count_in_few : (k : Kind) (l : List ℕ) → count_in k l ≤ length l
count_in_few Void l = omega arith
count_in_few Char l = omega arith
count_in_few Int l = omega arith
count_in_few Double l = omega arith
count_in_few Complex l = omega arith

pub count_in_void : (k : Kind) (l : List ℕ) → is_void k ≡ true → count_in k l ≡ 0
count_in_void Void l h = refl
count_in_void Char l h = absurd (true≢false (sym h))
count_in_void Int l h = absurd (true≢false (sym h))
count_in_void Double l h = absurd (true≢false (sym h))
count_in_void Complex l h = absurd (true≢false (sym h))

pub count_in_div : (k : Kind) (l : List ℕ) → is_void k ≡ false → count_in k l ≡ length l / element_size k
count_in_div Void l h = cc
count_in_div Char l h = sym (div-one (length l))
count_in_div Int l h = refl
count_in_div Double l h = refl
count_in_div Complex l h = refl

pub entry_size_bounds : (k : Kind) → (13 ≤ entry_size k) × (entry_size k ≤ 25)
entry_size_bounds Void = (omega arith, omega arith)
entry_size_bounds Char = (omega arith, omega arith)
entry_size_bounds Int = (omega arith, omega arith)
entry_size_bounds Double = (omega arith, omega arith)
entry_size_bounds Complex = (omega arith, omega arith)
