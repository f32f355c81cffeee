-- Some numbers without those that are not kept: the order by `keep` is the order of every node without the others. Assumes nothing.
use mathlib.Core.Path.{◌≡◌, refl, sym, ap, ◌∙◌}
use mathlib.Core.Bool.{Bool, true, false, cond}
use mathlib.Core.List.{List, [], ◌∷◌, ◌++◌, append_assoc, append-nil}
use mathlib.Core.Logic.{⊎_elim}
use Prim.Native.Nat.{ℕ, zero, suc, ◌+◌, ◌≤◌, ◌<◌}
use native.Mathlib.Nat.{le_refl, eq-or-lt_of_le, zero-add}
use native.Mathlib.Numerals.{add-one}
use native.Mathlib.Omega.{arith}
use borrow.Author.Tests.{eqb-true, eqb-false}
use lib.Dec.{eqb}
use lib.Seq.{take-length}
use lib.ListN.{length, get_or, take, length-append}
use Rattle.std.specs.List.{count_by, fold, range_with_len}
use Rattle.aff_listing.specs.ListingOrder.{own, every, child_of, children_to, preorder, kept, kept_below}
use Rattle.aff_listing.specs.Once.{hit, occurrences}
use Rattle.aff_listing.proofs.OnceLaws.{hit_other, occurrences_append, cond_zero, cond_add, total, total_length, Below}

module _ (keep : ℕ → Bool) where
  kept_append : (a b : List ℕ) → kept keep (a ++ b) ≡ kept keep a ++ kept keep b
  unfolding kept
  kept_append [] b = refl
  kept_append (x ∷ a) b = ap (λ (l : List ℕ). own keep x ++ l) (kept_append a b) ∙ sym (append_assoc (own keep x) (kept keep a) (kept keep b))

  -- ---- Numbers stored one after the other, those that are kept.

  pub kept_next : (l : List ℕ) (i : ℕ) → i < length l → kept keep (take i l) ++ own keep (get_or l i 0) ≡ kept keep (take (i + 1) l)
  unfolding kept
  kept_next l i h = go l i h ∙ ap (λ (n : ℕ). kept keep (take n l)) (sym (add-one i))
    where
      go : (l : List ℕ) (i : ℕ) → i < length l → kept keep (take i l) ++ own keep (get_or l i 0) ≡ kept keep (take (suc i) l)
      go [] i h = absurd (omega arith)
      go (x ∷ l) zero h = sym (append-nil (own keep x))
      go (x ∷ l) (suc i) h = append_assoc (own keep x) (kept keep (take i l)) (own keep (get_or l i 0)) ∙ ap (λ (r : List ℕ). own keep x ++ r) (go l i (omega arith))

  kept_growing : (l : List ℕ) (i n : ℕ) → i ≤ n → n ≤ length l → length (kept keep (take i l)) ≤ length (kept keep (take n l))
  kept_growing l i zero h few = let e : i ≡ 0 = omega arith in rw e (le_refl _)
  kept_growing l i (suc n) h few =
      ⊎_elim (λ e. rw e (le_refl _))
      (λ (g : i < suc n).
      let more = ap length (kept_next l n (omega arith) ∙ ap (λ (m : ℕ). kept keep (take m l)) (add-one n)) in
      omega (arith, kept_growing l i n (omega arith) (omega arith), more, length-append (kept keep (take n l)) (own keep (get_or l n 0))))
      (eq-or-lt_of_le h)

  -- One number more fits where the first n do.
  pub kept_fit : (l : List ℕ) (i n : ℕ) → i < n → n ≤ length l → length (kept keep (take i l)) + length (own keep (get_or l i 0)) ≤ length (kept keep (take n l))
  kept_fit l i n h few =
      omega (arith, kept_growing l (i + 1) n (omega arith) few, ap length (kept_next l i (omega arith)), length-append (kept keep (take i l)) (own keep (get_or l i 0)))

  -- One number more fits where all do.
  pub kept_fit_all : (l : List ℕ) (i : ℕ) → i < length l → length (kept keep (take i l)) + length (own keep (get_or l i 0)) ≤ length (kept keep l)
  kept_fit_all l i h = omega (arith, kept_fit l i (length l) h (le_refl _), ap (λ (r : List ℕ). length (kept keep r)) (take-length l))

  -- ---- The order by `keep`.

  module _ (parent : ℕ → ℕ) where
    child_kept : (f g : ℕ → List ℕ) (n k : ℕ) → f k ≡ kept keep (g k) → child_of f parent n k ≡ kept keep (child_of g parent n k)
    unfolding child_of kept
    child_kept f g n k e = go (eqb k 0) (eqb (parent k) n)
      where
        go : (root child : Bool) → cond root [] (cond child (f k) []) ≡ kept keep (cond root [] (cond child (g k) []))
        go true child = refl
        go false true = e
        go false false = refl

    pub children_kept : (f g : ℕ → List ℕ) (n m : ℕ) → ((k : ℕ) → f k ≡ kept keep (g k)) → children_to f parent n m ≡ kept keep (children_to g parent n m)
    unfolding children_to kept
    children_kept f g n zero e = refl
    children_kept f g n (suc m) e =
        ap (λ (l : List ℕ). l ++ child_of f parent n m) (children_kept f g n m e)
        ∙ ap (λ (l : List ℕ). kept keep (children_to g parent n m) ++ l) (child_kept f g n m (e m))
        ∙ sym (kept_append (children_to g parent n m) (child_of g parent n m))

    pub preorder_kept : (all depth n : ℕ) → preorder keep parent all depth n ≡ kept keep (preorder every parent all depth n)
    unfolding preorder own kept
    preorder_kept all zero n = refl
    preorder_kept all (suc depth) n =
        ap (λ (l : List ℕ). own keep n ++ l) (children_kept (preorder keep parent all depth) (preorder every parent all depth) n all (preorder_kept all depth))

  -- ---- Occurrences and length.

  own_count : (k x : ℕ) → occurrences k (own keep x) ≡ cond (keep k) (hit k x) 0
  unfolding own occurrences
  own_count k x = go (eqb k x) refl
    where
      by : (b : Bool) (h : ℕ) → hit k x ≡ h → occurrences k (cond b (x ∷ []) []) ≡ cond b h 0
      by true h e = omega (arith, e)
      by false h e = refl

      none : (b c : Bool) → hit k x ≡ 0 → occurrences k (cond b (x ∷ []) []) ≡ cond c (hit k x) 0
      none true true e = omega (arith, e)
      none true false e = omega (arith, e)
      none false true e = omega (arith, e)
      none false false e = refl

      go : (b : Bool) → eqb k x ≡ b → occurrences k (cond (keep x) (x ∷ []) []) ≡ cond (keep k) (hit k x) 0
      go true e = by (keep x) (hit k x) refl ∙ ap (λ (j : ℕ). cond (keep j) (hit k x) 0) (sym (eqb-true k x e))
      go false e = none (keep x) (keep k) (hit_other k x (eqb-false k x e))

  pub kept_count : (k : ℕ) (l : List ℕ) → occurrences k (kept keep l) ≡ cond (keep k) (occurrences k l) 0
  unfolding kept occurrences
  kept_count k [] = sym (cond_zero (keep k) 0 refl)
  kept_count k (x ∷ l) =
      occurrences_append k (own keep x) (kept keep l)
      ∙ ap (λ (j : ℕ). j + occurrences k (kept keep l)) (own_count k x)
      ∙ ap (λ (j : ℕ). cond (keep k) (hit k x) 0 + j) (kept_count k l)
      ∙ sym (cond_add (keep k) (hit k x) (occurrences k l))

  kept_total : (m : ℕ) (l : List ℕ) → ((k : ℕ) → k < m → occurrences k l ≡ 1) → total m (kept keep l) ≡ kept_below keep m
  unfolding total kept_below
  kept_total zero l h = refl
  kept_total (suc m) l h =
      omega (arith, kept_total m l (λ k g. h k (omega arith)), kept_count m l ∙ ap (λ (j : ℕ). cond (keep m) j 0) (h m (omega arith)))

  -- As many as there are numbers below m that are kept, where each of these occurs once, and no other number.
  pub kept_length : (m : ℕ) (l : List ℕ) → ((k : ℕ) → k < m → occurrences k l ≡ 1) → Below m l → length (kept keep l) ≡ kept_below keep m
  kept_length m l once only =
      total_length m (kept keep l) (λ k g. kept_count k l ∙ cond_zero (keep k) (occurrences k l) (only k g)) ∙ kept_total m l once

  pub kept_none : (m : ℕ) → ((k : ℕ) → k < m → keep k ≡ false) → kept_below keep m ≡ 0
  unfolding kept_below
  kept_none zero h = refl
  kept_none (suc m) h = rw (h m (omega arith)) (omega (arith, kept_none m (λ k g. h k (omega arith))))

  pub kept_most : (m : ℕ) → kept_below keep m ≤ m
  unfolding kept_below
  kept_most zero = omega arith
  kept_most (suc m) = go (keep m) (kept_most m)
    where
      go : (b : Bool) → kept_below keep m ≤ m → kept_below keep m + cond b 1 0 ≤ suc m
      go true h = omega arith
      go false h = omega arith

pub every_below : (m : ℕ) → kept_below every m ≡ m
unfolding kept_below
every_below zero = refl
every_below (suc m) = omega (arith, every_below m)

-- The count of a range, as std has it, is that count.
counted_on : (keep : ℕ → Bool) (a m : ℕ) → fold (λ n x. n + cond (keep x) 1 0) (kept_below keep a) (range_with_len a m) ≡ kept_below keep (a + m)
unfolding kept_below
counted_on keep a zero = ap (kept_below keep) (let z : a ≡ a + 0 = omega arith in z)
counted_on keep a (suc m) =
    ap (λ (n : ℕ). fold (λ n x. n + cond (keep x) 1 0) n (range_with_len (a + 1) m)) (sym (ap (kept_below keep) (add-one a)))
    ∙ counted_on keep (a + 1) m
    ∙ ap (kept_below keep) (let z : a + 1 + m ≡ a + suc m = omega arith in z)

pub kept_below_is : (keep : ℕ → Bool) (m : ℕ) → count_by keep (range_with_len 0 m) ≡ kept_below keep m
unfolding kept_below
kept_below_is keep m = counted_on keep 0 m ∙ ap (kept_below keep) (zero-add m)
