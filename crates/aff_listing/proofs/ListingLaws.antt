-- Laws of listing order, in the terms of the passes that write it; those of a node written are of the order of every node. Assumes nothing.
use mathlib.Core.Path.{◌≡◌, refl, sym, ap, ◌∙◌}
use mathlib.Core.Bool.{Bool}
use mathlib.Core.List.{List, [], ◌∷◌, ◌++◌, append-nil}
use mathlib.Core.Logic.{⊎_elim}
use Prim.Native.Nat.{ℕ, zero, suc, ◌+◌, ◌-◌, ◌≤◌, ◌<◌}
use native.Mathlib.Nat.{le_refl, le_trans, eq-or-lt_of_le}
use native.Mathlib.Numerals.{add-one, sub-one}
use native.Mathlib.Omega.{arith}
use borrow.Author.Tests.{eq-eqb, ne_eqb}
use lib.ListN.{length, length-append}
use Rattle.aff_listing.specs.ListingOrder.{own, every, child_of, children_to, preorder}
use Rattle.aff_listing.specs.passes.Children.{NextChild}
use Rattle.aff_format.specs.passes.Written.{Written}
use Rattle.aff_format.proofs.WrittenLaws.{written_none, written_same, written_more, written_length}

module _ (f : ℕ → List ℕ) (parent : ℕ → ℕ) (n : ℕ) where
  -- The subtree of k where k is a child of n, and nothing else.
  module _ (k : ℕ) (z : 0 < k) where
    child_yes : parent k ≡ n → child_of f parent n k ≡ f k
    unfolding child_of
    child_yes e = rw (ne_eqb k 0 (λ q. omega arith), eq-eqb (parent k) n e)

    child_no : (parent k ≡ n → ⊥) → child_of f parent n k ≡ []
    unfolding child_of
    child_no e = rw (ne_eqb k 0 (λ q. omega arith), ne_eqb (parent k) n e)

  -- The root is no child.
  pub children_none : children_to f parent n 1 ≡ []
  unfolding children_to child_of
  children_none = refl

  pub children_more : (k : ℕ) → children_to f parent n k ++ child_of f parent n k ≡ children_to f parent n (k + 1)
  unfolding children_to
  children_more k = rw add-one

  -- Numbers that are no children add nothing.
  children_skip : (k j : ℕ) → 0 < k → k ≤ j → ((i : ℕ) → k ≤ i → i < j → parent i ≡ n → ⊥) → children_to f parent n k ≡ children_to f parent n j
  unfolding children_to
  children_skip k zero z l h = absurd (omega arith)
  children_skip k (suc j) z l h =
      ⊎_elim (λ e. ap (children_to f parent n) e)
      (λ (g : k < suc j).
      children_skip k j z (omega arith) (λ i lo hi. h i lo (omega arith))
      ∙ sym (ap (λ (l : List ℕ). children_to f parent n j ++ l) (child_no j (omega arith) (h j (omega arith) (omega arith))) ∙ append-nil (children_to f parent n j)))
      (eq-or-lt_of_le l)

  growing : (k m : ℕ) → k ≤ m → length (children_to f parent n k) ≤ length (children_to f parent n m)
  unfolding children_to
  growing k zero h = let e : k ≡ 0 = omega arith in rw e (le_refl 0)
  growing k (suc m) h =
      ⊎_elim (λ e. rw e (le_refl _))
      (λ (l : k < suc m). le_trans (growing k m (omega arith)) (simp length-append (omega arith)))
      (eq-or-lt_of_le h)

  -- One child more fits where all do.
  children_fit : (k m : ℕ) → k < m → length (children_to f parent n k) + length (child_of f parent n k) ≤ length (children_to f parent n m)
  children_fit k m h = omega (arith, growing (k + 1) m (omega arith), ap length (children_more k), length-append (children_to f parent n k) (child_of f parent n k))

-- Parents and a `keep` that agree on the nodes give the same order.
module _ (p q : ℕ → ℕ) (keep mark : ℕ → Bool) (all : ℕ) (parents : (k : ℕ) → 0 < k → k < all → p k ≡ q k) (marks : (k : ℕ) → k < all → keep k ≡ mark k) where
  child_same : (f g : ℕ → List ℕ) (n k : ℕ) → f k ≡ g k → k < all → child_of f p n k ≡ child_of g q n k
  unfolding child_of
  child_same f g n zero e h = refl
  child_same f g n (suc k) e h = rw (e, parents (suc k) (omega arith) h)

  children_same : (f g : ℕ → List ℕ) (n m : ℕ) → ((k : ℕ) → k < all → f k ≡ g k) → m ≤ all → children_to f p n m ≡ children_to g q n m
  unfolding children_to
  children_same f g n zero e h = refl
  children_same f g n (suc m) e h = rw (children_same f g n m e (omega arith), child_same f g n m (e m (omega arith)) (omega arith))

  pub preorder_same : (depth n : ℕ) → n < all → preorder keep p all depth n ≡ preorder mark q all depth n
  unfolding preorder own
  preorder_same zero n h = refl
  preorder_same (suc depth) n h = rw (marks n h, children_same (preorder keep p all depth) (preorder mark q all depth) n all (preorder_same depth) (omega arith))

-- Children written one after the other, along the next siblings, in an output with space for all below nodes + 1.
module _ (f : ℕ → List ℕ) (parent : ℕ → ℕ) (n nodes at : ℕ) (o : List ℕ) (fits : at + length (children_to f parent n (nodes + 1)) ≤ length o) where
  pub siblings_start : {j : ℕ} → NextChild parent nodes n 1 j → Written at (children_to f parent n j) o o at
  siblings_start {j} c = written_none at _ o (sym (children_skip f parent n 1 j (omega arith) c.least c.none_between) ∙ children_none f parent n)

  module _ {k mid : ℕ} {p : List ℕ} (some : 0 < k) (exists : k ≤ nodes) (is : parent k ≡ n) (w : Written at (children_to f parent n k) o p mid) where
    one : child_of f parent n k ≡ f k
    one = child_yes f parent n k some is

    one_fits : at + length (children_to f parent n k) + length (f k) ≤ length o
    one_fits = omega (arith, children_fit f parent n k (nodes + 1) (omega arith), ap length one)

    pub sibling_fits : mid + length (f k) ≤ length p
    sibling_fits = omega (arith, one_fits, w.ends, written_length w (omega (arith, one_fits)))

    pub siblings_next : {end j : ℕ} {q : List ℕ} → NextChild parent nodes (parent k) (k + 1) j → Written mid (f k) p q end → Written at (children_to f parent n j) o q end
    siblings_next {j = j} c v =
        written_same
        (ap (λ (l : List ℕ). children_to f parent n k ++ l) (sym one)
        ∙ children_more f parent n k
        ∙ children_skip f parent n (k + 1) j (omega arith) c.least (λ i lo hi e. c.none_between i lo hi (e ∙ sym is)))
        (written_more w (omega (arith, one_fits)) v)

-- A node written, and its children after it.
module _ (parent : ℕ → ℕ) (all depth n : ℕ) where
  pub preorder_ended : depth ≡ 0 → preorder every parent all depth n ≡ []
  unfolding preorder
  preorder_ended e = rw e

  module _ (at : ℕ) (o : List ℕ) (more : depth ≡ 0 → ⊥) (fits : at + length (preorder every parent all depth n) ≤ length o) where
    abbrev below : List ℕ
    below = children_to (preorder every parent all (depth - 1)) parent n all

    step : (n ∷ []) ++ below ≡ preorder every parent all depth n
    unfolding preorder own
    step = go depth more
      where
        go : (d : ℕ) → (d ≡ 0 → ⊥) → (n ∷ []) ++ children_to (preorder every parent all (d - 1)) parent n all ≡ preorder every parent all d n
        go zero h = absurd (h refl)
        go (suc d) h = rw sub-one

    both_fit : at + 1 + length below ≤ length o
    both_fit = omega (arith, ap length step)

    pub node_fits : at < length o
    node_fits = omega (arith, both_fit)

    module _ {mid : ℕ} {p : List ℕ} (w : Written at (n ∷ []) o p mid) where
      one_written : at + length (n ∷ []) ≤ length o
      one_written = omega (arith, node_fits)

      pub below_fits : mid + length below ≤ length p
      below_fits = omega (arith, w.ends, written_length w one_written, both_fit)

      pub node_next : {end : ℕ} {q : List ℕ} → Written mid below p q end → Written at (preorder every parent all depth n) o q end
      node_next v = written_same step (written_more w one_written v)
