-- Laws of climbs by parents. A climb that reaches the root at all reaches it within as many steps as there are nodes: the sets of nodes
-- that reach it within j steps grow with j until two in a row are equal, and from then on stay. Assumes nothing.
use mathlib.Core.Path.{◌≡◌, refl, sym, ◌∙◌}
use mathlib.Core.Bool.{Bool, true, false}
use mathlib.Core.Logic.{◌⊎◌, inl, inr, ⊎_elim}
use Prim.Native.Nat.{ℕ, zero, suc, ◌+◌, ◌≤◌, ◌<◌}
use native.Mathlib.Nat.{zero-add, suc-add, add_comm, not-suc-le-zero, eq-or-lt_of_le, le_of_suc-le-suc}
use native.Mathlib.Omega.{arith}
use lib.Dec.{leb}
use borrow.Author.Tests.{ne_eqb, leb-true, leb-false}
use Rattle.aff_format.specs.Tree.{reaches_by}

pub absurd_bool : {A : Type 0} → false ≡ true → A
absurd_bool e = absurd cc

le_or_lt_by : (m n : ℕ) (b : Bool) → leb m n ≡ b → (m ≤ n) ⊎ (n < m)
le_or_lt_by m n true e = inl (leb-true m n e)
le_or_lt_by m n false e = inr (leb-false m n e)

pub le_or_lt : (m n : ℕ) → (m ≤ n) ⊎ (n < m)
le_or_lt m n = le_or_lt_by m n (leb m n) refl

-- how many numbers below n a test holds of
bit : Bool → ℕ
bit true = 1
bit false = 0

count : (ℕ → Bool) → ℕ → ℕ
count p zero = 0
count p (suc n) = bit (p n) + count p n

bits : (b d : Bool) → (b ≡ true → d ≡ true) → bit b ≤ bit d
unfolding bit
bits true d h = rw (h refl) (omega arith)
bits false d h = omega arith

bits_back : (b d : Bool) → bit d ≤ bit b → d ≡ true → b ≡ true
unfolding bit
bits_back true d h e = refl
bits_back false d h e = let z : ◌≤◌ 1 0 = rw e at h in absurd (omega arith)

module _ (p q : ℕ → Bool) (sub : (x : ℕ) → p x ≡ true → q x ≡ true) where
  count_sub : (n : ℕ) → count p n ≤ count q n
  unfolding count
  count_sub zero = omega arith
  count_sub (suc n) = let a = count_sub n in let b = bits (p n) (q n) (sub n) in omega arith

  count_back : (n : ℕ) → count q n ≤ count p n → (x : ℕ) → x < n → q x ≡ true → p x ≡ true
  unfolding count
  count_back zero h x l e = absurd (not-suc-le-zero l)
  count_back (suc n) h x l e =
      let a = count_sub n in
      let b = bits (p n) (q n) (sub n) in
      ⊎_elim (λ (z : x ≡ n). let k : bit (q n) ≤ bit (p n) = omega arith in rw z (bits_back (p n) (q n) k (rw z at e)))
      (λ (z : x < n). count_back n (omega arith) x z e)
      (eq-or-lt_of_le (le_of_suc-le-suc l))

one_in : (p : ℕ → Bool) (n x : ℕ) → x < n → p x ≡ true → 0 < count p n
unfolding count bit
one_in p zero x l e = absurd (not-suc-le-zero l)
one_in p (suc n) x l e =
    ⊎_elim (λ (z : x ≡ n). let k : bit (p n) ≡ 1 = rw (rw z at e) in omega arith)
    (λ (z : x < n). let k = one_in p n x z e in omega arith)
    (eq-or-lt_of_le (le_of_suc-le-suc l))

count_all : (n : ℕ) → count (λ (x : ℕ). true) n ≡ n
unfolding count bit
count_all zero = refl
count_all (suc n) = let a = count_all n in omega arith

module _ (parent : ℕ → ℕ) where
  pub reaches_root : (j : ℕ) → reaches_by parent j 0 ≡ true
  unfolding reaches_by
  reaches_root zero = refl
  reaches_root (suc j) = refl

  -- one step, for a node that is not the root
  pub reaches_up : (j k : ℕ) → (k ≡ 0 → ⊥) → reaches_by parent (suc j) k ≡ reaches_by parent j (parent k)
  unfolding reaches_by
  reaches_up j k n = rw (ne_eqb k 0)

  pub at_zero : (k : ℕ) → (k ≡ 0) ⊎ (0 < k)
  at_zero zero = inl refl
  at_zero (suc k) = inr (omega arith)

  pub longer : (j k : ℕ) → reaches_by parent j k ≡ true → reaches_by parent (suc j) k ≡ true
  unfolding reaches_by
  longer zero k e = rw e
  longer (suc j) k e =
      ⊎_elim (λ (z : k ≡ 0). rw z)
      (λ (z : 0 < k). reaches_up (suc j) k (λ q. omega arith) ∙ longer j (parent k) (sym (reaches_up j k (λ q. omega arith)) ∙ e))
      (at_zero k)

module _ (parent : ℕ → ℕ) (nodes : ℕ) (linked : (k : ℕ) → 0 < k → k ≤ nodes → parent k ≤ nodes) where
  abbrev pub Stable : ℕ → Type 0
  Stable j = (k : ℕ) → k < suc nodes → reaches_by parent (suc j) k ≡ true → reaches_by parent j k ≡ true

  stays : (j : ℕ) → Stable j → Stable (suc j)
  stays j s k l e =
      ⊎_elim (λ (z : k ≡ 0). rw z (reaches_root parent (suc j)))
      (λ (z : 0 < k).
      let b = linked k z (omega arith) in
      reaches_up parent j k (λ q. omega arith) ∙ s (parent k) (omega arith) (sym (reaches_up parent (suc j) k (λ q. omega arith)) ∙ e))
      (at_zero parent k)

  grows : (j : ℕ) → Stable j ⊎ (j < count (reaches_by parent j) (suc nodes))
  unfolding count bit
  grows zero = inr (one_in (reaches_by parent 0) (suc nodes) 0 (omega arith) (reaches_root parent 0))
  grows (suc j) =
      ⊎_elim (λ (s : Stable j). inl (stays j s))
      (λ (h : j < count (reaches_by parent j) (suc nodes)).
      ⊎_elim
      (λ (c : count (reaches_by parent (suc j)) (suc nodes) ≤ count (reaches_by parent j) (suc nodes)).
      inl (stays j (count_back (reaches_by parent j) (reaches_by parent (suc j)) (longer parent j) (suc nodes) c)))
      (λ c. inr (omega arith))
      (le_or_lt (count (reaches_by parent (suc j)) (suc nodes)) (count (reaches_by parent j) (suc nodes))))
      (grows j)

  -- with as many steps as nodes, more change nothing
  pub settled : Stable nodes
  settled =
      ⊎_elim (λ (s : Stable nodes). s)
      (λ (h : nodes < count (reaches_by parent nodes) (suc nodes)).
      λ k l e. count_back (reaches_by parent nodes) (λ (x : ℕ). true) (λ x q. refl) (suc nodes) (let a = count_all (suc nodes) in omega arith) k l refl)
      (grows nodes)

  settled_on : (d : ℕ) → Stable (d + nodes)
  settled_on zero = rw zero-add settled
  settled_on (suc d) = rw suc-add (stays (d + nodes) (settled_on d))

  fewer : (d k : ℕ) → k ≤ nodes → reaches_by parent (d + nodes) k ≡ true → reaches_by parent nodes k ≡ true
  fewer zero k l e = rw zero-add at e
  fewer (suc d) k l e = fewer d k l (settled_on d k (omega arith) (rw suc-add at e))

  more_steps : (d j k : ℕ) → reaches_by parent j k ≡ true → reaches_by parent (d + j) k ≡ true
  more_steps zero j k e = rw zero-add e
  more_steps (suc d) j k e = rw suc-add (longer parent (d + j) k (more_steps d j k e))

  -- the climb from k reaches the root after some steps: then within nodes steps
  pub reaches_within : (m k : ℕ) → k ≤ nodes → reaches_by parent m k ≡ true → reaches_by parent nodes k ≡ true
  reaches_within m k l e = fewer m k l (rw add_comm (more_steps nodes m k e))
