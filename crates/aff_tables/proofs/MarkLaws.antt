-- Climbs with marks. A climb that meets its own mark goes round and never reaches the root; one that meets an earlier climb's mark reaches
-- it as that one did. More steps than nodes change nothing (`settled`), so the node that a climb is at reaches the root as its start does.
-- Assumes nothing.
use mathlib.Core.Path.{◌≡◌, refl, sym, ap, ◌∙◌}
use mathlib.Core.Bool.{Bool, true, false, not}
use mathlib.Core.Logic.{◌⊎◌, inl, inr, ⊎_elim}
use Prim.Native.Nat.{ℕ, zero, suc, ◌+◌, ◌-◌, ◌≤◌, ◌<◌}
use native.Mathlib.Nat.{not-suc-le-zero, eq-or-lt_of_le, le_of_suc-le-suc, sub-zero, suc-sub-suc}
use native.Mathlib.Omega.{arith}
use mathlib.Core.List.{List, [], ◌∷◌}
use lib.ListN.{length, get_or, set, length-set, replicate, length-replicate}
use lib.Seq.{get_or-set_same, get_or-set_other}
use borrow.Author.Tests.{ne_eqb}
use Rattle.aff_format.specs.Lowest.{lowest_from}
use Rattle.aff_format.specs.Tree.{reaches_by}
use Rattle.std.specs.Prelude.{Some, None}
use Rattle.aff_format.proofs.ClimbLaws.{reaches_root, reaches_up, longer, settled, absurd_bool}
use Rattle.aff_format.proofs.StdLaws.{lowest_met, lowest_past, lowest_none}
use Rattle.std.proofs.lemmas.Bool.{cases_eq}
use Rattle.std.specs.Cmp.{both_ways}
use Rattle.aff_tables.specs.passes.Climb.{Marked, Climbed}

-- How many marks are free: each step sets one.
unfoldable pub free : List ℕ → ℕ
free [] = 0
free (zero ∷ l) = suc (free l)
free (suc m ∷ l) = free l

pub free_set : (l : List ℕ) (x v : ℕ) → x < length l → get_or l x 0 ≡ 0 → 0 < v → free (set l x v) < free l
unfolding free
free_set [] x v h e p = absurd (not-suc-le-zero h)
free_set (zero ∷ l) zero zero h e p = absurd (omega arith)
free_set (zero ∷ l) zero (suc v) h e p = omega arith
free_set (suc m ∷ l) zero v h e p = absurd (omega arith)
free_set (zero ∷ l) (suc x) v h e p = let i = free_set l x v (le_of_suc-le-suc h) e p in omega arith
free_set (suc m ∷ l) (suc x) v h e p = free_set l x v (le_of_suc-le-suc h) e p

-- A climb of j steps from y to x, none from the root.
pub Steps : (ℕ → ℕ) → ℕ → ℕ → ℕ → Type 0
Steps parent zero y x = y ≡ x
Steps parent (suc j) y x = (y ≡ 0 → ⊥) × Steps parent j (parent y) x

module _ (parent : ℕ → ℕ) where
  steps_on : (j y x : ℕ) → (x ≡ 0 → ⊥) → Steps parent j y x → Steps parent (suc j) y (parent x)
  unfolding Steps
  steps_on zero y x n s = (λ e. n (sym s ∙ e), ap parent s)
  steps_on (suc j) y x n s = (s.0, steps_on j (parent y) x n s.1)

  steps_reach : (j m y x : ℕ) → Steps parent j y x → reaches_by parent m y ≡ true → (j ≤ m) × (reaches_by parent (m - j) x ≡ true)
  unfolding Steps reaches_by
  steps_reach zero m y x s e = (omega arith, rw (sub-zero, ← s) e)
  steps_reach (suc j) zero y x s e = absurd_bool (sym (ne_eqb y 0 s.0) ∙ e)
  steps_reach (suc j) (suc m) y x s e =
      let i = steps_reach j m (parent y) x s.1 (sym (reaches_up parent m y s.0) ∙ e) in (omega arith, rw suc-sub-suc i.1)

  -- Who comes back to a node never reaches the root from there.
  cycle : (fuel j m x : ℕ) → m ≤ fuel → Steps parent (suc j) x x → reaches_by parent m x ≡ true → ⊥
  cycle zero j m x l s e = let i = steps_reach (suc j) m x x s e in omega arith
  cycle (suc fuel) j m x l s e = let i = steps_reach (suc j) m x x s e in cycle fuel j (m - suc j) x (omega arith) s i.1

-- The climb from k is at x; a node with its mark is after it by a step or more.
pub record On (parent : ℕ → ℕ) (nodes k x : ℕ) (marks₀ marks : List ℕ) : Type 0 where
  pub linked : (y : ℕ) → 0 < y → y ≤ nodes → parent y ≤ nodes
  pub start : 0 < k
  pub node : x ≤ nodes
  pub wide : nodes < length marks
  pub long : length marks ≡ length marks₀
  pub as_k : reaches_by parent nodes x ≡ reaches_by parent nodes k
  pub earlier : (y : ℕ) → (get_or marks y 0 ≡ 0 → ⊥) → get_or marks y 0 ≤ k
  pub good : (y : ℕ) → (get_or marks y 0 ≡ 0 → ⊥) → get_or marks y 0 < k → reaches_by parent nodes y ≡ true
  pub mine : (y : ℕ) → get_or marks y 0 ≡ k → reaches_by parent nodes y ≡ reaches_by parent nodes k
  pub back : (y : ℕ) → get_or marks y 0 ≡ k → (j : ℕ) × Steps parent (suc j) y x

module _ {parent : ℕ → ℕ} {nodes k x : ℕ} {marks₀ marks : List ℕ} (o : On parent nodes k x marks₀ marks) where
  good_up : (x ≡ 0 → ⊥) → reaches_by parent nodes (parent x) ≡ reaches_by parent nodes x
  good_up n =
      let u = reaches_up parent nodes x n in
      let l = o.node in
      both_ways _ _ (λ e. settled parent nodes o.linked x (omega arith) (u ∙ e)) (λ e. sym u ∙ longer parent nodes x e)

  at_mark : (y : ℕ) → ((y ≡ x) × (get_or (set marks x k) y 0 ≡ k)) ⊎ (get_or (set marks x k) y 0 ≡ get_or marks y 0)
  at_mark y =
      let n = o.node in
      let w = o.wide in
      ⊎_elim (λ (e : y ≡ x). inl (e, rw e (get_or-set_same marks x k 0 (omega arith))))
      (λ (f : y ≡ x → ⊥). inr (get_or-set_other marks x y k 0 f))
      (cases_eq y x)

  pub on_step : (p : ℕ) → (x ≡ 0 → ⊥) → get_or marks x 0 ≡ 0 → p ≡ parent x → On parent nodes k p marks₀ (set marks x k)
  unfolding Steps
  on_step p n z e =
      record {
        linked = o.linked;
        start = o.start;
        node = rw e (o.linked x (omega arith) o.node);
        wide = simp length-set o.wide;
        long = simp length-set o.long;
        as_k = rw e (good_up n ∙ o.as_k);
        earlier = λ y f. ⊎_elim (λ w. let q = w.1 in omega arith) (λ w. let q = o.earlier y (λ g. f (w ∙ g)) in omega arith) (at_mark y);
        good = λ y f h. ⊎_elim (λ w. absurd (let q = w.1 in omega arith)) (λ w. o.good y (λ g. f (w ∙ g)) (omega arith)) (at_mark y);
        mine = λ y f. ⊎_elim (λ w. rw w.0 o.as_k) (λ w. o.mine y (sym w ∙ f)) (at_mark y);
        back = λ y f.
            ⊎_elim (λ w. (0, (λ g. n (sym w.0 ∙ g), rw (w.0, ← e))))
            (λ w. let s = o.back y (sym w ∙ f) in (suc s.0, rw e (steps_on parent (suc s.0) y x n s.1)))
            (at_mark y);
      }

  pub fewer_free : get_or marks x 0 ≡ 0 → free (set marks x k) < free marks
  fewer_free z = let l = o.node in let w = o.wide in free_set marks x k (omega arith) z o.start

  reached : true ≡ reaches_by parent nodes k → Climbed parent nodes k marks true
  reached t =
      record {
        answer = t;
        marked = λ q.
            record {
              wide = o.wide;
              earlier = λ y n. let h = o.earlier y n in omega arith;
              good = λ y n.
                  ⊎_elim (λ (e : get_or marks y 0 ≡ k). o.mine y e ∙ sym t)
                  (λ (l : get_or marks y 0 < k). o.good y n l)
                  (eq-or-lt_of_le (o.earlier y n));
            };
      }

  -- The three ends of a climb.
  pub at_root : x ≡ 0 → Climbed parent nodes k marks true
  at_root e = reached (sym (reaches_root parent nodes) ∙ rw e at o.as_k)

  pub at_good : (get_or marks x 0 ≡ k → ⊥) → (get_or marks x 0 ≡ 0 → ⊥) → Climbed parent nodes k marks true
  at_good f n =
      let h = o.earlier x n in
      reached (sym (o.good x n (⊎_elim (λ e. absurd (f e)) (λ l. l) (eq-or-lt_of_le h))) ∙ o.as_k)

  pub at_mine : get_or marks x 0 ≡ k → Climbed parent nodes k marks false
  at_mine e =
      let s = o.back x e in
      record {
        answer = both_ways false _ absurd_bool (λ t. absurd (cycle parent nodes s.0 nodes x (omega arith) s.1 (o.as_k ∙ t)));
        marked = absurd_bool;
      }

zeros_at : (n y : ℕ) → ◌≡◌ {A = ℕ} (get_or (replicate n 0) y 0) 0
zeros_at zero y = refl
zeros_at (suc n) zero = refl
zeros_at (suc n) (suc y) = zeros_at n y

unmarked : (parent : ℕ → ℕ) (nodes k n : ℕ) → nodes < n → Marked parent nodes k (replicate n 0)
unmarked parent nodes k n h =
    record { wide = rw length-replicate h; earlier = λ y f. absurd (f (zeros_at n y)); good = λ y f. absurd (f (zeros_at n y)) }

abbrev endless : (ℕ → ℕ) → ℕ → ℕ → Bool
endless parent nodes k = not (reaches_by parent nodes k)

-- The climbs from the nodes below k came to the root: the lowest of the others whose climb does not is the lowest of all.
pub record Passed (parent : ℕ → ℕ) (nodes k : ℕ) (marks : List ℕ) : Type 0 where
  pub marked : Marked parent nodes k marks
  pub rest : lowest_from (endless parent nodes) (nodes + 1 - k) k ≡ lowest_from (endless parent nodes) nodes 1

pub none_passed : (parent : ℕ → ℕ) (nodes n : ℕ) → nodes < n → Passed parent nodes 1 (replicate n 0)
none_passed parent nodes n h = let z : nodes + 1 - 1 ≡ nodes = omega arith in record { marked = unmarked parent nodes 1 n h; rest = rw z }

module _ {parent : ℕ → ℕ} {nodes k : ℕ} {marks after : List ℕ} {r : Bool} (p : Passed parent nodes k marks) (l : k ≤ nodes)
    (c : Climbed parent nodes k after r) where
  pub next_passed : r ≡ true → Passed parent nodes (k + 1) after
  next_passed e =
      record {
        marked = c.marked e;
        rest = sym (lowest_past (endless parent nodes) (nodes + 1 - k) (nodes + 1 - (k + 1)) k (omega arith) (ap not (sym c.answer ∙ e))) ∙ p.rest;
      }

  pub next_endless : r ≡ false → Some k ≡ lowest_from (endless parent nodes) nodes 1
  next_endless e = sym (lowest_met (endless parent nodes) (nodes + 1 - k) k (omega arith) (ap not (sym c.answer ∙ e))) ∙ p.rest

  pub last_passed : r ≡ true → nodes ≤ k → None ≡ lowest_from (endless parent nodes) nodes 1
  last_passed e h =
      sym (lowest_past (endless parent nodes) (nodes + 1 - k) 0 k (omega arith) (ap not (sym c.answer ∙ e))
      ∙ lowest_none (endless parent nodes) 0 (k + 1) refl)
      ∙ p.rest
