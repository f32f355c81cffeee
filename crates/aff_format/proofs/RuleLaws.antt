-- Checks and the rules that they ask for: where each check finds something wrong exactly when its rule fails, the rules settle the answer.
-- Assumes nothing.
use mathlib.Core.Path.{◌≡◌, refl, sym, ap, ◌∙◌, subst}
use mathlib.Core.Bool.{Bool, true, false, cond, true≢false, not}
use mathlib.Core.List.{List, [], ◌∷◌, ◌++◌}
use mathlib.Core.Logic.{inl, inr, ⊎_elim, ◌↔◌}
use Prim.Native.Nat.{ℕ, zero, suc, ◌+◌, ◌≤◌, ◌<◌}
use native.Mathlib.Nat.{eq-or-lt_of_le}
use native.Mathlib.Omega.{arith}
use Rattle.aff_format.specs.Answer.{Answer, accepted, refused, SecondOf10, Check, check, unless, first_wrong}
use Rattle.aff_format.specs.Lowest.{lowest_from, check_lowest}
use Rattle.aff_format.specs.declared.refusal.RefusalCode.{RefusalCode}
use Rattle.std.specs.Prelude.{Option, Some}
use Rattle.aff_format.specs.Rule.{Rule, rule, AllHold, FirstFails, Settled, each_from, By, Is}
use lib.Dec.{eqb, ltb, leb}
use borrow.Author.Tests.{eq-eqb, ltb-false, le-ltb, leb-false, lt-leb, not-false}

-- Each of the `left` numbers from k on, of nodes or strings.
abbrev pub Each : (ℕ → Type 0) → ℕ → ℕ → Type 0
Each holds left k = (j : ℕ) → k ≤ j → j < k + left → holds j

-- Number k and those after it.
each_more : (holds : ℕ → Type 0) (left k : ℕ) → holds k → Each holds left (k + 1) → Each holds (suc left) k
each_more holds left k h hs j lo hi =
    ⊎_elim (λ (q : k ≡ j). rw (sym q) h) (λ (q : k < j). hs j (omega arith) (omega arith)) (eq-or-lt_of_le lo)

each_less : (holds : ℕ → Type 0) (left k : ℕ) → Each holds (suc left) k → holds k × Each holds left (k + 1)
each_less holds left k hs = (hs k (omega arith) (omega arith), λ j lo hi. hs j (omega arith) (omega arith))

-- The checks ask for the rules. A check may ask for its rule only where the rules before it hold.
pub data AskFor : List Check → List Rule → Type 1 where
  none : AskFor [] []
  one : {b : Bool} {holds : Type 0} {t : RefusalCode} {cs : List Check} {rs : List Rule} → (b ≡ false) ↔ holds
      → (holds → AskFor cs rs) → AskFor (check b t ∷ cs) (rule holds t ∷ rs)
  each : (report : ℕ → RefusalCode) (test : ℕ → Bool) (holds : ℕ → Type 0) (left k : ℕ) {cs : List Check} {rs : List Rule} → Each (λ j. (test j ≡ false) ↔ holds j) left k
      → (Each holds left k → AskFor cs rs) → AskFor (check_lowest report (lowest_from test left k) ∷ cs) (each_from report holds left k rs)

module _ {A : Type 0} (v : A) where
  rest : {holds : Type 0} (t : RefusalCode) (rs : List Rule) (a : Answer A) → holds → Settled rs v a → Settled (rule holds t ∷ rs) v a
  rest t rs (accepted w) h s = ((h, s.0), s.1)
  rest t rs (refused u) h s = inr (h, s)

  one_settled : {holds : Type 0} (t : RefusalCode) (rs : List Rule) (a : Answer A) (b : Bool) → (b ≡ false) ↔ holds → (holds → Settled rs v a)
      → Settled (rule holds t ∷ rs) v (unless b t a)
  one_settled t rs a true e s = inl (λ h. true≢false (e.1 h), refl)
  one_settled t rs a false e s = rest t rs a (e.0 refl) (s (e.0 refl))

  each_settled : (report : ℕ → RefusalCode) (test : ℕ → Bool) (holds : ℕ → Type 0) (cs : List Check) (rs : List Rule) (left k : ℕ)
      → Each (λ j. (test j ≡ false) ↔ holds j) left k → (Each holds left k → Settled rs v (first_wrong cs v))
      → Settled (each_from report holds left k rs) v (first_wrong (check_lowest report (lowest_from test left k) ∷ cs) v)
  unfolding lowest_from each_from
  each_settled report test holds cs rs zero k e s = s (λ j lo hi. absurd (omega arith))
  each_settled report test holds cs rs (suc left) k e s =
      let (here, later) = each_less _ left k e in
      go (test k) (lowest_from test left (k + 1)) here (λ h. each_settled report test holds cs rs left (k + 1) later (λ hs. s (each_more holds left k h hs)))
    where
      go : (b : Bool) (l : Option ℕ) → (b ≡ false) ↔ holds k
          → (holds k → Settled (each_from report holds left (k + 1) rs) v (first_wrong (check_lowest report l ∷ cs) v))
          → Settled (each_from report holds (suc left) k rs) v (first_wrong (check_lowest report (cond b (Some k) l) ∷ cs) v)
      go true l = one_settled (report k) (each_from report holds left (k + 1) rs) (first_wrong (check_lowest report l ∷ cs) v) true
      go false l = one_settled (report k) (each_from report holds left (k + 1) rs) (first_wrong (check_lowest report l ∷ cs) v) false

  pub settled : {cs : List Check} {rs : List Rule} → AskFor cs rs → Settled rs v (first_wrong cs v)
  settled none = (tt, refl)
  settled (one {b} {holds} {t} {cs} {rs} e more) = one_settled t rs (first_wrong cs v) b e (λ h. settled (more h))
  settled (each report test holds left k {cs} {rs} e more) = each_settled report test holds cs rs left k e (λ h. settled (more h))

-- No other answer is settled.
hold_or_fail : (rs : List Rule) (t : RefusalCode) → AllHold rs → FirstFails rs t → ⊥
hold_or_fail [] t h f = f
hold_or_fail (rule p u ∷ rs) t h (inl f) = f.0 h.0
hold_or_fail (rule p u ∷ rs) t h (inr f) = hold_or_fail rs t h.1 f.1

one_first : (rs : List Rule) {t u : RefusalCode} → FirstFails rs t → FirstFails rs u → t ≡ u
one_first [] f g = absurd f
one_first (rule p w ∷ rs) (inl f) (inl g) = sym f.1 ∙ g.1
one_first (rule p w ∷ rs) (inl f) (inr g) = absurd (f.0 g.0)
one_first (rule p w ∷ rs) (inr f) (inl g) = absurd (g.0 f.0)
one_first (rule p w ∷ rs) (inr f) (inr g) = one_first rs f.1 g.1

module _ {A : Type 0} (rs : List Rule) (v : A) where
  pub all_accept : (a : Answer A) → Settled rs v a → AllHold rs → a ≡ accepted v
  all_accept (accepted w) s h = ap accepted (sym s.1)
  all_accept (refused t) s h = absurd (hold_or_fail rs t h s)

  pub first_refuses : (a : Answer A) {t : RefusalCode} → Settled rs v a → FirstFails rs t → a ≡ refused t
  first_refuses (accepted w) {t} s f = absurd (hold_or_fail rs t s.0 f)
  first_refuses (refused u) s f = ap refused (one_first rs s f)

-- The rules of numbers in a row, and those after them.
pub each_hold : (report : ℕ → RefusalCode) (holds : ℕ → Type 0) (rs : List Rule) (left k : ℕ) → AllHold (each_from report holds left k rs) → Each holds left k × AllHold rs
unfolding each_from
each_hold report holds rs zero k h = (λ j lo hi. absurd (omega arith), h)
each_hold report holds rs (suc left) k h = let (hs, r) = each_hold report holds rs left (k + 1) h.1 in (each_more holds left k h.0 hs, r)

pub hold_each : (report : ℕ → RefusalCode) (holds : ℕ → Type 0) (rs : List Rule) (left k : ℕ) → Each holds left k → AllHold rs → AllHold (each_from report holds left k rs)
unfolding each_from
hold_each report holds rs zero k hs r = r
hold_each report holds rs (suc left) k hs r = let (h, later) = each_less holds left k hs in (h, hold_each report holds rs left (k + 1) later r)

-- ---- By number.

-- The rules report other numbers than n.
abbrev pub OtherNumbers : ℕ → List Rule → Type 0
OtherNumbers n [] = Unit {0}
OtherNumbers n (rule holds t ∷ rs) = (eqb t.number n ≡ false) × OtherNumbers n rs

pub other_each : (n : ℕ) (report : ℕ → RefusalCode) → ((k : ℕ) → eqb (report k).number n ≡ false) → (holds : ℕ → Type 0) (rs : List Rule) (left k : ℕ)
    → OtherNumbers n rs → OtherNumbers n (each_from report holds left k rs)
unfolding each_from
other_each n report h holds rs zero k o = o
other_each n report h holds rs (suc left) k o = (h k, other_each n report h holds rs left (k + 1) o)

pub other_both : (n : ℕ) (before rs : List Rule) → OtherNumbers n before → OtherNumbers n rs → OtherNumbers n (before ++ rs)
other_both n [] rs o p = p
other_both n (rule holds t ∷ before) rs o p = (o.0, other_both n before rs o.1 p)

-- The rules of numbers in a row, with rules after them that come in two parts.
pub each_append : (report : ℕ → RefusalCode) (holds : ℕ → Type 0) (rs more : List Rule) (left k : ℕ)
    → each_from report holds left k (rs ++ more) ≡ each_from report holds left k rs ++ more
unfolding each_from
each_append report holds rs more zero k = refl
each_append report holds rs more (suc left) k = rw (each_append report holds rs more left (k + 1))

-- Each of the rules reports a second number with 10 alone; so does the first that fails.
abbrev pub EachSecondOf10 : List Rule → Type 0
EachSecondOf10 [] = Unit {0}
EachSecondOf10 (rule holds t ∷ rs) = SecondOf10 t × EachSecondOf10 rs

first_second : (rs : List Rule) (t : RefusalCode) → EachSecondOf10 rs → FirstFails rs t → SecondOf10 t
first_second [] t o f = absurd f
first_second (rule p u ∷ rs) t o (inl f) = subst SecondOf10 f.1 o.0
first_second (rule p u ∷ rs) t o (inr f) = first_second rs t o.1 f.1

pub each_second : (report : ℕ → RefusalCode) → ((k : ℕ) → SecondOf10 (report k)) → (holds : ℕ → Type 0) (rs : List Rule) (left k : ℕ)
    → EachSecondOf10 rs → EachSecondOf10 (each_from report holds left k rs)
unfolding each_from
each_second report h holds rs zero k o = o
each_second report h holds rs (suc left) k o = (h k, each_second report h holds rs left (k + 1) o)

pub both_second : (before rs : List Rule) → EachSecondOf10 before → EachSecondOf10 rs → EachSecondOf10 (before ++ rs)
both_second [] rs o p = p
both_second (rule holds t ∷ before) rs o p = (o.0, both_second before rs o.1 p)

pub by_second : {A : Type 0} (rs : List Rule) {Right : A → Type 0} (answer : Answer A) → By rs Right answer → EachSecondOf10 rs
    → (t : RefusalCode) → answer ≡ refused t → SecondOf10 t
by_second rs answer b o t h = first_second rs t o ((b.refuses t).0 h)

-- Of the `left` numbers from `first` on, k is the lowest for which the rule fails.
pub record LowestFails (holds : ℕ → Type 0) (left first k : ℕ) : Type 0 where
  pub least : first ≤ k
  pub most : k < first + left
  pub fails : holds k → ⊥
  pub before : (j : ℕ) → first ≤ j → j < k → holds j

-- A refusal t whose number one group of rules alone reports: it is reported exactly where all rules before the group hold, and t is `report` of the lowest
-- number for which a rule of the group fails.
module _ (t : RefusalCode) where
  not_reported : (rs : List Rule) → OtherNumbers t.number rs → FirstFails rs t → ⊥
  not_reported [] o f = f
  not_reported (rule p u ∷ rs) o (inl f) = true≢false (sym (eq-eqb u.number t.number (ap (λ (x : RefusalCode). x.number) f.1)) ∙ o.0)
  not_reported (rule p u ∷ rs) o (inr f) = not_reported rs o.1 f.1

  before_hold : (before rs : List Rule) → OtherNumbers t.number before → FirstFails (before ++ rs) t → AllHold before × FirstFails rs t
  before_hold [] rs o f = (tt, f)
  before_hold (rule p u ∷ before) rs o (inl f) = absurd (not_reported (rule p u ∷ []) (o.0, tt) (inl f))
  before_hold (rule p u ∷ before) rs o (inr f) = let (h, g) = before_hold before rs o.1 f.1 in ((f.0, h), g)

  hold_before : (before rs : List Rule) → AllHold before → FirstFails rs t → FirstFails (before ++ rs) t
  hold_before [] rs h f = f
  hold_before (rule p u ∷ before) rs h f = inr (h.0, hold_before before rs h.1 f)

  module _ (report : ℕ → RefusalCode) (holds : ℕ → Type 0) (rs : List Rule) where
    each_fails : (left first : ℕ) → OtherNumbers t.number rs → FirstFails (each_from report holds left first rs) t
        → (k : ℕ) × LowestFails holds left first k × (report k ≡ t)
    unfolding each_from
    each_fails zero first o f = absurd (not_reported rs o f)
    each_fails (suc left) first o (inl f) =
        (first, record { least = omega arith; most = omega arith; fails = f.0; before = λ j lo hi. absurd (omega arith) }, f.1)
    each_fails (suc left) first o (inr f) =
        let (k, r, q) = each_fails left (first + 1) o f.1 in (
          k,
          record {
            least = omega (arith, r.least);
            most = omega (arith, r.most);
            fails = r.fails;
            before = λ j lo hi. ⊎_elim (λ (q : first ≡ j). rw (sym q) f.0) (λ (q : first < j). r.before j (omega arith) hi) (eq-or-lt_of_le lo);
          },
          q,
        )

    fails_each : (k left first : ℕ) → LowestFails holds left first k → report k ≡ t → FirstFails (each_from report holds left first rs) t
    unfolding each_from
    fails_each k zero first r e = absurd (omega (arith, r.least, r.most))
    fails_each k (suc left) first r e =
        ⊎_elim (λ (q : first ≡ k). inl (λ h. r.fails (rw (sym q) h), ap report q ∙ e))
        (λ (q : first < k).
        inr (
          r.before first (omega arith) q,
          fails_each k left (first + 1)
              (record { least = omega arith; most = omega (arith, r.most); fails = r.fails; before = λ j lo hi. r.before j (omega arith) hi }) e,
        ))
        (eq-or-lt_of_le r.least)

    pub each_reported : (before : List Rule) (left first : ℕ) → OtherNumbers t.number before → OtherNumbers t.number rs
        → FirstFails (before ++ each_from report holds left first rs) t ↔ (AllHold before × ((k : ℕ) × LowestFails holds left first k × (report k ≡ t)))
    each_reported before left first o p = (
      λ f. let (h, g) = before_hold before (each_from report holds left first rs) o f in (h, each_fails left first p g),
      λ (h, (k, r, e)). hold_before before (each_from report holds left first rs) h (fails_each k left first r e),
    )

-- ---- What rules settle is answered by them.

module _ {A : Type 0} {rs : List Rule} (v : A) (a : Answer A) (s : Settled rs v a) where
  pub settled_by : By rs (Is v) a
  settled_by =
      record {
        accepts = λ w. (λ h. let p = subst (Settled rs v) h s in (p.0, sym p.1), λ p. all_accept rs v a s p.0 ∙ ap accepted (sym p.1));
        refuses = λ t. (λ h. subst (Settled rs v) h s, first_refuses rs v a s);
      }

pub by_checks : {A : Type 0} {cs : List Check} {rs : List Rule} (v : A) → AskFor cs rs → By rs (Is v) (first_wrong cs v)
by_checks {cs = cs} v asks = settled_by v (first_wrong cs v) (settled v asks)

pub at_most : (n m : ℕ) → (ltb n m ≡ false) ↔ (m ≤ n)
at_most n m = (ltb-false n m, le-ltb n m)

pub is_below : (n m : ℕ) → (leb n m ≡ false) ↔ (m < n)
is_below n m = (leb-false n m, lt-leb n m)

pub is_true : (b : Bool) → (not b ≡ false) ↔ (b ≡ true)
is_true b = (not-false b, ap not)
