-- The order of all nodes has each node exactly once and nothing else, for a record that belongs: k is below n in so many levels where k is n,
-- or k's parent is there in one level less; every climb reaches the root. Assumes nothing.
use mathlib.Core.Path.{◌≡◌, refl, sym, ap, ◌∙◌}
use mathlib.Core.Bool.{Bool, true, false, cond}
use mathlib.Core.List.{List, [], ◌∷◌, ◌++◌}
use mathlib.Core.Logic.{⊎_elim}
use Prim.Native.Nat.{ℕ, zero, suc, ◌+◌, ◌≤◌, ◌<◌}
use native.Mathlib.Nat.{zero-add, eq-or-lt_of_le}
use native.Mathlib.Numerals.{add-one}
use native.Mathlib.Omega.{arith}
use borrow.Author.Tests.{eq-eqb, ne_eqb}
use lib.Dec.{eqb}
use lib.ListN.{length, get_or}
use Rattle.aff_format.specs.Tree.{reaches_by}
use Rattle.aff_format.proofs.ClimbLaws.{absurd_bool, reaches_root, reaches_up}
use Rattle.aff_reader.specs.Belongs.{ReaderBelongs}
use Rattle.aff_reader.specs.declared.reader.Reader.{Reader}
use Rattle.aff_tables.proofs.OrderLaws.{split}
use Rattle.aff_listing.specs.ListingOrder.{own, every, child_of, children_to, preorder}
use Rattle.aff_listing.specs.Once.{hit, occurrences}
use Rattle.aff_nodes.specs.Recall.{parent_at}

-- ---- Occurrences.

pub hit_same : (k x : ℕ) → k ≡ x → hit k x ≡ 1
unfolding hit
hit_same k x e = rw (eq-eqb k x e)

pub hit_other : (k x : ℕ) → (k ≡ x → ⊥) → hit k x ≡ 0
unfolding hit
hit_other k x e = rw (ne_eqb k x e)

pub occurrences_append : (k : ℕ) (a b : List ℕ) → occurrences k (a ++ b) ≡ occurrences k a + occurrences k b
unfolding occurrences
occurrences_append k [] b = sym (zero-add (occurrences k b))
occurrences_append k (x ∷ a) b = omega (arith, occurrences_append k a b)

-- A number that is in a list occurs in it.
pub occurs : (l : List ℕ) (k : ℕ) → k < length l → 0 < occurrences (get_or l k 0) l
unfolding occurrences hit
occurs [] k h = absurd (omega arith)
occurs (x ∷ l) zero h = rw (eq-eqb x x refl) (omega arith)
occurs (x ∷ l) (suc k) h = omega (arith, occurs l k (omega arith))

-- The occurrences of all numbers below m.
unfoldable pub total : ℕ → List ℕ → ℕ
total zero l = 0
total (suc m) l = total m l + occurrences m l

total_nil : (m : ℕ) → total m [] ≡ 0
unfolding total occurrences
total_nil zero = refl
total_nil (suc m) = omega (arith, total_nil m)

total_past : (m x : ℕ) (l : List ℕ) → m ≤ x → total m (x ∷ l) ≡ total m l
unfolding total occurrences
total_past zero x l h = refl
total_past (suc m) x l h = omega (arith, total_past m x l (omega arith), hit_other m x (λ e. omega arith))

total_cons : (m x : ℕ) (l : List ℕ) → x < m → total m (x ∷ l) ≡ suc (total m l)
unfolding total occurrences
total_cons zero x l h = absurd (omega arith)
total_cons (suc m) x l h =
    let q : x ≤ m = omega arith in
    ⊎_elim (λ e. omega (arith, total_past m x l (omega arith), hit_same m x (sym e)))
    (λ g. omega (arith, total_cons m x l g, hit_other m x (λ e. omega arith)))
    (eq-or-lt_of_le q)

-- No number from m on occurs in l.
abbrev pub Below : ℕ → List ℕ → Type 0
Below m l = (k : ℕ) → m ≤ k → occurrences k l ≡ 0

head_below : (m x : ℕ) (l : List ℕ) → Below m (x ∷ l) → x < m
unfolding occurrences
head_below m x l h =
    ⊎_elim (λ g. g) (λ (g : m ≤ x). absurd (omega (arith, h x g, hit_same x x refl))) (split x m)

pub total_length : (m : ℕ) (l : List ℕ) → Below m l → length l ≡ total m l
unfolding occurrences
total_length m [] h = sym (total_nil m)
total_length m (x ∷ l) h = omega (arith, total_length m l (λ k g. omega (arith, h k g)), total_cons m x l (head_below m x l h))

pub cond_zero : (b : Bool) (x : ℕ) → x ≡ 0 → cond b x 0 ≡ 0
cond_zero true x e = e
cond_zero false x e = refl

pub cond_add : (b : Bool) (x y : ℕ) → cond b (x + y) 0 ≡ cond b x 0 + cond b y 0
cond_add true x y = refl
cond_add false x y = refl

-- ---- Occurrences in a preorder.

module _ (parent : ℕ → ℕ) where
  -- c is a child of n.
  is_child : ℕ → ℕ → Bool
  is_child n c = cond (eqb c 0) false (eqb (parent c) n)

  child_count : (f : ℕ → List ℕ) (n k c : ℕ) → occurrences k (child_of f parent n c) ≡ cond (is_child n c) (occurrences k (f c)) 0
  unfolding child_of is_child occurrences
  child_count f n k c = by (eqb c 0) (eqb (parent c) n)
    where
      by : (root child : Bool) → occurrences k (cond root [] (cond child (f c) [])) ≡ cond (cond root false child) (occurrences k (f c)) 0
      by true child = refl
      by false true = refl
      by false false = refl

  -- How many children of n below m are k.
  mark : ℕ → ℕ → ℕ → ℕ
  mark n k zero = 0
  mark n k (suc m) = mark n k m + cond (is_child n m) (hit k m) 0

  mark_below : (n k m : ℕ) → m ≤ k → mark n k m ≡ 0
  unfolding mark
  mark_below n k zero h = refl
  mark_below n k (suc m) h = omega (arith, mark_below n k m (omega arith), cond_zero (is_child n m) (hit k m) (hit_other k m (λ e. omega arith)))

  mark_above : (n k m : ℕ) → k < m → mark n k m ≡ cond (is_child n k) 1 0
  unfolding mark
  mark_above n k zero h = absurd (omega arith)
  mark_above n k (suc m) h =
      let q : k ≤ m = omega arith in
      ⊎_elim
      (λ e.
      ap (λ (j : ℕ). j + cond (is_child n m) (hit k m) 0) (mark_below n k m (omega arith))
      ∙ zero-add (cond (is_child n m) (hit k m) 0)
      ∙ ap (λ (j : ℕ). cond (is_child n m) j 0) (hit_same k m e)
      ∙ ap (λ (j : ℕ). cond (is_child n j) 1 0) (sym e))
      (λ g. omega (arith, mark_above n k m g, cond_zero (is_child n m) (hit k m) (hit_other k m (λ e. omega arith))))
      (eq-or-lt_of_le q)

  mark_all : (n k m : ℕ) → (k ≡ 0 → ⊥) → k < m → mark n k m ≡ hit (parent k) n
  unfolding is_child hit
  mark_all n k m z h = mark_above n k m h ∙ rw (ne_eqb k 0 z)

  -- Where each subtree by f has k as that by g has k's parent, and once more at k itself, so have the children's.
  children_count : (f g : ℕ → List ℕ) (n k m : ℕ) → ((c : ℕ) → occurrences k (f c) ≡ hit k c + occurrences (parent k) (g c))
      → occurrences k (children_to f parent n m) ≡ mark n k m + occurrences (parent k) (children_to g parent n m)
  unfolding children_to mark occurrences
  children_count f g n k zero h = refl
  children_count f g n k (suc m) h =
      let p = parent k in
      let a : occurrences k (child_of f parent n m) ≡ cond (is_child n m) (hit k m) 0 + cond (is_child n m) (occurrences p (g m)) 0 =
      child_count f n k m ∙ ap (λ (j : ℕ). cond (is_child n m) j 0) (h m) ∙ cond_add (is_child n m) (hit k m) (occurrences p (g m)) in
      omega (
        arith,
        a,
        child_count g n p m,
        children_count f g n k m h,
        occurrences_append k (children_to f parent n m) (child_of f parent n m),
        occurrences_append p (children_to g parent n m) (child_of g parent n m),
      )

  -- Where no subtree of another node than the root has k, the children's have none.
  child_without : (f : ℕ → List ℕ) (n k c : ℕ) → ((c ≡ 0 → ⊥) → occurrences k (f c) ≡ 0) → occurrences k (child_of f parent n c) ≡ 0
  unfolding child_of occurrences
  child_without f n k zero h = refl
  child_without f n k (suc c) h = child_count f n k (suc c) ∙ cond_zero (is_child n (suc c)) (occurrences k (f (suc c))) (h (λ e. omega arith))

  children_without : (f : ℕ → List ℕ) (n k m : ℕ) → ((c : ℕ) → c < m → (c ≡ 0 → ⊥) → occurrences k (f c) ≡ 0) → occurrences k (children_to f parent n m) ≡ 0
  unfolding children_to occurrences
  children_without f n k zero h = refl
  children_without f n k (suc m) h =
      omega (
        arith,
        children_without f n k m (λ c l. h c (omega arith)),
        child_without f n k m (h m (omega arith)),
        occurrences_append k (children_to f parent n m) (child_of f parent n m),
      )

  module _ (all : ℕ) where
    -- k below n in so many levels is k's parent below n in one less, or k is n.
    pub step : (depth n k : ℕ) → (k ≡ 0 → ⊥) → k < all → occurrences k (preorder every parent all (suc depth) n) ≡ hit k n + occurrences (parent k) (preorder every parent all depth n)
    unfolding preorder own occurrences
    step zero n k z h = ap (λ (j : ℕ). hit k n + j) (children_without (preorder every parent all 0) n k all (λ c l z. refl))
    step (suc depth) n k z h =
        omega (arith, children_count (preorder every parent all (suc depth)) (preorder every parent all depth) n k all (λ c. step depth c k z h), mark_all n k all z h)

    -- The root is at the front only.
    root_once : (depth n : ℕ) → occurrences 0 (preorder every parent all depth n) ≤ hit 0 n
    unfolding preorder own occurrences
    root_once zero n = omega arith
    root_once (suc depth) n =
        omega (arith, children_without (preorder every parent all depth) n 0 all (λ c l z. omega (arith, root_once depth c, hit_other 0 c (λ e. z (sym e)))))

    pub root_count : (depth n : ℕ) → occurrences 0 (preorder every parent all (suc depth) n) ≡ hit 0 n
    unfolding preorder own occurrences
    root_count depth n = omega (arith, root_once (suc depth) n)

    pub only_nodes : (depth n : ℕ) → n < all → Below all (preorder every parent all depth n)
    unfolding preorder own occurrences
    only_nodes zero n h k g = refl
    only_nodes (suc depth) n h k g =
        omega (arith, hit_other k n (λ e. omega arith), children_without (preorder every parent all depth) n k all (λ c l z. only_nodes depth c l k g))

    module _ (linked : (k : ℕ) → 0 < k → k < all → parent k < all) where
      -- A node whose climb reaches the root is below it once.
      climbed_once : (steps k : ℕ) → k < all → reaches_by parent steps k ≡ true → occurrences k (preorder every parent all (suc steps) 0) ≡ 1
      unfolding reaches_by
      climbed_once zero zero h e = root_count 0 0 ∙ hit_same 0 0 refl
      climbed_once zero (suc k) h e = absurd_bool (sym (ne_eqb (suc k) 0 (λ q. omega arith)) ∙ e)
      climbed_once (suc steps) zero h e = root_count (suc steps) 0 ∙ hit_same 0 0 refl
      climbed_once (suc steps) (suc k) h e =
          omega (
            arith,
            step (suc steps) 0 (suc k) (λ q. omega arith) h,
            climbed_once steps (parent (suc k)) (linked (suc k) (omega arith) h) (sym (reaches_up parent steps (suc k) (λ q. omega arith)) ∙ e),
            hit_other (suc k) 0 (λ q. omega arith),
          )

-- ---- The order of all nodes.

module _ {image : List ℕ} {reader : Reader} {strings entries : List ℕ} (b : ReaderBelongs image reader strings entries) where
  pub linked : (k : ℕ) → 0 < k → k < reader.nodes + 1 → parent_at image entries k < reader.nodes + 1
  linked k z h = let p = b.parent_exists k z (omega arith) in omega arith

  pub reached : (k : ℕ) → k ≤ reader.nodes → reaches_by (parent_at image entries) reader.nodes k ≡ true
  reached zero h = reaches_root (parent_at image entries) reader.nodes
  reached (suc k) h = b.climb_ends (suc k) (omega arith) h

  -- Each node exactly once, and no other number.
  pub all_once : (k : ℕ) → k ≤ reader.nodes → occurrences k (preorder every (parent_at image entries) (reader.nodes + 1) (reader.nodes + 1) 0) ≡ 1
  all_once k h =
      ap (λ (d : ℕ). occurrences k (preorder every (parent_at image entries) (reader.nodes + 1) d 0)) (add-one reader.nodes)
      ∙ climbed_once (parent_at image entries) (reader.nodes + 1) linked reader.nodes k (omega arith) (reached k h)

  pub all_only : Below (reader.nodes + 1) (preorder every (parent_at image entries) (reader.nodes + 1) (reader.nodes + 1) 0)
  all_only k h = only_nodes (parent_at image entries) (reader.nodes + 1) (reader.nodes + 1) 0 (omega arith) k h
