-- Laws of paths by parents: the path of each node is a path, and no two nodes have one path. Assumes nothing.
use mathlib.Core.Path.{◌≡◌, refl, sym, ap, ◌∙◌}
use mathlib.Core.Bool.{Bool, true, false, cond}
use mathlib.Core.Logic.{⊎_elim}
use mathlib.Core.List.{List, [], ◌∷◌, ◌++◌}
use Prim.Native.Nat.{ℕ, zero, suc, ◌≤◌, ◌<◌}
use native.Mathlib.Nat.{eq-or-lt_of_le}
use native.Mathlib.Omega.{arith}
use lib.Dec.{eqb}
use lib.ListN.{length}
use borrow.Author.Tests.{ne_eqb, eqb-true}
use Rattle.aff_format.specs.Bytes.{Octets}
use Rattle.aff_format.specs.Path.{is_path, joined_path, Subkeys, root, subkeys}
use Rattle.aff_format.specs.Subkey.{is_subkey}
use Rattle.aff_format.specs.Tree.{reaches_by, front_by, path_by}
use Rattle.aff_format.specs.declared.edition.Edition.{Edition}
use Rattle.aff_format.proofs.BytesLaws.{octets_nil, octets_cons, octets_append}
use Rattle.aff_format.proofs.ClimbLaws.{at_zero, le_or_lt, reaches_up}
use Rattle.aff_format.proofs.PathLaws.{joined_more, subkeys_more, ends_in_slash, last_slash, path_complete}
use Rattle.aff_format.proofs.SubkeyLaws.{subkey_no_slash, subkey_not_empty}

module _ (parent : ℕ → ℕ) (name : ℕ → List ℕ) where
  pub front_root : (steps : ℕ) → front_by parent name steps 0 ≡ []
  unfolding front_by
  front_root zero = refl
  front_root (suc steps) = refl

  -- The front of a node that is not the root: its parent's, a slash, its name.
  pub front_up : (steps n : ℕ) → (n ≡ 0 → ⊥) → front_by parent name (suc steps) n ≡ front_by parent name steps (parent n) ++ (47 ∷ name n)
  unfolding front_by
  front_up steps n h = rw (ne_eqb n 0)

  front_some : (steps n : ℕ) → (n ≡ 0 → ⊥) → front_by parent name (suc steps) n ≡ [] → ⊥
  front_some steps n h e = ends_in_slash (front_by parent name steps (parent n)) (name n) (sym (front_up steps n h) ∙ e)

  -- Where a climb is at the root after some steps, more change nothing.
  pub front_enough : (steps more n : ℕ) → reaches_by parent steps n ≡ true → steps ≤ more
      → front_by parent name more n ≡ front_by parent name steps n
  unfolding reaches_by
  front_enough zero more n e h = rw (eqb-true n 0 e) (front_root more ∙ sym (front_root 0))
  front_enough (suc steps) zero n e h = absurd (omega arith)
  front_enough (suc steps) (suc more) n e h =
      ⊎_elim (λ (z : n ≡ 0). rw z (front_root (suc more) ∙ sym (front_root (suc steps))))
      (λ (z : 0 < n).
      let f : n ≡ 0 → ⊥ = λ q. omega arith in
      front_up more n f ∙ ap (λ (l : List ℕ). l ++ (47 ∷ name n)) (front_enough steps more (parent n) (sym (reaches_up parent steps n f) ∙ e) (omega arith)) ∙ sym (front_up steps n f))
      (at_zero parent n)

  -- A climb that ends within some steps does so from the parent too: one more changes nothing.
  pub front_step : (steps n : ℕ) → (n ≡ 0 → ⊥) → reaches_by parent steps n ≡ true
      → front_by parent name steps n ≡ front_by parent name steps (parent n) ++ (47 ∷ name n)
  unfolding reaches_by
  front_step zero n h e = absurd (h (eqb-true n 0 e))
  front_step (suc steps) n h e =
      front_up steps n h
      ∙ ap (λ (l : List ℕ). l ++ (47 ∷ name n)) (sym (front_enough steps (suc steps) (parent n) (sym (reaches_up parent steps n h) ∙ e) (omega arith)))

  pub path_other : (steps n : ℕ) → (n ≡ 0 → ⊥) → path_by parent name steps n ≡ front_by parent name steps n
  path_other steps n h = rw (ne_eqb n 0 h)

  -- Names of bytes make paths of bytes.
  front_octets : ((k : ℕ) → Octets (name k)) → (steps n : ℕ) → Octets (front_by parent name steps n)
  unfolding front_by
  front_octets o zero n = octets_nil
  front_octets o (suc steps) n = go (eqb n 0) (front_octets o steps (parent n))
    where
      go : (b : Bool) → Octets (front_by parent name steps (parent n)) → Octets (cond b [] (front_by parent name steps (parent n) ++ (47 ∷ name n)))
      go true h = octets_nil
      go false h = octets_append (front_by parent name steps (parent n)) (47 ∷ name n) h (octets_cons 47 (name n) (omega arith) (o n))

  pub path_octets : ((k : ℕ) → Octets (name k)) → (steps n : ℕ) → Octets (path_by parent name steps n)
  path_octets o steps n = go (eqb n 0)
    where
      go : (b : Bool) → Octets (cond b (47 ∷ []) (front_by parent name steps n))
      go true = octets_cons 47 [] (omega arith) octets_nil
      go false = front_octets o steps n

-- Where parents and names agree on the nodes up to m, and parents stay among them, so do the fronts.
pub front_same : (parent parent' : ℕ → ℕ) (name name' : ℕ → List ℕ) (m : ℕ) → ((k : ℕ) → 0 < k → k ≤ m → parent k ≡ parent' k)
    → ((k : ℕ) → 0 < k → k ≤ m → name k ≡ name' k) → ((k : ℕ) → 0 < k → k ≤ m → parent k ≤ m)
    → (steps n : ℕ) → n ≤ m → front_by parent name steps n ≡ front_by parent' name' steps n
unfolding front_by
front_same parent parent' name name' m p q low zero n h = refl
front_same parent parent' name name' m p q low (suc steps) n h =
    ⊎_elim (λ (z : n ≡ 0). rw z (front_root parent name (suc steps) ∙ sym (front_root parent' name' (suc steps))))
    (λ (z : 0 < n).
    let f : n ≡ 0 → ⊥ = λ r. omega arith in
    front_up parent name steps n f
    ∙ ap (λ (l : List ℕ). l ++ (47 ∷ name n)) (front_same parent parent' name name' m p q low steps (parent n) (low n z h))
    ∙ rw (p n z h, q n z h) (sym (front_up parent' name' steps n f)))
    (at_zero parent n)

-- Nodes 1 to m whose names are subkeys and whose climbs reach the root.
module _ (e : Edition) (parent : ℕ → ℕ) (name : ℕ → List ℕ) (m : ℕ) (linked : (k : ℕ) → 0 < k → k ≤ m → parent k ≤ m)
    (climbs : (k : ℕ) → 0 < k → k ≤ m → reaches_by parent m k ≡ true) (subkey : (k : ℕ) → 0 < k → k ≤ m → is_subkey e (name k) ≡ true) where
  front_keys : (steps k : ℕ) → k ≤ m → (ks : List (List ℕ)) × Subkeys e ks × (front_by parent name steps k ≡ joined_path ks)
  unfolding front_by joined_path
  front_keys zero k h = ([], tt, refl)
  front_keys (suc steps) zero h = ([], tt, refl)
  front_keys (suc steps) (suc k) h = go (front_keys steps (parent (suc k)) (linked (suc k) (omega arith) h))
    where
      go : (ks : List (List ℕ)) × Subkeys e ks × (front_by parent name steps (parent (suc k)) ≡ joined_path ks)
          → (ks : List (List ℕ)) × Subkeys e ks × (front_by parent name (suc steps) (suc k) ≡ joined_path ks)
      go (ks, s, q) = (
        ks ++ (name (suc k) ∷ []),
        subkeys_more e ks (name (suc k)) s (subkey (suc k) (omega arith) h),
        front_up parent name steps (suc k) (λ z. omega arith) ∙ ap (λ (l : List ℕ). l ++ (47 ∷ name (suc k))) q ∙ sym (joined_more ks (name (suc k))),
      )

  path_ends_lem : (k : ℕ) → 0 < k → k ≤ m → path_by parent name m k ≡ front_by parent name m (parent k) ++ (47 ∷ name k)
  path_ends_lem k lo hi = path_other parent name m k (λ z. omega arith) ∙ front_step parent name m k (λ z. omega arith) (climbs k lo hi)

  -- The path of each node is a path.
  pub path_formed : (k : ℕ) → k ≤ m → is_path e (path_by parent name m k) ≡ true
  unfolding joined_path
  path_formed zero h = path_complete e (47 ∷ []) (root refl)
  path_formed (suc k) h = go (front_keys m (suc k) h)
    where
      go : (ks : List (List ℕ)) × Subkeys e ks × (front_by parent name m (suc k) ≡ joined_path ks) → is_path e (path_by parent name m (suc k)) ≡ true
      go ([], s, q) =
          absurd (ends_in_slash (front_by parent name m (parent (suc k))) (name (suc k)) (sym (path_ends_lem (suc k) (omega arith) h) ∙ path_other parent name m (suc k) (λ z. omega arith) ∙ q))
      go (x ∷ ks, s, q) = path_complete e _ (subkeys x ks s (path_other parent name m (suc k) (λ z. omega arith) ∙ q))

  -- Where besides no two siblings have one name, no two nodes have one path.
  module _ (siblings : (j k : ℕ) → 0 < j → j < k → k ≤ m → parent j ≡ parent k → name j ≡ name k → ⊥) where
    sibling_same : (j k : ℕ) → 0 < j → 0 < k → j ≤ m → k ≤ m → parent j ≡ parent k → name j ≡ name k → j ≡ k
    sibling_same j k lj lk hj hk p n =
        ⊎_elim (λ (l : j ≤ k). ⊎_elim (λ (q : j ≡ k). q) (λ (q : j < k). absurd (siblings j k lj q hk p n)) (eq-or-lt_of_le l))
        (λ (l : k < j). absurd (siblings k j lk l hj (sym p) (sym n)))
        (le_or_lt j k)

    -- Equal fronts end in equal names, and before these are the fronts of the parents.
    front_unique : (steps i j : ℕ) → i ≤ m → j ≤ m → reaches_by parent steps i ≡ true → reaches_by parent steps j ≡ true
        → front_by parent name steps i ≡ front_by parent name steps j → i ≡ j
    unfolding reaches_by
    front_unique zero i j hi hj r s h = eqb-true i 0 r ∙ sym (eqb-true j 0 s)
    front_unique (suc steps) zero zero hi hj r s h = refl
    front_unique (suc steps) zero (suc j) hi hj r s h =
        absurd (front_some parent name steps (suc j) (λ z. omega arith) (sym h ∙ front_root parent name (suc steps)))
    front_unique (suc steps) (suc i) zero hi hj r s h =
        absurd (front_some parent name steps (suc i) (λ z. omega arith) (h ∙ front_root parent name (suc steps)))
    front_unique (suc steps) (suc i) (suc j) hi hj r s h =
        let (f, n) =
        last_slash _ _ (name (suc i)) (name (suc j)) (subkey_no_slash e (name (suc i)) (subkey (suc i) (omega arith) hi))
        (subkey_no_slash e (name (suc j)) (subkey (suc j) (omega arith) hj))
        (sym (front_up parent name steps (suc i) (λ z. omega arith)) ∙ h ∙ front_up parent name steps (suc j) (λ z. omega arith)) in
        let p =
        front_unique steps (parent (suc i)) (parent (suc j)) (linked (suc i) (omega arith) hi) (linked (suc j) (omega arith) hj)
        (sym (reaches_up parent steps (suc i) (λ z. omega arith)) ∙ r) (sym (reaches_up parent steps (suc j) (λ z. omega arith)) ∙ s) f in
        sibling_same (suc i) (suc j) (omega arith) (omega arith) hi hj p n

    -- The root's path ends in no name.
    root_alone : (k : ℕ) → 0 < k → k ≤ m → 47 ∷ [] ≡ path_by parent name m k → ⊥
    root_alone k lo hi h =
        let (_, n) = last_slash [] (front_by parent name m (parent k)) [] (name k) tt (subkey_no_slash e (name k) (subkey k lo hi)) (h ∙ path_ends_lem k lo hi) in
        let z = ap length n in
        omega (arith, subkey_not_empty e (name k) (subkey k lo hi))

    pub path_unique : (i j : ℕ) → i ≤ m → j ≤ m → path_by parent name m i ≡ path_by parent name m j → i ≡ j
    path_unique zero zero hi hj h = refl
    path_unique zero (suc j) hi hj h = absurd (root_alone (suc j) (omega arith) hj h)
    path_unique (suc i) zero hi hj h = absurd (root_alone (suc i) (omega arith) hi (sym h))
    path_unique (suc i) (suc j) hi hj h =
        front_unique m (suc i) (suc j) hi hj (climbs (suc i) (omega arith) hi) (climbs (suc j) (omega arith) hj)
        (sym (path_other parent name m (suc i) (λ z. omega arith)) ∙ h ∙ path_other parent name m (suc j) (λ z. omega arith))
