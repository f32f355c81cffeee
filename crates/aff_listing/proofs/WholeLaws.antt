-- The depth of listing order cuts nothing: one level more has the same nodes, so it is as long, and a longer listing of no more nodes is
-- the same. So a node's listing is the node, where it is listed, then its children in number order, each followed by its whole subtree. Assumes nothing.
use mathlib.Core.Path.{◌≡◌, refl, sym, ap, ◌∙◌}
use mathlib.Core.Bool.{Bool, true, false, cond}
use mathlib.Core.List.{List, [], ◌∷◌, ◌++◌}
use Prim.Native.Nat.{ℕ, zero, suc, ◌+◌, ◌≤◌, ◌<◌}
use native.Mathlib.Numerals.{add-one}
use native.Mathlib.Omega.{arith}
use borrow.Author.Tests.{ne_eqb}
use lib.Dec.{eqb}
use lib.ListN.{length, length-append}
use Rattle.aff_format.specs.Tree.{reaches_by}
use Rattle.aff_format.proofs.ClimbLaws.{absurd_bool, reaches_up}
use Rattle.aff_reader.specs.Belongs.{ReaderBelongs}
use Rattle.aff_reader.specs.declared.reader.Reader.{Reader}
use Rattle.aff_listing.specs.ListingOrder.{own, every, child_of, children_to, preorder, kept, is_listed}
use Rattle.aff_listing.specs.Once.{occurrences}
use Rattle.aff_nodes.specs.Recall.{parent_at}
use Rattle.aff_listing.specs.declared.choice.Choice.{Choice}
use Rattle.aff_listing.proofs.KeptLaws.{children_kept, preorder_kept}
use Rattle.aff_listing.proofs.OnceLaws.{total, total_length, step, root_count, only_nodes, linked, reached}

-- b is at least as long as a, and is a where it is no longer.
abbrev Within : List ℕ → List ℕ → Type 0
Within a b = (length a ≤ length b) × (length b ≤ length a → a ≡ b)

within_append : (a b c d : List ℕ) → Within a b → Within c d → Within (a ++ c) (b ++ d)
within_append a b c d v w =
    let p = length-append a c in
    let q = length-append b d in
    (omega arith, λ h. let e = v.1 (omega arith) in let f = w.1 (omega arith) in rw (e, f))

module _ (parent : ℕ → ℕ) where
  child_within : (f g : ℕ → List ℕ) (n c : ℕ) → Within (f c) (g c) → Within (child_of f parent n c) (child_of g parent n c)
  unfolding child_of
  child_within f g n c w = by (eqb c 0) (eqb (parent c) n)
    where
      by : (root child : Bool) → Within (cond root [] (cond child (f c) [])) (cond root [] (cond child (g c) []))
      by true child = (omega arith, λ h. refl)
      by false true = w
      by false false = (omega arith, λ h. refl)

  children_within : (f g : ℕ → List ℕ) (n m : ℕ) → ((c : ℕ) → Within (f c) (g c)) → Within (children_to f parent n m) (children_to g parent n m)
  unfolding children_to
  children_within f g n zero w = (omega arith, λ h. refl)
  children_within f g n (suc m) w =
      within_append (children_to f parent n m) (children_to g parent n m) (child_of f parent n m) (child_of g parent n m)
      (children_within f g n m w) (child_within f g n m (w m))

  module _ (all : ℕ) where
    level_within : (depth n : ℕ) → Within (preorder every parent all depth n) (preorder every parent all (suc depth) n)
    unfolding preorder own
    level_within zero n = (omega arith, λ h. absurd (omega arith))
    level_within (suc depth) n =
        let w = children_within (preorder every parent all depth) (preorder every parent all (suc depth)) n all (level_within depth) in
        (omega arith, λ h. let e = w.1 (omega arith) in rw e)

    module _ (links : (k : ℕ) → 0 < k → k < all → parent k < all) where
      -- A node whose climb ends within so many steps occurs as often one level deeper.
      settled_count : (steps k n : ℕ) → k < all → reaches_by parent steps k ≡ true
          → occurrences k (preorder every parent all (suc (suc steps)) n) ≡ occurrences k (preorder every parent all (suc steps) n)
      unfolding reaches_by
      settled_count zero zero n h e = root_count parent all 1 n ∙ sym (root_count parent all 0 n)
      settled_count zero (suc k) n h e = absurd_bool (sym (ne_eqb (suc k) 0 (λ q. omega arith)) ∙ e)
      settled_count (suc steps) zero n h e = root_count parent all (suc (suc steps)) n ∙ sym (root_count parent all (suc steps) n)
      settled_count (suc steps) (suc k) n h e =
          omega (
            arith,
            step parent all (suc (suc steps)) n (suc k) (λ q. omega arith) h,
            step parent all (suc steps) n (suc k) (λ q. omega arith) h,
            settled_count steps (parent (suc k)) n (links (suc k) (omega arith) h) (sym (reaches_up parent steps (suc k) (λ q. omega arith)) ∙ e),
          )

total_same : (m : ℕ) (l r : List ℕ) → ((k : ℕ) → k < m → occurrences k l ≡ occurrences k r) → total m l ≡ total m r
unfolding total
total_same zero l r h = refl
total_same (suc m) l r h = omega (arith, total_same m l r (λ k g. h k (omega arith)), h m (omega arith))

-- The listing of a node by a choice; listing order is the root's.
abbrev pub listed : List ℕ → Reader → List ℕ → Choice → ℕ → List ℕ
listed image reader entries choice n = preorder (is_listed image entries choice) (parent_at image entries) (reader.nodes + 1) (reader.nodes + 1) n

module _ {image : List ℕ} {reader : Reader} {strings entries : List ℕ} (b : ReaderBelongs image reader strings entries) where
  -- The listing of a node with every node.
  abbrev full : ℕ → List ℕ
  full = preorder every (parent_at image entries) (reader.nodes + 1) (reader.nodes + 1)

  settled : (n : ℕ) → n ≤ reader.nodes
      → preorder every (parent_at image entries) (reader.nodes + 1) (suc reader.nodes) n
      ≡ preorder every (parent_at image entries) (reader.nodes + 1) (suc (suc reader.nodes)) n
  settled n h =
      let p = parent_at image entries in
      let all = reader.nodes + 1 in
      let d = reader.nodes in
      let s : total all (preorder every p all (suc (suc d)) n) ≡ total all (preorder every p all (suc d) n) =
      total_same all _ _ (λ k g. settled_count p all (linked b) d k n g (reached b k (omega arith))) in
      (level_within p all (suc d) n).1
      (omega (
        arith,
        s,
        total_length all (preorder every p all (suc d) n) (only_nodes p all (suc d) n (omega arith)),
        total_length all (preorder every p all (suc (suc d)) n) (only_nodes p all (suc (suc d)) n (omega arith)),
      ))

  full_whole : (n : ℕ) → n ≤ reader.nodes → full n ≡ n ∷ children_to full (parent_at image entries) n (reader.nodes + 1)
  unfolding preorder own
  full_whole n h =
      ap (λ (d : ℕ). preorder every (parent_at image entries) (reader.nodes + 1) d n) (add-one reader.nodes)
      ∙ settled n h
      ∙ ap (λ (d : ℕ). n ∷ children_to (preorder every (parent_at image entries) (reader.nodes + 1) d) (parent_at image entries) n (reader.nodes + 1)) (sym (add-one reader.nodes))

  -- For every choice, by the listing with every node without those that are not listed.
  pub listed_whole : (choice : Choice) (n : ℕ) → n ≤ reader.nodes
      → listed image reader entries choice n
      ≡ own (is_listed image entries choice) n ++ children_to (listed image reader entries choice) (parent_at image entries) n (reader.nodes + 1)
  unfolding kept
  listed_whole choice n h =
      let p = parent_at image entries in
      let all = reader.nodes + 1 in
      let keep = is_listed image entries choice in
      preorder_kept keep p all all n
      ∙ ap (kept keep) (full_whole n h)
      ∙ ap (λ (l : List ℕ). own keep n ++ l) (sym (children_kept keep p (listed image reader entries choice) full n all (preorder_kept keep p all all)))
