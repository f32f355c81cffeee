-- The nodes that a choice lists, for a record that belongs: each once, and no other number; how many they are; and how they are
-- written. Assumes nothing.
use mathlib.Core.Path.{◌≡◌, refl, sym, ap, ◌∙◌}
use mathlib.Core.Bool.{Bool, true, false, cond}
use mathlib.Core.List.{List, [], ◌∷◌, ◌++◌}
use mathlib.Core.Logic.{⊎_elim}
use Prim.Native.Nat.{ℕ, ◌+◌, ◌≤◌, ◌<◌}
use native.Mathlib.Omega.{arith}
use lib.ListN.{length, get_or, take, drop}
use Rattle.aff_reader.specs.Belongs.{ReaderBelongs, reader_belongs}
use Rattle.aff_reader.proofs.BelongsLaws.{belongs_record}
use Rattle.aff_reader.specs.declared.reader.Reader.{Reader}
use Rattle.aff_tables.proofs.OrderLaws.{split}
use Rattle.aff_listing.specs.ListingOrder.{every, preorder, kept, is_listed, listing_order, listed_count}
use Rattle.aff_listing.specs.Once.{occurrences}
use Rattle.aff_nodes.specs.Recall.{parent_at}
use Rattle.aff_listing.specs.declared.choice.Choice.{Choice}
use Rattle.aff_listing.specs.declared.choice.Choice.TheVariants.{AllNodes}
use Rattle.aff_format.specs.passes.Written.{Written}
use Rattle.aff_listing.proofs.KeptLaws.{preorder_kept, kept_count, kept_length, kept_none, kept_most, every_below}
use Rattle.aff_listing.proofs.OnceLaws.{occurs, cond_zero, all_once, all_only}
use Rattle.aff_format.proofs.WrittenLaws.{written_same, written_front, written_taken}

module _ {image : List ℕ} {reader : Reader} {strings entries : List ℕ} (b : ReaderBelongs image reader strings entries) (choice : Choice) where
  abbrev keep : ℕ → Bool
  keep = is_listed image entries choice

  abbrev order : List ℕ
  order = listing_order image reader strings entries choice

  -- The order of every node.
  abbrev full : List ℕ
  full = preorder every (parent_at image entries) (reader.nodes + 1) (reader.nodes + 1) 0

  order_kept : order ≡ kept keep full
  order_kept = preorder_kept keep (parent_at image entries) (reader.nodes + 1) (reader.nodes + 1) 0

  order_occurrences : (k : ℕ) → occurrences k order ≡ cond (keep k) (occurrences k full) 0
  order_occurrences k = ap (occurrences k) order_kept ∙ kept_count keep k full

  -- A node exactly once where it is listed, and else not at all.
  pub order_count : (k : ℕ) → k ≤ reader.nodes → occurrences k order ≡ cond (keep k) 1 0
  order_count k h = order_occurrences k ∙ ap (λ (j : ℕ). cond (keep k) j 0) (all_once b k h)

  -- No other number.
  pub order_only : (k : ℕ) → reader.nodes < k → occurrences k order ≡ 0
  order_only k h = order_occurrences k ∙ cond_zero (keep k) (occurrences k full) (all_only b k (omega arith))

  pub order_exist : (k : ℕ) → k < length order → get_or order k 0 ≤ reader.nodes
  order_exist k h =
      ⊎_elim (λ (q : reader.nodes < get_or order k 0). absurd (omega (arith, occurs order k h, order_only (get_or order k 0) q))) (λ q. q)
      (split reader.nodes (get_or order k 0))

  pub order_length : length order ≡ listed_count image reader strings entries choice
  order_length = ap length order_kept ∙ kept_length keep (reader.nodes + 1) full (λ k g. all_once b k (omega arith)) (all_only b)

  pub count_most : listed_count image reader strings entries choice ≤ reader.nodes + 1
  count_most = kept_most keep (reader.nodes + 1)

  -- Where no node is listed, there is no number.
  pub order_none : ((k : ℕ) → k ≤ reader.nodes → keep k ≡ false) → order ≡ []
  order_none h = empty order (order_length ∙ kept_none keep (reader.nodes + 1) (λ k g. h k (omega arith)))
    where
      empty : (l : List ℕ) → length l ≡ 0 → l ≡ []
      empty [] e = refl
      empty (x ∷ l) e = absurd (omega arith)

-- The order of all nodes in a table, by parents copied once; then those listed are stored.
module _ {image : List ℕ} {reader : Reader} {strings entries : List ℕ} (b : ReaderBelongs image reader strings entries) where
  abbrev all : List ℕ
  all = listing_order image reader strings entries AllNodes

  pub all_length : length all ≡ reader.nodes + 1
  all_length = order_length b AllNodes ∙ every_below (reader.nodes + 1)

  module _ (choice : Choice) {o p : List ℕ} {count : ℕ} (w : Written 0 all o p count) where
    pub all_few : length p ≡ 2049 → count ≤ length p
    all_few h = omega (arith, w.ends, all_length, b.few_nodes)

    listed_kept : kept (is_listed image entries choice) (take count p) ≡ listing_order image reader strings entries choice
    listed_kept = ap (kept (is_listed image entries choice)) (written_taken w) ∙ sym (order_kept b choice)

    pub listed_fits : (out : List ℕ) → listed_count image reader strings entries choice ≤ length out
        → length (kept (is_listed image entries choice) (take count p)) ≤ length out
    listed_fits out h = omega (arith, ap length listed_kept, order_length b choice)

    pub listed_written : {out q : List ℕ} {end : ℕ} → Written 0 (kept (is_listed image entries choice) (take count p)) out q end
        → (end ≡ listed_count image reader strings entries choice) × (q ≡ listing_order image reader strings entries choice ++ drop (length (listing_order image reader strings entries choice)) out)
    listed_written v = let f = written_front (written_same listed_kept v) in (f.0 ∙ order_length b choice, f.1)

-- By the test itself, for an attribute to name: a table of 2,049 numbers has space for the order of all nodes.
pub all_fits : (image : List ℕ) (reader : Reader) (strings entries : List ℕ) → reader_belongs image reader strings entries ≡ true
    → length (preorder every (parent_at image entries) (reader.nodes + 1) (reader.nodes + 1) 0) ≤ 2049
all_fits image reader strings entries belongs = let b = belongs_record belongs in omega (arith, all_length b, b.few_nodes)
