-- Listing order: the nodes that a choice lists; each node before its children, and these in number order, each followed by its whole subtree.
-- Document 01, 'Reading keys', 'The lister'; document 02, C-12.
use Rattle.std.specs.Prelude.{Bool, true, cond, not, List, [], ◌∷◌, ◌++◌, ℕ, zero, suc, ◌+◌, eqb, ltb}
use Rattle.aff_format.specs.Answer.{Answer, check, refusal, first_wrong}
use Rattle.aff_format.specs.Kind.{is_void}
use Rattle.aff_format.specs.declared.kind.Kind.{Kind}
use Rattle.aff_reader.specs.Belongs.{reader_belongs}
use Rattle.aff_reader.specs.declared.reader.Reader.{Reader}
use Rattle.aff_nodes.specs.Recall.{kind_at, parent_at}
use Rattle.aff_listing.specs.declared.choice.Choice.{Choice}
use Rattle.aff_listing.specs.declared.choice.Choice.TheVariants.{AllNodes, NotVoid}

-- Whether a choice lists a node of a type. A node of count 0 that has a type is not Void; the root is Void.
abbrev pub lists : Choice → Kind → Bool
lists AllNodes kind = true
lists NotVoid kind = not (is_void kind)

-- A node, where `keep` holds of it.
unfoldable pub own : (ℕ → Bool) → ℕ → List ℕ
own keep n = cond (keep n) (n ∷ []) []

-- Every node is kept.
abbrev pub every : ℕ → Bool
every n = true

-- The listing of node k, by `below`, where k is a child of n; else nothing. The root, number 0, is no child.
unfoldable pub child_of : (ℕ → List ℕ) → (ℕ → ℕ) → ℕ → ℕ → List ℕ
child_of below parent n k = cond (eqb k 0) [] (cond (eqb (parent k) n) (below k) [])

-- The listings of the children of n numbered below k, in number order.
unfoldable pub children_to : (ℕ → List ℕ) → (ℕ → ℕ) → ℕ → ℕ → List ℕ
children_to below parent n zero = []
children_to below parent n (suc k) = children_to below parent n k ++ child_of below parent n k

-- A node, where `keep` holds of it; then its children in number order, each followed by its whole subtree, whether the node is kept or not: at most
-- `depth` levels, of the nodes numbered below `all`. nodes + 1 levels suffice for a record that belongs: a climb takes at most `nodes` steps, so no node
-- is deeper than `nodes` levels below the root, and with the root that is nodes + 1 levels. `listed_whole` (proofs/WholeLaws.antt): at nodes + 1 levels
-- a node's listing is the node, where it is kept, then the listings of its children, each with nodes + 1 levels again.
unfoldable pub preorder : (ℕ → Bool) → (ℕ → ℕ) → ℕ → ℕ → ℕ → List ℕ
preorder keep parent all zero n = []
preorder keep parent all (suc depth) n = own keep n ++ children_to (preorder keep parent all depth) parent n all

-- Some numbers without those of which `keep` does not hold. `preorder_kept` (proofs/KeptLaws.antt): the order by `keep` is the order of every node
-- without the others.
unfoldable pub kept : (ℕ → Bool) → List ℕ → List ℕ
kept keep [] = []
kept keep (n ∷ l) = own keep n ++ kept keep l

-- Of how many numbers below m `keep` holds.
unfoldable pub kept_below : (ℕ → Bool) → ℕ → ℕ
kept_below keep zero = 0
kept_below keep (suc m) = kept_below keep m + cond (keep m) 1 0

-- Whether a choice lists node k.
abbrev pub is_listed : List ℕ → List ℕ → Choice → ℕ → Bool
is_listed image entries choice k = lists choice (kind_at image entries k)

module _ (image : List ℕ) (reader : Reader) (strings entries : List ℕ) where
  -- The numbers of the nodes listed, in listing order: from the root on.
  abbrev pub listing_order : Choice → List ℕ
  listing_order choice = preorder (is_listed image entries choice) (parent_at image entries) (reader.nodes + 1) (reader.nodes + 1) 0

  -- How many nodes are listed: of the numbers 0 to `nodes` those that the choice lists.
  abbrev pub listed_count : Choice → ℕ
  listed_count choice = kept_below (is_listed image entries choice) (reader.nodes + 1)

  -- Listing: 24; 21 where the output has fewer places than there are nodes listed. It returns the count of numbers written.
  unfoldable pub listing_answer : Choice → ℕ → Answer ℕ
  listing_answer choice size =
      first_wrong
      (check (not (reader_belongs image reader strings entries)) (refusal 24)
      ∷ check (ltb size (listed_count choice)) (refusal 21)
      ∷ [])
      (listed_count choice)
