-- Each node's children in number order, by a table: the lowest child of each node, and the next sibling of each.
use Rattle.std.specs.Prelude.{◌≡◌, List, ℕ, ◌+◌, ◌≤◌, ◌<◌, get_or}
use Rattle.aff_reader.specs.Opened.{opened_entry}
use Rattle.aff_reader.specs.declared.opened.Opened.{Opened}
use Rattle.aff_listing.specs.ListingOrder.{every, children_to, preorder}
use Rattle.aff_listing.specs.declared.links.Links.{Links}

-- The parent of a node, by its entry.
abbrev pub parent_of : Opened → ℕ → ℕ
parent_of o k = (opened_entry o k).parent

-- A node and its subtree in listing order, at most `depth` levels.
abbrev pub subtree : Opened → ℕ → ℕ → List ℕ
subtree o depth node = preorder every (parent_of o) (o.reader.nodes + 1) depth node

-- The subtrees of the children of a node numbered below k, in number order, each of at most `depth` levels.
abbrev pub subtrees : Opened → ℕ → ℕ → ℕ → List ℕ
subtrees o depth node k = children_to (subtree o depth) (parent_of o) node k

-- j is the lowest child of n from `from` on, or nodes + 1 where there is none.
pub record NextChild (parent : ℕ → ℕ) (nodes n from j : ℕ) : Type 0 where
  pub least : from ≤ j
  pub most : j ≤ nodes + 1
  pub is_child : j ≤ nodes → parent j ≡ n
  pub none_between : (i : ℕ) → from ≤ i → i < j → parent i ≡ n → ⊥

-- What a place after the table's end would hold.
abbrev pub no_links : Links
no_links = record { first = 0; next = 0 }

-- Of the nodes from `from` on, `first` is each node's lowest child, and `next` the next sibling of each.
pub record ChildTables (parent : ℕ → ℕ) (nodes from : ℕ) (links : List Links) : Type 0 where
  pub first_child : (n : ℕ) → n ≤ nodes → NextChild parent nodes n from (get_or links n no_links).first
  pub next_sibling : (k : ℕ) → from ≤ k → k ≤ nodes → NextChild parent nodes (parent k) (k + 1) (get_or links k no_links).next

-- Each node's parent exists.
pub record ParentsWithin (parent : ℕ → ℕ) (nodes : ℕ) : Type 0 where
  pub exists : (k : ℕ) → 0 < k → k ≤ nodes → parent k ≤ nodes

-- What a fill leaves: the first n nodes of a table have v as their lowest child.
pub record FrontFilled (v n : ℕ) (links : List Links) : Type 0 where
  pub each : (k : ℕ) → k < n → (get_or links k no_links).first ≡ v
