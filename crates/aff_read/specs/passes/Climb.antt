-- The climb from a node to the root, kept in a table: of each node its parent, and where its name begins and ends in the image.
use Rattle.std.specs.Prelude.{◌≡◌, List, ℕ, zero, suc, ◌-◌, ◌≤◌, ◌<◌, get_or, length}
use Rattle.aff_format.specs.Bytes.{part}
use Rattle.aff_format.specs.Limits.{node_limit}
use Rattle.aff_format.specs.Tree.{front_by}
use Rattle.aff_reader.specs.declared.reader.Reader.{Reader}
use Rattle.aff_nodes.specs.Recall.{parent_at, name_at}
use Rattle.aff_read.specs.declared.paths.Noted.{Noted}
use Rattle.aff_spelling.specs.Spelling.{spelled}
use Rattle.aff_spelling.specs.declared.spelling.Spelling.{Spelling}

-- The node that a climb has reached after so many steps.
unfoldable pub above : (ℕ → ℕ) → ℕ → ℕ → ℕ
above parent zero n = n
above parent (suc steps) n = above parent steps (parent n)

-- What the table holds of node k.
abbrev pub noted_at : List Noted → ℕ → Noted
noted_at table k = get_or table k (record { parent = 0; from = 0; end = 0 })

abbrev pub table_parent : List Noted → ℕ → ℕ
table_parent table k = (noted_at table k).parent

-- The name that begins and ends where a node's was stored.
abbrev pub noted_name : List ℕ → Noted → List ℕ
noted_name image n = part n.from (n.end - n.from) image

abbrev pub table_name : List ℕ → List Noted → ℕ → List ℕ
table_name image table k = noted_name image (noted_at table k)

-- The bytes before a child's slash, by the table, with each name in a spelling.
abbrev pub table_front : Spelling → List ℕ → List Noted → ℕ → ℕ → List ℕ
table_front s image table = front_by (table_parent table) (λ k. spelled s (table_name image table k))

-- The parent is the number of a node, and the name lies inside the image.
pub record NotedInside (image : List ℕ) (n : Noted) : Type 0 where
  pub parent : n.parent ≤ node_limit
  pub begins : n.from ≤ n.end
  pub ends : n.end ≤ length image

-- A table that holds only such. A table of zeros is one.
abbrev pub TableInside : List ℕ → List Noted → Type 0
TableInside image table = (k : ℕ) → NotedInside image (noted_at table k)

-- Node k is in the table.
pub record NodeNoted (image : List ℕ) (reader : Reader) (strings entries : List ℕ) (table : List Noted) (k : ℕ) : Type 0 where
  pub parent : table_parent table k ≡ parent_at image entries k
  pub name : table_name image table k ≡ name_at image reader strings entries k

-- A table after node k was stored in it: k is there, and each node that was there still is.
pub record NotedMore (image : List ℕ) (reader : Reader) (strings entries : List ℕ) (before after : List Noted) (k : ℕ) : Type 0 where
  pub inside : TableInside image after
  pub here : NodeNoted image reader strings entries after k
  pub stays : (j : ℕ) → NodeNoted image reader strings entries before j → NodeNoted image reader strings entries after j

-- The climb from a node ends at the root, and each node below the root on it is in the table.
pub record ClimbNoted (image : List ℕ) (reader : Reader) (strings entries : List ℕ) (table : List Noted) (node : ℕ) : Type 0 where
  pub inside : TableInside image table
  pub steps : ℕ
  pub ends : above (parent_at image entries) steps node ≡ 0
  pub noted : (j : ℕ) → j < steps → NodeNoted image reader strings entries table (above (parent_at image entries) j node)
