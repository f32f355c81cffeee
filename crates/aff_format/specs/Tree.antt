-- The tree that a file shows and that the writer's calls describe: document 01, 'Writing keys'.
use Rattle.std.specs.Prelude.{Bool, true, cond, List, [], ◌∷◌, ◌++◌, ℕ, zero, suc, eqb, length, get_or}
use Rattle.aff_format.specs.Element.{count_in}
use Rattle.aff_format.specs.declared.kind.Kind.{Kind}
use Rattle.aff_format.specs.declared.kind.Kind.TheVariants.{Void}

pub record Node : Type 0 where
  pub parent : ℕ
  pub name : List ℕ
  pub kind : Kind
  pub bytes : List ℕ

-- The nodes besides the root in the order of their numbers, from 1 on.
abbrev pub Tree : Type 0
Tree = List Node

-- Node 0, nameless and Void.
abbrev pub root : Node
root = record { parent = 0; name = []; kind = Void; bytes = [] }

abbrev pub tree_node : Tree → ℕ → Node
tree_node tree n = get_or (root ∷ tree) n root

-- A node's count: its bytes divided by the element's; 0 of a Void one.
abbrev pub tree_count : Tree → ℕ → ℕ
tree_count tree n = count_in (tree_node tree n).kind (tree_node tree n).bytes

-- Whether a climb by parents is at the root after so many steps at most: document 01, 'every climb by parents reaches the root'.
unfoldable pub reaches_by : (ℕ → ℕ) → ℕ → ℕ → Bool
reaches_by parent zero n = eqb n 0
reaches_by parent (suc steps) n = cond (eqb n 0) true (reaches_by parent steps (parent n))

-- The bytes before a child's slash, by parents and names: nothing for the root, else the node's path; at most so many steps up.
unfoldable pub front_by : (ℕ → ℕ) → (ℕ → List ℕ) → ℕ → ℕ → List ℕ
front_by parent name zero n = []
front_by parent name (suc steps) n = cond (eqb n 0) [] (front_by parent name steps (parent n) ++ (47 ∷ name n))

-- A node's path, root first: `/` for the root; for another its parent's, `/` and its name.
abbrev pub path_by : (ℕ → ℕ) → (ℕ → List ℕ) → ℕ → ℕ → List ℕ
path_by parent name steps n = cond (eqb n 0) (47 ∷ []) (front_by parent name steps n)

-- Paths go by parents; a climb takes at most as many steps as there are nodes.
abbrev pub path_in : Tree → ℕ → List ℕ
path_in tree n = path_by (λ k. (tree_node tree k).parent) (λ k. (tree_node tree k).name) (length tree) n
