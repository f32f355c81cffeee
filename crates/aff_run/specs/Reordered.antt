-- The same puts in any order (request C-23).
use Rattle.std.specs.Prelude.{◌≡◌, Bool, true, false, List, [], ◌∷◌, ◌++◌, ℕ, suc, ◌≤◌, length}
use Rattle.aff_format.specs.Answer.{Answer}
use Rattle.aff_format.specs.Kind.{kind_code, kind_of, element_size}
use Rattle.aff_format.specs.Tree.{Tree, tree_node}
use Rattle.aff_format.specs.declared.kind.Kind.TheVariants.{Void}
use Rattle.aff_write.specs.Put.{data_kind}
use Rattle.aff_run.specs.Run.{Call, make, put, close, is_accepted}

-- What a put is given besides its allowance.
pub record PutData : Type 0 where
  pub node : ℕ
  pub type : ℕ
  pub bytes : List ℕ

abbrev pub put_with : PutData → ℕ → Call
put_with d allowance = put d.node d.type d.bytes allowance

-- Some puts that follow each other; `allowance k` is that of put k, counted from 0.
abbrev pub puts_with : List PutData → (ℕ → ℕ) → List Call
puts_with [] allowance = []
puts_with (d ∷ ds) allowance = put_with d (allowance 0) ∷ puts_with ds (λ k. allowance (suc k))

-- Two lists of the same puts, each as often, in any order: the first of the one is somewhere in the other, and the rest are those around it.
abbrev pub Reordered : List PutData → List PutData → Type 0
Reordered [] others = others ≡ []
Reordered (d ∷ ds) others = (front : List PutData) × (back : List PutData) × (others ≡ front ++ (d ∷ back)) × Reordered ds (front ++ back)

-- None of some puts is to a node.
abbrev pub Apart : ℕ → List PutData → Type 0
Apart n [] = Unit {0}
Apart n (d ∷ ds) = (n ≡ d.node → ⊥) × Apart n ds

-- The length of the last of some puts.
abbrev pub last_length : List PutData → ℕ
last_length [] = 0
last_length (d ∷ []) = length d.bytes
last_length (d ∷ f ∷ ds) = last_length (f ∷ ds)

-- Elements of 8 or 16 bytes: Doubles and Complex numbers.
abbrev pub Eights : List PutData → Type 0
Eights [] = Unit {0}
Eights (d ∷ ds) = (8 ≤ element_size (data_kind (kind_of d.type))) × Eights ds

-- ---- The accepted makes and puts of some calls.

-- What a make is given.
pub record MakeData : Type 0 where
  pub parent : ℕ
  pub name : List ℕ

abbrev pub make_and : Call → Bool → List MakeData → List MakeData
make_and call false more = more
make_and (make parent name) true more = record { parent = parent; name = name } ∷ more
make_and (put node type bytes allowance) true more = more
make_and (close allowance) true more = more

abbrev pub put_and : Call → Bool → List PutData → List PutData
put_and call false more = more
put_and (make parent name) true more = more
put_and (put node type bytes allowance) true more = record { node = node; type = type; bytes = bytes } ∷ more
put_and (close allowance) true more = more

-- In their order.
abbrev pub makes_of : List Call → List (Answer ℕ) → List MakeData
makes_of [] answers = []
makes_of (c ∷ cs) [] = []
makes_of (c ∷ cs) (a ∷ answers) = make_and c (is_accepted a) (makes_of cs answers)

abbrev pub puts_of : List Call → List (Answer ℕ) → List PutData
puts_of [] answers = []
puts_of (c ∷ cs) [] = []
puts_of (c ∷ cs) (a ∷ answers) = put_and c (is_accepted a) (puts_of cs answers)

-- ---- The tree that makes and puts describe, node by node.

module _ (tree : Tree) where
  -- From node k on, each node has the parent and the name of its make.
  abbrev pub NodesMade : ℕ → List MakeData → Type 0
  NodesMade k [] = Unit {0}
  NodesMade k (m ∷ ms) = ((tree_node tree k).parent ≡ m.parent) × ((tree_node tree k).name ≡ m.name) × NodesMade (suc k) ms

  -- The node of each put has its type, as a number, and its bytes.
  abbrev pub NodesPut : List PutData → Type 0
  NodesPut [] = Unit {0}
  NodesPut (d ∷ ds) = (kind_code (tree_node tree d.node).kind ≡ d.type) × ((tree_node tree d.node).bytes ≡ d.bytes) × NodesPut ds

-- There is a node for each make, numbered from 1 on in their order, with its parent and name; the node of each put has its type and bytes; a node that no put is to is Void.
pub record TreeFrom (makes : List MakeData) (puts : List PutData) (tree : Tree) : Type 0 where
  pub count : length tree ≡ length makes
  pub made : NodesMade tree 1 makes
  pub filled : NodesPut tree puts
  pub void : (n : ℕ) → Apart n puts → ((tree_node tree n).kind ≡ Void) × ((tree_node tree n).bytes ≡ [])
