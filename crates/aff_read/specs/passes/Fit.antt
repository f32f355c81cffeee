-- How far the path of a node goes along a given path: what a lookup computes once for each node.
use Rattle.std.specs.Prelude.{◌≡◌, cond, List, [], ◌∷◌, ℕ, ◌+◌, ◌≤◌, ◌<◌, eqb, length, get_or, Option, Some, None}
use Rattle.aff_format.specs.Tree.{front_by}
use Rattle.aff_format.specs.Recorded.{recorded_entry}
use Rattle.aff_reader.specs.declared.reader.Reader.{Reader}
use Rattle.aff_nodes.specs.Recall.{parent_at, name_at}
use Rattle.aff_read.specs.declared.paths.Step.{Step}
use Rattle.aff_read.specs.passes.Climb.{above}

-- A text against the rest of a path, of which n bytes went before: the place in the path where the text ends, or None where the rest does not begin with it.
unfoldable pub fit_from : List ℕ → List ℕ → ℕ → Option ℕ
fit_from [] path n = Some n
fit_from (x ∷ text) [] n = None
fit_from (x ∷ text) (y ∷ path) n = cond (eqb x y) (fit_from text path (n + 1)) None

-- The fit of node k: of the bytes before a child's slash.
unfoldable pub fit_at : List ℕ → Reader → List ℕ → List ℕ → List ℕ → ℕ → Option ℕ
fit_at image reader strings entries path k =
    fit_from (front_by (parent_at image entries) (name_at image reader strings entries) reader.nodes k) path 0

-- What is settled of node k: its fit, or None.
abbrev pub settled_at : List (Option (Option ℕ)) → ℕ → Option (Option ℕ)
settled_at fits k = get_or fits k None

-- What is settled of each node is its fit. The root is settled.
pub record FitsSettled (image : List ℕ) (reader : Reader) (strings entries path : List ℕ) (fits : List (Option (Option ℕ))) : Type 0 where
  pub wide : reader.nodes < length fits
  pub root : settled_at fits 0 ≡ None → ⊥
  pub reported : (k : ℕ) (f : Option ℕ) → k ≤ reader.nodes → settled_at fits k ≡ Some f → f ≡ fit_at image reader strings entries path k

-- The node that a climb from a node has reached after so many steps.
abbrev pub above_at : List ℕ → Reader → List ℕ → List ℕ → ℕ → ℕ → ℕ
above_at image reader strings entries = above (parent_at image entries)

-- What is stored of node k on a climb: it, with the number of its string.
abbrev pub step_of : List ℕ → List ℕ → ℕ → Step
step_of image entries k = record { node = k; string = (recorded_entry image entries k).string }

-- Step j of those stored.
abbrev pub step_at : List Step → ℕ → Step
step_at steps j = get_or steps j (record { node = 0; string = 0 })

-- The first `count` nodes of the climb from a node are stored, and none is the root.
pub record Chain (image : List ℕ) (reader : Reader) (strings entries : List ℕ) (node : ℕ) (steps : List Step) (count : ℕ) : Type 0 where
  pub few : count ≤ reader.nodes
  pub exist : (j : ℕ) → j ≤ count → above (parent_at image entries) j node ≤ reader.nodes
  pub others : (j : ℕ) → j < count → 0 < above (parent_at image entries) j node
  pub stored : (j : ℕ) → j < count → step_at steps j ≡ step_of image entries (above (parent_at image entries) j node)
