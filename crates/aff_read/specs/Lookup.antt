-- Which node has a path, said of the paths alone. Document 01, 'Reading keys': 'A lookup names the lowest node there, the only one while nothing lent
-- has been altered since opening'; where there is none the answer is 15.
use Rattle.std.specs.Prelude.{◌≡◌, List, ℕ, ◌≤◌, ◌<◌}
use Rattle.aff_reader.specs.declared.reader.Reader.{Reader}
use Rattle.aff_nodes.specs.Recall.{path_at}

-- 'The lowest node there': n has the path, and no node below it has.
pub record LowestWith (image : List ℕ) (reader : Reader) (strings entries path : List ℕ) (n : ℕ) : Type 0 where
  pub exists : n ≤ reader.nodes
  pub has : path_at image reader strings entries n ≡ path
  pub least : (k : ℕ) → k < n → path_at image reader strings entries k ≡ path → ⊥

-- 'The only one': n, and no other node, has the path.
pub record OnlyWith (image : List ℕ) (reader : Reader) (strings entries path : List ℕ) (n : ℕ) : Type 0 where
  pub exists : n ≤ reader.nodes
  pub has : path_at image reader strings entries n ≡ path
  pub only : (k : ℕ) → k ≤ reader.nodes → path_at image reader strings entries k ≡ path → k ≡ n

-- No node has the path.
abbrev pub NoneWith : List ℕ → Reader → List ℕ → List ℕ → List ℕ → Type 0
NoneWith image reader strings entries path = (k : ℕ) → k ≤ reader.nodes → path_at image reader strings entries k ≡ path → ⊥
