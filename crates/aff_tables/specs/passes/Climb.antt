-- Parents copied once: number k of the list is the parent of node k; number 0 is the root's.
use Rattle.std.specs.Prelude.{ℕ, ◌+◌, ◌≤◌, ◌<◌, ◌≡◌, Bool, true, List, length, get_or}
use Rattle.aff_format.specs.Tree.{reaches_by}

abbrev pub copied_parent : List ℕ → ℕ → ℕ
copied_parent parents k = get_or parents k 0

-- Each of the nodes has a parent that exists.
pub record ParentsExist (parents : List ℕ) (nodes : ℕ) : Type 0 where
  pub few : nodes ≤ 2048
  pub listed : nodes < length parents
  pub linked : (k : ℕ) → 0 < k → k ≤ nodes → copied_parent parents k ≤ nodes

-- The mark of a node is the number of the climb that met it first, 0 for none. Here all are of climbs below k, which came to the root.
pub record Marked (parent : ℕ → ℕ) (nodes k : ℕ) (marks : List ℕ) : Type 0 where
  pub wide : nodes < length marks
  pub earlier : (y : ℕ) → (get_or marks y 0 ≡ 0 → ⊥) → get_or marks y 0 < k
  pub good : (y : ℕ) → (get_or marks y 0 ≡ 0 → ⊥) → reaches_by parent nodes y ≡ true

-- What the climb from k asks for.
pub record ClimbReady (parents : List ℕ) (nodes k : ℕ) (marks : List ℕ) : Type 0 where
  pub links : ParentsExist parents nodes
  pub start : 0 < k
  pub node : k ≤ nodes
  pub marked : Marked (copied_parent parents) nodes k marks

-- What it reports: whether it came to the root. If it did, the marks serve the next climb.
pub record Climbed (parent : ℕ → ℕ) (nodes k : ℕ) (marks : List ℕ) (r : Bool) : Type 0 where
  pub answer : r ≡ reaches_by parent nodes k
  pub marked : r ≡ true → Marked parent nodes (k + 1) marks
