-- Climbs by two parent functions that agree on nodes 1 to m, and whose parents stay within m, are the same: step for step. Assumes nothing.
use mathlib.Core.Path.{◌≡◌, refl, sym, ap, ◌∙◌}
use mathlib.Core.Bool.{not}
use mathlib.Core.List.{List}
use mathlib.Core.Logic.{⊎_elim}
use Prim.Native.Nat.{ℕ, zero, suc, ◌≤◌, ◌<◌}
use native.Mathlib.Omega.{arith}
use lib.ListN.{length, get_or}
use Rattle.aff_format.specs.Limits.{node_limit}
use Rattle.aff_format.specs.Lowest.{lowest_from}
use Rattle.aff_format.specs.Tree.{reaches_by}
use Rattle.aff_format.specs.declared.entry.Entry.{Entry}
use Rattle.aff_format.proofs.ClimbLaws.{reaches_up, at_zero}
use Rattle.aff_format.proofs.LowestLaws.{lowest_same}
use Rattle.aff_tables.specs.passes.Climb.{ParentsExist, copied_parent}
use Rattle.aff_tables.specs.Nodes.{climb_endless}

module _ (parent other : ℕ → ℕ) (m : ℕ)
    (agree : (k : ℕ) → 0 < k → k ≤ m → parent k ≡ other k) (within : (k : ℕ) → 0 < k → k ≤ m → parent k ≤ m) where
  pub reaches_same : (steps n : ℕ) → n ≤ m → reaches_by parent steps n ≡ reaches_by other steps n
  unfolding reaches_by
  reaches_same zero n l = refl
  reaches_same (suc steps) n l =
      ⊎_elim (λ (z : n ≡ 0). rw z)
      (λ (z : 0 < n).
      reaches_up parent steps n (λ q. omega arith)
      ∙ reaches_same steps (parent n) (within n z l)
      ∙ ap (reaches_by other steps) (agree n z l)
      ∙ sym (reaches_up other steps n (λ q. omega arith)))
      (at_zero parent n)

-- Parents copied from entries whose parents exist: they are linked, and the climbs by them are those by the entries.
module _ (entry : ℕ → Entry) (nodes : ℕ) (parents : List ℕ)
    (copied : (k : ℕ) → 0 < k → k ≤ nodes → get_or parents k 0 ≡ (entry k).parent) (within : (k : ℕ) → 0 < k → k ≤ nodes → (entry k).parent ≤ nodes) where
  copied_within : (k : ℕ) → 0 < k → k ≤ nodes → get_or parents k 0 ≤ nodes
  copied_within k lo hi = rw (copied k lo hi) (within k lo hi)

  pub copied_linked : nodes ≤ node_limit → nodes < length parents → ParentsExist parents nodes
  copied_linked few listed = record { few = few; listed = listed; linked = copied_within }

  pub copied_climbs : lowest_from (λ k. not (reaches_by (copied_parent parents) nodes k)) nodes 1 ≡ lowest_from (climb_endless nodes entry) nodes 1
  unfolding climb_endless
  copied_climbs =
      lowest_same _ _ nodes 1
      (λ k lo hi. ap not (reaches_same (copied_parent parents) (λ j. (entry j).parent) nodes copied copied_within nodes k (omega arith)))
