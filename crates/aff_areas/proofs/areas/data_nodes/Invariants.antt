-- What is counted is the value for the nodes below k.
use Rattle.std.proofs.Common.{◌≡◌, ◌+◌, ◌-◌, ◌≤◌}
use Rattle.aff_areas.specs.Areas.{data_nodes}
use Rattle.aff_areas.proofs.areas.data_nodes.Given as goal

abbrev pub invariant-loop-k : goal.invariant-loop-k
invariant-loop-k l = (l.k ≤ l.nodes + 1) × (l.count ≡ data_nodes l.tree (l.k - 1)) × (l.count ≤ l.k - 1)
