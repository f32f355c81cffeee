-- What is counted is the value for the nodes below k.
use Rattle.std.proofs.Common.{◌≡◌, ◌+◌, ◌-◌, ◌*◌, ◌≤◌}
use Rattle.aff_areas.specs.Areas.{entry_sizes}
use Rattle.aff_areas.proofs.areas.entry_sizes.Given as goal

abbrev pub invariant-loop-k : goal.invariant-loop-k
invariant-loop-k l = (l.k ≤ l.nodes + 1) × (l.size ≡ entry_sizes l.tree (l.k - 1)) × (l.size ≤ 25 * (l.k - 1))
