-- The area holds the entries of the nodes below k at its front.
use Rattle.std.proofs.Common.{◌≡◌, ◌+◌, ◌-◌, ◌*◌, ◌≤◌, length}
use Rattle.aff_format.specs.Bytes.{spliced}
use Rattle.aff_areas.specs.Areas.{entries_out}
use Rattle.aff_areas.proofs.areas.entries_out.Given as goal

abbrev pub invariant-loop-k : goal.invariant-loop-k
invariant-loop-k l = (l.k ≤ l.nodes + 1) × (l.at ≡ length (entries_out l.tree (l.k - 1))) × (l.at ≤ 25 * (l.k - 1)) × (l.out ≡ spliced 0 (entries_out l.tree (l.k - 1)) l.initial.out)
