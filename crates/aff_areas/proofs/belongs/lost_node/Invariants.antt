-- The nodes from k on decide.
use Rattle.std.proofs.Common.{◌≡◌, ◌+◌, ◌-◌}
use Rattle.aff_format.specs.Lowest.{lowest_from}
use Rattle.aff_areas.specs.Belongs.{writer_node_lost}
use Rattle.aff_areas.proofs.belongs.lost_node.Given as goal

abbrev pub invariant-loop-k : goal.invariant-loop-k
invariant-loop-k l = lowest_from (writer_node_lost l.strings l.bounds.from l.bounds.size l.tree) (l.nodes + 1 - l.k) l.k ≡ lowest_from (writer_node_lost l.strings l.bounds.from l.bounds.size l.tree) l.nodes 1
