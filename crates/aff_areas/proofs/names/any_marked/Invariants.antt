-- The nodes from k on decide.
use Rattle.std.proofs.Common.{◌≡◌, ◌+◌, ◌-◌}
use Rattle.aff_format.specs.Lowest.{lowest_from}
use Rattle.aff_areas.specs.passes.Marks.{is_marked}
use Rattle.aff_areas.proofs.names.any_marked.Given as goal

abbrev pub invariant-loop-k : goal.invariant-loop-k
invariant-loop-k l = lowest_from (is_marked l.marks l.tree l.parent) (l.nodes + 1 - l.k) l.k ≡ lowest_from (is_marked l.marks l.tree l.parent) l.nodes 1
