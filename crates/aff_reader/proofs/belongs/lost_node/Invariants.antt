-- The nodes left decide, and the parents of those passed are copied.
use Rattle.std.proofs.Common.{◌-◌, ◌≡◌, ◌+◌}
use Rattle.aff_format.specs.Lowest.{lowest_from}
use Rattle.aff_format.specs.Recorded.{recorded_entry}
use Rattle.aff_reader.specs.Belongs.{node_lost}
use Rattle.aff_reader.specs.passes.Belongs.{ParentsCopied}
use Rattle.aff_reader.proofs.belongs.lost_node.Given as goal

abbrev pub invariant-loop-k : goal.invariant-loop-k
invariant-loop-k l =
    (lowest_from (node_lost l.entries.image.now l.strings l.nodes l.entries.places.now) (l.nodes + 1 - l.k) l.k
    ≡ lowest_from (node_lost l.entries.image.now l.strings l.nodes l.entries.places.now) l.nodes 1)
    × ParentsCopied (recorded_entry l.entries.image.now l.entries.places.now) (l.k - 1) l.parents
