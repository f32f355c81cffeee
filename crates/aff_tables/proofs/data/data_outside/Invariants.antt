-- The invariant: the lowest of the nodes left is the lowest of all.
use Rattle.std.proofs.Common.{◌≡◌, ◌+◌, ◌-◌}
use Rattle.aff_format.specs.Lowest.{lowest_from}
use Rattle.aff_format.specs.Recorded.{recorded_entry}
use Rattle.aff_tables.specs.Nodes.{data_outside}
use Rattle.aff_tables.proofs.data.data_outside.Given as goal

abbrev pub invariant-loop-k : goal.invariant-loop-k
invariant-loop-k l =
    let test = data_outside l.bounds.from l.bounds.size (recorded_entry l.entries.image.now l.entries.places.now) in
    lowest_from test (l.nodes + 1 - l.k) l.k ≡ lowest_from test l.nodes 1
