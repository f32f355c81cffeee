-- The invariant: the numbers of the nodes passed are copied, and the lowest of the nodes left is the lowest of all.
use Rattle.std.proofs.Common.{◌≡◌, ℕ, ◌+◌, ◌-◌}
use Rattle.aff_format.specs.Lowest.{lowest_from}
use Rattle.aff_format.specs.Recorded.{recorded_entry}
use Rattle.aff_tables.specs.passes.Results.{link_bad, Copied}
use Rattle.aff_tables.proofs.links.links.Given as goal

abbrev pub invariant-loop-k : goal.invariant-loop-k
invariant-loop-k l =
    let entry = recorded_entry l.entries.image.now l.entries.places.now in
    let test = λ (j : ℕ). link_bad l.nodes l.strings l.sound (entry j) in
    Copied entry (l.k - 1) l.parents l.names × (lowest_from test (l.nodes + 1 - l.k) l.k ≡ lowest_from test l.nodes 1)
