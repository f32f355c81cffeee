-- The invariant: the nodes above k are linked.
use Rattle.std.proofs.Common.{◌+◌}
use Rattle.aff_listing.specs.passes.Children.{ChildTables, parent_of}
use Rattle.aff_listing.proofs.links.link_all.Given as goal

abbrev pub invariant-loop-k : goal.invariant-loop-k
invariant-loop-k l = ChildTables (parent_of l.belonging.opened) l.nodes (l.k + 1) l.links
