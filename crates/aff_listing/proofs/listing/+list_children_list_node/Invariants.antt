-- The measures: remaining depth falls from a node to its children's subtrees, and the siblings left in the loop. The invariant: the subtrees of the
-- children below k are written, and k is the next child.
use Rattle.std.proofs.Common.{◌≡◌, ◌<◌, ◌≤◌, ◌+◌, ◌-◌, ◌*◌}
use Rattle.aff_format.specs.passes.Written.{Written}
use Rattle.aff_listing.specs.passes.Children.{parent_of, subtrees}
use Rattle.aff_listing.proofs.listing.+list_children_list_node.Given as goal

abbrev pub decreases-list_children : goal.decreases-list_children
decreases-list_children l = 2 * l.depth + 1

abbrev pub decreases-list_node : goal.decreases-list_node
decreases-list_node l = 2 * l.depth

abbrev pub invariant-list_children-loop-k : goal.invariant-list_children-loop-k
invariant-list_children-loop-k l =
    (0 < l.k)
    × (l.k ≤ l.nodes + 1)
    × (l.k ≤ l.nodes → parent_of l.children.belonging.opened l.k ≡ l.node)
    × Written l.at (subtrees l.children.belonging.opened l.depth l.node l.k) l.fn.order l.order l.end

abbrev pub decreases-list_children-loop-k : goal.decreases-list_children-loop-k
decreases-list_children-loop-k l = l.nodes + 1 - l.k
