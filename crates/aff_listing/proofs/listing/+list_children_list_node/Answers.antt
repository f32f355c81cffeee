-- A node is written, and its children after it, one after the other along the next siblings.
use Rattle.std.proofs.Common.{◌≤◌, ◌∙◌, arith}
use Rattle.aff_listing.proofs.ListingLaws.{siblings_start, sibling_fits, siblings_next, node_fits, node_next}
use Rattle.aff_listing.proofs.listing.+list_children_list_node.Goals as goal

pub list_children-loop-k-init : goal.list_children-loop-k-init
list_children-loop-k-init t c =
    let n = c.first-k.ensures in
    (omega (arith, n.least), n.most, n.is_child, siblings_start _ _ _ _ _ _ c.requires.fits n)

pub list_children-loop-k-preserved : goal.list_children-loop-k-preserved
list_children-loop-k-preserved t c =
    let lp = c.loop-k in
    let h : lp.k ≤ c.args.children.now.belonging.opened.reader.nodes = omega arith in
    let n = c.after-k.ensures in (
      omega (arith, n.least),
      n.most,
      λ g. n.is_child g ∙ lp.invariant.2 h,
      siblings_next _ _ _ _ _ _ c.requires.fits lp.invariant.0 h (lp.invariant.2 h) lp.invariant.3 n c.list_node-end.ensures,
    )

pub list_node-put_number-end-requires-clause-space : goal.list_node-put_number-end-requires-clause-space
list_node-put_number-end-requires-clause-space t c = node_fits _ _ _ _ _ c.args.order.now c.if-depth-eq0.false c.requires.fits

pub list_node-returns : goal.list_node-returns
list_node-returns t c =
    node_next _ _ _ _ _ _ c.if-depth-eq0.false c.requires.fits c.put_number-end.ensures c.list_children.ensures

pub list_children-list_node-end-requires : goal.list_children-list_node-end-requires
list_children-list_node-end-requires t c =
    let lp = c.loop-k in
    (omega arith, (omega arith, sibling_fits _ _ _ _ _ _ c.requires.fits lp.invariant.0 (omega arith) (lp.invariant.2 (omega arith)) lp.invariant.3))
