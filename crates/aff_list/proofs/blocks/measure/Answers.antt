use Rattle.std.proofs.Common.{◌≤◌, length, sym, ◌∙◌, add-zero, arith}
use Rattle.aff_format.proofs.LowestLaws.{lowest_here, lowest_on, lowest_end}
use Rattle.aff_list.proofs.ReadyLaws.{path_measured}
use Rattle.aff_list.proofs.blocks.measure.Goals as goal

pub returns-then-is_none : goal.returns-then-is_none
returns-then-is_none c =
    let long = path_measured _ _ _ _ _ _ c.path_length.ensures c.is_none.ensures ∙ c.if-is_none.true in
    rw (sym c.loop-node.invariant ∙ sym (lowest_here _ _ _ 0 (omega arith) (rw (add-zero c.loop-node.node-index) long)))

pub loop-node-preserved : goal.loop-node-preserved
loop-node-preserved c =
    let short = path_measured _ _ _ _ _ _ c.path_length.ensures c.is_none.ensures ∙ c.if-is_none.false in
    lowest_on _ _ _ 0 (omega arith) (rw (add-zero c.loop-node.node-index) short) ∙ c.loop-node.invariant

pub returns : goal.returns
returns c =
    let h : length c.args.order.now ≤ c.loop-node.node-index = omega arith in
    rw (sym c.loop-node.invariant ∙ sym (lowest_end _ _ _ 0 h))
