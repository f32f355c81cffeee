-- One node more: where it is listed there is space for it, and it is written after the others.
use Rattle.std.proofs.Common.{arith}
use Rattle.aff_format.proofs.WrittenLaws.{written_same, written_more}
use Rattle.aff_listing.specs.passes.Listed.{listed}
use Rattle.aff_listing.proofs.KeptLaws.{kept_next, kept_fit_all}
use Rattle.aff_listing.proofs.listing.Listed.put_all.Goals as goal

pub put-end-requires : goal.put-end-requires
put-end-requires c =
    let fit = kept_fit_all (listed c.args.self.now) c.args.order.now c.loop-node.node-index (omega arith) in
    omega (arith, c.loop-node.invariant.ends)

pub loop-node-preserved : goal.loop-node-preserved
loop-node-preserved c =
    let fit = kept_fit_all (listed c.args.self.now) c.args.order.now c.loop-node.node-index (omega arith) in
    written_same (kept_next (listed c.args.self.now) c.args.order.now c.loop-node.node-index (omega arith))
    (written_more c.loop-node.invariant (omega arith) c.put-end.ensures)
