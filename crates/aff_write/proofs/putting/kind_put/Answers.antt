-- The record belongs, so that its sums are small.
use Rattle.std.proofs.Common.{arith}
use Rattle.aff_areas.proofs.BelongsLaws.{belongs_record}
use Rattle.aff_write.proofs.putting.kind_put.Goals as goal

pub takes_none-requires : goal.takes_none-requires
takes_none-requires c = let b = belongs_record c.args.held.now.belongs in omega (arith, b.few_nodes, c.if-writer-node.false)

pub overflow_add-finished_size : goal.overflow_add-finished_size
overflow_add-finished_size c =
    let b = belongs_record c.args.held.now.belongs in
    omega (arith, b.length_allowed, c.finished_size.ensures.fits)

pub overflow_add-finished_size-2 : goal.overflow_add-finished_size-2
overflow_add-finished_size-2 c =
    let b = belongs_record c.args.held.now.belongs in
    omega (arith, b.length_allowed, c.finished_size.ensures.fits, c.padding.ensures.few)

pub overflow_add-finished_size-3 : goal.overflow_add-finished_size-3
overflow_add-finished_size-3 c =
    let b = belongs_record c.args.held.now.belongs in
    omega (arith, b.length_allowed, c.finished_size.ensures.fits, c.padding.ensures.few)
